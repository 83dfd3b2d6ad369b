-- What `vertex_at` returns. Assumes nothing.
use lib.Ieee.{of_bits}
use borrow.Author.Tests.{le-ltb, lt-ltb}
use Rattle.epa_polytope.specs.Stores.{vertex_at}
use Rattle.epa_stores.proofs.vertex_at.Goals as goal

pub returns-then-i-vertices : goal.returns-then-i-vertices
unfolding vertex_at
returns-then-i-vertices c = simp (← c.vec_at-point.ensures, ← c.vec_at-orig1.ensures, ← c.vec_at-orig2.ensures, lt-ltb _ _ c.if-i-vertices.true)

pub returns : goal.returns
unfolding vertex_at of_bits
returns c = simp (le-ltb _ _ c.if-i-vertices.false)
