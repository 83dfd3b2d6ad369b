-- What `normal_of` returns. Assumes nothing.
use lib.Ieee.{of_bits}
use borrow.Author.Tests.{le-ltb, lt-ltb}
use Rattle.epa_polytope.specs.Stores.{normal_of}
use Rattle.epa_stores.proofs.normal_of.Goals as goal

pub returns-then-i-floats : goal.returns-then-i-floats
unfolding normal_of
returns-then-i-floats c = simp (← c.vec_at.ensures, lt-ltb _ _ c.if-i-floats.true)

pub returns : goal.returns
unfolding normal_of of_bits
returns c = simp (le-ltb _ _ c.if-i-floats.false)
