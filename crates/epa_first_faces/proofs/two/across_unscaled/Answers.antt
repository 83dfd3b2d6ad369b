-- What `across_unscaled` returns, its calls folded back in the order of the code. Assumes nothing.
use lib.Ieee.{of_bits}
use Rattle.epa_polytope.specs.Start.{across}
use Rattle.epa_first_faces.proofs.two.across_unscaled.Goals as goal

pub returns-then-abs : goal.returns-then-abs
unfolding across of_bits
returns-then-abs c = simp (← c.new.ensures, ← c.abs-2.ensures, ← c.abs.ensures, c.if-abs.true)

pub returns : goal.returns
unfolding across of_bits
returns c = simp (← c.new-2.ensures, ← c.abs-2.ensures, ← c.abs.ensures, c.if-abs.false)
