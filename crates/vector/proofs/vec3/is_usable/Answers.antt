-- `is_usable` returns `usable`: the test on finiteness is what `is_finite` returns.
use lib.Ieee.{of_bits}
use Rattle.vector.specs.Vector.{usable}
use Rattle.vector.proofs.vec3.is_usable.Goals as goal

pub returns : goal.returns
unfolding usable of_bits
returns c = simp (← c.is_finite.ensures)
