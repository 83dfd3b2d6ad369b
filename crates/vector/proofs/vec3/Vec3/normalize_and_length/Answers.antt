-- `Vec3::normalize_and_length` returns `normalize_and_length_v`, by the two arms of its test.
use lib.Ieee.{of_bits}
use Rattle.vector.specs.Vector.{normalize_and_length_v, x_v}
use Rattle.vector.proofs.vec3.Vec3.normalize_and_length.Goals as goal

pub returns-then-is_usable : goal.returns-then-is_usable
unfolding normalize_and_length_v of_bits
returns-then-is_usable c = simp (← c.length-length.ensures, ← c.is_usable.ensures, ← c.mul.ensures, c.if-is_usable.true)

pub returns-else-is_usable : goal.returns-else-is_usable
unfolding normalize_and_length_v x_v of_bits
returns-else-is_usable c = simp (← c.length-length.ensures, ← c.is_usable.ensures, c.if-is_usable.false)
