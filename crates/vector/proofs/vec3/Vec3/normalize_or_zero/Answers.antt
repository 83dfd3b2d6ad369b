-- `Vec3::normalize_or_zero` returns `normalize_or_zero_v`.
use lib.Ieee.{of_bits}
use Rattle.vector.specs.Vector.{normalize_or_zero_v, zero_v}
use Rattle.vector.proofs.vec3.Vec3.normalize_or_zero.Goals as goal

pub returns : goal.returns
unfolding normalize_or_zero_v zero_v of_bits
returns c = c.normalize_or.ensures
