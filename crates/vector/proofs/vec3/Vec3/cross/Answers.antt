-- `Vec3::cross` returns `cross_v`, operation by operation.
use mathlib.Core.Path.{refl}
use Rattle.vector.specs.Vector.{cross_v}
use Rattle.vector.proofs.vec3.Vec3.cross.Goals as goal

pub returns : goal.returns
unfolding cross_v
returns c = refl
