-- `Vec3::dot` returns `dot_v`, operation by operation.
use mathlib.Core.Path.{refl}
use Rattle.vector.specs.Vector.{dot_v}
use Rattle.vector.proofs.vec3.Vec3.dot.Goals as goal

pub returns : goal.returns
unfolding dot_v
returns c = refl
