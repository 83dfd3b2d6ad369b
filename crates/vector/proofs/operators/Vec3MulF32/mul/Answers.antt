-- `Vec3::scale` returns `scale_v`, operation by operation.
use mathlib.Core.Path.{refl}
use Rattle.vector.specs.Vector.{scale_v}
use Rattle.vector.proofs.operators.Vec3MulF32.mul.Goals as goal

pub returns : goal.returns
unfolding scale_v
returns c = refl
