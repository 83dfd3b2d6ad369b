-- `Vec3::sub` returns `sub_v`, operation by operation.
use mathlib.Core.Path.{refl}
use Rattle.vector.specs.Vector.{sub_v}
use Rattle.vector.proofs.operators.Vec3Sub.sub.Goals as goal

pub returns : goal.returns
unfolding sub_v
returns c = refl
