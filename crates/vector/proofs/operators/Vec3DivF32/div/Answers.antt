-- `Vec3::div` returns `div_v`, operation by operation.
use mathlib.Core.Path.{refl}
use Rattle.vector.specs.Vector.{div_v}
use Rattle.vector.proofs.operators.Vec3DivF32.div.Goals as goal

pub returns : goal.returns
unfolding div_v
returns c = refl
