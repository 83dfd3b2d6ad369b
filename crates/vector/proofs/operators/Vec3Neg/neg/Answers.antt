-- `Vec3::neg` returns `neg_v`, operation by operation.
use mathlib.Core.Path.{refl}
use Rattle.vector.specs.Vector.{neg_v}
use Rattle.vector.proofs.operators.Vec3Neg.neg.Goals as goal

pub returns : goal.returns
unfolding neg_v
returns c = refl
