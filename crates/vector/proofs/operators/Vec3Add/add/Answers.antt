-- `Vec3::add` returns `add_v`, operation by operation.
use mathlib.Core.Path.{refl}
use Rattle.vector.specs.Vector.{add_v}
use Rattle.vector.proofs.operators.Vec3Add.add.Goals as goal

pub returns : goal.returns
unfolding add_v
returns c = refl
