-- `Rotation::axis` returns `axis_r`.
use mathlib.Core.Path.{refl}
use Rattle.vector.specs.Pose.{axis_r}
use Rattle.vector.proofs.pose.Rotation.axis.Goals as goal

pub returns : goal.returns
unfolding axis_r
returns c = refl
