-- `Rotation::inverse` returns `inverse_r`.
use mathlib.Core.Path.{refl}
use Rattle.vector.specs.Pose.{inverse_r}
use Rattle.vector.proofs.pose.Rotation.inverse.Goals as goal

pub returns : goal.returns
unfolding inverse_r
returns c = refl
