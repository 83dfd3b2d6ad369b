-- `Pose::inverse_transform_vector` returns the definition's `inverse_transform_vector`.
use Rattle.vector.specs.Pose.{inverse_transform_vector}
use Rattle.vector.proofs.pose.Pose.inverse_transform_vector.Goals as goal

pub returns : goal.returns
unfolding inverse_transform_vector
returns c = simp (← c.inverse.ensures, ← c.rotate.ensures)
