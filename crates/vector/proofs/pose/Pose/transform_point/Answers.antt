-- `Pose::transform_point` returns the definition's `transform_point`.
use Rattle.vector.specs.Pose.{transform_point}
use Rattle.vector.proofs.pose.Pose.transform_point.Goals as goal

pub returns : goal.returns
unfolding transform_point
returns c = simp (← c.rotate.ensures, ← c.add.ensures)
