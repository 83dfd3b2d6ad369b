-- `Shape::in_pose_toward` returns `in_pose` of the shape's local answer, call by call. Assumes nothing.
use Rattle.shape.specs.Support.{in_pose}
use Rattle.shape.proofs.support.Shape.in_pose_toward.Goals as goal

pub returns : goal.returns
unfolding in_pose
returns c = simp (← c.inverse_transform_vector-local_dir.ensures, ← c.local_support_point_toward.ensures, ← c.transform_point.ensures)
