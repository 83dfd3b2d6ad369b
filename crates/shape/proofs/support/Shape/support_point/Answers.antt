-- `Shape::support_point` returns the definition's `support_point`, shape by shape: a ball by its own rule, the others by the default over their local answers. Assumes nothing.
use lib.Ieee.{of_bits}
use Rattle.vector.specs.Vector.{y_v}
use Rattle.shape.specs.Support.{ball_or, unit_for, local_support_point_toward, local_support_point, in_pose, support_point}
use Rattle.shape.proofs.support.Shape.support_point.Goals as goal

pub returns-in-Ball : goal.returns-in-Ball
unfolding support_point ball_or
returns-in-Ball c = simp (← c.normalize.ensures, ← c.ball_toward.ensures, c.in-Ball.is)

pub returns-in-Cuboid : goal.returns-in-Cuboid
unfolding support_point ball_or in_pose local_support_point local_support_point_toward unit_for
returns-in-Cuboid c = simp (← c.inverse_transform_vector-local_dir.ensures, ← c.new.ensures, ← c.cuboid_local.ensures, ← c.transform_point.ensures, c.in-Cuboid.is)

pub returns-in-Capsule : goal.returns-in-Capsule
unfolding support_point ball_or in_pose local_support_point local_support_point_toward unit_for y_v of_bits
returns-in-Capsule c = simp (← c.new-a.ensures, ← c.new-b.ensures, ← c.inverse_transform_vector.ensures, ← c.normalize_or-local_dir.ensures, ← c.capsule_toward.ensures, ← c.transform_point-in-Capsule.ensures, c.in-Capsule.is)

pub returns-in-Triangle : goal.returns-in-Triangle
unfolding support_point ball_or in_pose local_support_point local_support_point_toward unit_for
returns-in-Triangle c = simp (← c.new-a-in-Triangle.ensures, ← c.new-b-in-Triangle.ensures, ← c.new-c.ensures, ← c.inverse_transform_vector-local_dir-in-Triangle.ensures, ← c.triangle_local.ensures, ← c.transform_point-in-Triangle.ensures, c.in-Triangle.is)
