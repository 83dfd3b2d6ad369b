-- `Shape::support_point_toward` returns the definition's `support_point_toward`: a ball by its own rule, the others by the default. Assumes nothing.
use mathlib.Core.Path.{◌∙◌}
use Rattle.shape.specs.Support.{ball_or, support_point_toward}
use Rattle.shape.proofs.Default.{by_default}
use Rattle.shape.proofs.support.Shape.support_point_toward.Goals as goal

pub returns-in-Ball : goal.returns-in-Ball
unfolding support_point_toward ball_or
returns-in-Ball c = simp (← c.ball_toward.ensures, c.in-Ball.is)

pub returns-in_default : goal.returns-in_default
unfolding support_point_toward
returns-in_default c = c.in_pose_toward.ensures ∙ by_default _ _ _ c.in_default.not-Ball
