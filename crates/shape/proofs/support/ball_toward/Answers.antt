-- `ball_toward` returns the definition's `ball_toward`.
use Rattle.shape.specs.Support.{ball_toward}
use Rattle.shape.proofs.support.ball_toward.Goals as goal

pub returns : goal.returns
unfolding ball_toward
returns c = simp (← c.mul.ensures, ← c.add.ensures)
