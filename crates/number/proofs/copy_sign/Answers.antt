-- `number::copy_sign` meets its contract: the size, negated where the sign has a minus. Assumes nothing.
use Rattle.number.specs.Small.{absolute, copy_sign}
use Rattle.number.proofs.Values.{negated}
use Rattle.number.proofs.copy_sign.Goals as goal

pub returns-then-has_minus : goal.returns-then-has_minus
unfolding copy_sign
returns-then-has_minus c = rw (c.abs-size.ensures, ← c.has_minus.ensures, c.if-has_minus.true) (negated c.args.magnitude)

pub returns-else-has_minus : goal.returns-else-has_minus
unfolding copy_sign absolute
returns-else-has_minus c = rw (← c.has_minus.ensures, c.if-has_minus.false) c.abs-size.ensures
