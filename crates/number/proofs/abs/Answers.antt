-- `number::abs` meets its contract: what has the minus sign is negated, and any other value has no sign to lose. Assumes nothing.
use mathlib.Core.Path.{sym, ◌∙◌}
use Rattle.number.proofs.Values.{turned, kept}
use Rattle.number.proofs.abs.Goals as goal

pub returns-then-has_minus : goal.returns-then-has_minus
returns-then-has_minus c = turned c.args.x (sym c.has_minus.ensures ∙ c.if-has_minus.true)

pub returns-else-has_minus : goal.returns-else-has_minus
returns-else-has_minus c = kept c.args.x (sym c.has_minus.ensures ∙ c.if-has_minus.false)
