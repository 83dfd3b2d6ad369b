-- `corner_of` returns the definition's `corner_of`, by the flag.
use Rattle.witnesses.specs.Witnesses.{corner_of}
use Rattle.witnesses.proofs.corner_of.Goals as goal

pub returns-then-prev : goal.returns-then-prev
unfolding corner_of
returns-then-prev c = simp (← c.prev_point.ensures.answer, c.if-prev.true)

pub returns-else-prev : goal.returns-else-prev
unfolding corner_of
returns-else-prev c = simp (← c.point.ensures.answer, c.if-prev.false)
