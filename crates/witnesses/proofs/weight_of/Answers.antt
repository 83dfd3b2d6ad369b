-- `weight_of` returns the definition's `weight_of`, by the flag.
use Rattle.witnesses.specs.Witnesses.{weight_of}
use Rattle.witnesses.proofs.weight_of.Goals as goal

pub returns-then-prev : goal.returns-then-prev
unfolding weight_of
returns-then-prev c = simp (← c.prev_proj_coord.ensures.answer, c.if-prev.true)

pub returns-else-prev : goal.returns-else-prev
unfolding weight_of
returns-else-prev c = simp (← c.proj_coord.ensures.answer, c.if-prev.false)
