-- `last_of` returns the definition's `last_of`, by the flag.
use Rattle.witnesses.specs.Witnesses.{last_of}
use Rattle.witnesses.proofs.last_of.Goals as goal

pub returns-then-prev : goal.returns-then-prev
unfolding last_of
returns-then-prev c = simp c.if-prev.true

pub returns-else-prev : goal.returns-else-prev
unfolding last_of
returns-else-prev c = simp c.if-prev.false
