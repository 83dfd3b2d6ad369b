-- `capsule_toward` returns the definition's `capsule_toward`, by the two arms of its test.
use Rattle.shape.specs.Support.{capsule_toward}
use Rattle.shape.proofs.support.capsule_toward.Goals as goal

pub returns-then-dot : goal.returns-then-dot
unfolding capsule_toward
returns-then-dot c = simp (← c.dot.ensures, ← c.dot-2.ensures, ← c.mul.ensures, ← c.add.ensures, c.if-dot.true)

pub returns-else-dot : goal.returns-else-dot
unfolding capsule_toward
returns-else-dot c = simp (← c.dot.ensures, ← c.dot-2.ensures, ← c.mul-else-dot.ensures, ← c.add-else-dot.ensures, c.if-dot.false)
