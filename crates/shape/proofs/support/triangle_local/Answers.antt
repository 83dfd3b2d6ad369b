-- `triangle_local` returns the definition's `triangle_local`, by its tests.
use Rattle.shape.specs.Support.{triangle_local}
use Rattle.shape.proofs.support.triangle_local.Goals as goal

pub returns-then-d1-d3 : goal.returns-then-d1-d3
unfolding triangle_local
returns-then-d1-d3 c = simp (← c.dot-d1.ensures, ← c.dot-d2.ensures, ← c.dot-d3.ensures, c.if-d1-d3.true, c.if-d1-d2.true)

pub returns-else-d1-d3 : goal.returns-else-d1-d3
unfolding triangle_local
returns-else-d1-d3 c = simp (← c.dot-d1.ensures, ← c.dot-d2.ensures, ← c.dot-d3.ensures, c.if-d1-d3.false, c.if-d1-d2.true)

pub returns-then-d2-d3 : goal.returns-then-d2-d3
unfolding triangle_local
returns-then-d2-d3 c = simp (← c.dot-d1.ensures, ← c.dot-d2.ensures, ← c.dot-d3.ensures, c.if-d2-d3.true, c.if-d1-d2.false)

pub returns-else-d2-d3 : goal.returns-else-d2-d3
unfolding triangle_local
returns-else-d2-d3 c = simp (← c.dot-d1.ensures, ← c.dot-d2.ensures, ← c.dot-d3.ensures, c.if-d2-d3.false, c.if-d1-d2.false)
