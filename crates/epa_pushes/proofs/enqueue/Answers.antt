-- `enqueue` does what the step `enqueue` does: the heap's room, and the entry. Assumes nothing.
use Rattle.epa_polytope.proofs.Pushing.{heap-refused, queued}
use Rattle.epa_pushes.proofs.enqueue.Goals as goal

pub returns-in_default-clause-leaves : goal.returns-in_default-clause-leaves
returns-in_default-clause-leaves c = heap-refused _ _ _ _ c.push-pushed.ensures.answer c.in_default.is

pub returns-clause-leaves : goal.returns-clause-leaves
returns-clause-leaves c = queued _ _ _ _ c.push-pushed.ensures.answer c.in-Ok.is
