-- What `better` returns, by its one test. Assumes nothing.
use Rattle.epa_polytope.specs.Run.{bettered}
use Rattle.epa_expansion.proofs.popped.better.Goals as goal

pub returns-then-candidate-best : goal.returns-then-candidate-best
unfolding bettered
returns-then-candidate-best c = rw c.if-candidate-best.true

pub returns : goal.returns
unfolding bettered
returns c = rw c.if-candidate-best.false
