-- `queue_four` does what the run's `queue_four` does: two pairs are queued or left, either of which may end the run, and one of the four has to hold. Assumes nothing.
use Rattle.epa_polytope.specs.Promises.{single}
use Rattle.epa_polytope.proofs.Doing.{hands-on}
use Rattle.epa_polytope.proofs.StartingFour.{first-pair-ends, second-pair-ends, one_holds, none-holds}
use Rattle.epa_first_faces.proofs.four.queue_four.Goals as goal

pub returns-in_err-two-clause-leaves : goal.returns-in_err-two-clause-leaves
returns-in_err-two-clause-leaves c =
    hands-on c.from_residual.ensures.1 (first-pair-ends single _ _ _ _ _ c.queue_two.ensures.leaves c.in_err-two.was)

pub returns-in_err-four-clause-leaves : goal.returns-in_err-four-clause-leaves
returns-in_err-four-clause-leaves c =
    hands-on c.from_residual-in_err-four.ensures.1
    (second-pair-ends single _ _ _ _ _ c.queue_two.ensures.leaves c.in_ok-two.was c.queue_two-2.ensures.leaves
    c.in_err-four.was)

pub returns-then-h1-h2-clause-leaves : goal.returns-then-h1-h2-clause-leaves
returns-then-h1-h2-clause-leaves c =
    one_holds single _ _ _ _ _ c.queue_two.ensures.leaves c.in_ok-two.was c.queue_two-2.ensures.leaves
    c.in_ok-four.was c.if-h1-h2.true

pub returns-clause-leaves : goal.returns-clause-leaves
returns-clause-leaves c =
    none-holds single _ _ _ _ _ c.queue_two.ensures.leaves c.in_ok-two.was c.queue_two-2.ensures.leaves
    c.in_ok-four.was c.if-h1-h2.false
