-- `queue_both` does two `enqueue`: the first ends the run, or the second does the rest. Assumes nothing.
use lib.Ieee.{of_bits}
use Rattle.epa_polytope.proofs.Doing.{goes_on, hands-on}
use Rattle.epa_polytope.proofs.Pairing.{ends_so}
use Rattle.epa_first_faces.proofs.two.queue_both.Goals as goal

pub returns-in_err-next-clause-leaves : goal.returns-in_err-next-clause-leaves
unfolding of_bits
returns-in_err-next-clause-leaves c = hands-on c.from_residual.ensures.1 (ends_so _ c.enqueue.ensures.leaves c.in_err-next.was)

pub returns-clause-leaves : goal.returns-clause-leaves
unfolding of_bits
returns-clause-leaves c = goes_on _ c.enqueue.ensures.leaves c.in_ok-next.was c.enqueue-2.ensures.leaves
