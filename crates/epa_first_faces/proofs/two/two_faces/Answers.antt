-- `two_faces` does what the run's `two_faces` does: two pushes, which end the run, or two entries of the heap do the rest. Assumes nothing.
use Rattle.epa_polytope.specs.Promises.{single}
use Rattle.epa_polytope.proofs.Doing.{hands-on}
use Rattle.epa_polytope.proofs.StartingTwo.{two-not-made, two_made}
use Rattle.epa_first_faces.proofs.two.two_faces.Goals as goal

pub returns-in_err-made-clause-leaves : goal.returns-in_err-made-clause-leaves
returns-in_err-made-clause-leaves c =
    hands-on c.from_residual.ensures.1
    (two-not-made single _ _ c.made_of-m1.ensures c.made_of-m2.ensures c.push_two.ensures.leaves c.in_err-made.was)

pub returns-clause-leaves : goal.returns-clause-leaves
returns-clause-leaves c =
    two_made single _ _ c.made_of-m1.ensures c.made_of-m2.ensures c.push_two.ensures.leaves
    c.in_ok-made.was c.queue_both.ensures.leaves
