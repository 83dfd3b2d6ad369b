-- `start_two` does what the run's `start_two` does: a third vertex ends the run, or the two faces do the rest. Assumes nothing.
use Rattle.epa_polytope.proofs.Doing.{hands-on}
use Rattle.epa_polytope.proofs.StartingTwo.{no_third, two_started}
use Rattle.epa_first_faces.proofs.two.start_two.Goals as goal

pub returns-in_err-grown-clause-leaves : goal.returns-in_err-grown-clause-leaves
returns-in_err-grown-clause-leaves c = hands-on c.from_residual.ensures.1 (no_third _ _ _ c.with_third.ensures.leaves c.in_err-grown.was)

pub returns-clause-leaves : goal.returns-clause-leaves
returns-clause-leaves c = two_started _ _ _ c.with_third.ensures.leaves c.in_ok-grown.was c.two_faces.ensures.leaves
