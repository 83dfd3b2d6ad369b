-- `start_four` does what the run's `start_four` does: four faces of the vertices wound outward end the run, or their entries of the heap do the rest. Assumes nothing.
use Rattle.epa_polytope.specs.Promises.{single}
use Rattle.epa_polytope.proofs.Doing.{hands-on}
use Rattle.epa_polytope.proofs.StartingFour.{four-not-made, four-started}
use Rattle.epa_first_faces.proofs.four.start_four.Goals as goal

pub returns-in_err-made-clause-leaves : goal.returns-in_err-made-clause-leaves
returns-in_err-made-clause-leaves c =
    hands-on c.from_residual.ensures.1
    (four-not-made single _ _ c.wind_outward.ensures _ c.made_of-m1.ensures c.made_of-m2.ensures
    c.made_of-m3.ensures c.made_of-m4.ensures c.four_faces.ensures.leaves c.in_err-made.was)

pub returns-clause-leaves : goal.returns-clause-leaves
returns-clause-leaves c =
    four-started single _ _ c.wind_outward.ensures _ c.made_of-m1.ensures c.made_of-m2.ensures
    c.made_of-m3.ensures c.made_of-m4.ensures c.four_faces.ensures.leaves
    c.in_ok-made.was c.queue_four.ensures.leaves
