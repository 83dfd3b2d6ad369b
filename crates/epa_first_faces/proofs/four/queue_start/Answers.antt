-- `queue_start` does what the run's `queue_start` does: a face that holds the projection is queued, another left. Assumes nothing.
use Rattle.epa_polytope.specs.Promises.{single}
use Rattle.epa_polytope.proofs.StartingFour.{start-held, start_left}
use Rattle.epa_first_faces.proofs.four.queue_start.Goals as goal

pub returns-then-holds-clause-leaves : goal.returns-then-holds-clause-leaves
returns-then-holds-clause-leaves c =
    start-held single _ _ _ _ c.if-holds.true c.normal_of.ensures c.vertex_at.ensures
    c.dot-dist.ensures c.queue_face.ensures.leaves

pub returns-clause-leaves : goal.returns-clause-leaves
returns-clause-leaves c = start_left single _ _ _ _ c.if-holds.false
