-- `queue_face` does what the run's `queue_face` does: the key, and the entry. Assumes nothing.
use Rattle.epa_polytope.proofs.Pushing.{key-refused, key-accepted}
use Rattle.epa_pushes.proofs.queue_face.Goals as goal

pub returns-in_default-clause-leaves : goal.returns-in_default-clause-leaves
returns-in_default-clause-leaves c = key-refused _ _ _ _ c.face_id_new.ensures c.in_default.is

pub returns-clause-leaves : goal.returns-clause-leaves
returns-clause-leaves c = key-accepted _ _ _ _ c.face_id_new.ensures c.in-Some.is c.enqueue.ensures.leaves
