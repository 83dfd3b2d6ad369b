-- `queue_new` does what the run's `queue_new` does: the new face is nearer than the one that is expanded, or queued. Assumes nothing.
use Rattle.epa_polytope.specs.Promises.{single}
use Rattle.epa_polytope.specs.Stores.{with_vertices}
use Rattle.epa_polytope.specs.declared.types.Lost.TheVariants.{KeyLater}
use Rattle.epa_polytope.proofs.Growing.{new-nearer, new-queued}
use Rattle.epa_polytope.proofs.Pushing.{key-refused, key-accepted}
use Rattle.epa_stores.specs.Lent.{held}
use Rattle.epa_growth.specs.Growth.{faces_and_heap}
use Rattle.epa_growth.proofs.Beside.{entry-beside}
use Rattle.epa_growth.proofs.queue_new.Goals as goal

pub returns-then-dist-expansion-clause-leaves : goal.returns-then-dist-expansion-clause-leaves
returns-then-dist-expansion-clause-leaves c k =
    new-nearer single _ _ _ _ c.corner_at.ensures c.vertex_at.ensures c.normal_of.ensures
    c.dot-dist.ensures c.if-dist-expansion.true (c.answer_of-end.ensures (with_vertices c.args.vertices.now (faces_and_heap (held c.args.stores.now) k)))

pub returns-in_default-clause-leaves : goal.returns-in_default-clause-leaves
returns-in_default-clause-leaves c k =
    new-queued single _ _ _ _ c.corner_at.ensures c.vertex_at.ensures c.normal_of.ensures
    c.dot-dist.ensures c.if-dist-expansion.false (key-refused KeyLater _ _ _ c.face_id_new.ensures c.in_default.is)

pub returns-clause-leaves : goal.returns-clause-leaves
returns-clause-leaves c k =
    new-queued single _ _ _ _ c.corner_at.ensures c.vertex_at.ensures c.normal_of.ensures
    c.dot-dist.ensures c.if-dist-expansion.false
    (key-accepted KeyLater _ _ _ c.face_id_new.ensures c.in-Some.is
    (entry-beside (with_vertices c.args.vertices.now k) _ _ c.enqueue.ensures.leaves))
