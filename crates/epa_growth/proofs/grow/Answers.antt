-- `grow` does what the run's `grow` does: an edge's new face where the edge's face is live. Assumes nothing.
use Rattle.epa_polytope.specs.Promises.{single}
use Rattle.epa_polytope.specs.Stores.{with_edges}
use Rattle.epa_polytope.proofs.Growing.{grow-live, grow-dead}
use Rattle.epa_growth.proofs.grow.Goals as goal

pub returns-then-deleted_at-eq0-clause-leaves : goal.returns-then-deleted_at-eq0-clause-leaves
returns-then-deleted_at-eq0-clause-leaves c k =
    grow-live single _ _ _ _ c.question_at-edge.ensures c.deleted_at.ensures c.if-deleted_at-eq0.true
    (c.grow_at.ensures.leaves (with_edges c.args.edges.now k))

pub returns-clause-leaves : goal.returns-clause-leaves
returns-clause-leaves c k = grow-dead single _ _ _ _ c.question_at-edge.ensures c.deleted_at.ensures c.if-deleted_at-eq0.false
