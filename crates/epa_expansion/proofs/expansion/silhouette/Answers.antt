-- `silhouette` does what the run's `silhouette` does: the pass of the three neighbours by either walk, and its count of edges. Assumes nothing.
use mathlib.Core.Path.{refl}
use Rattle.epa_polytope.specs.Stores.{with_deleted, with_edges, with_pending}
use Rattle.epa_polytope.specs.Promises.{single}
use Rattle.epa_polytope.proofs.Expanding.{lined}
use Rattle.epa_expansion.proofs.expansion.silhouette.Goals as goal

-- the lists that the walk does not only read, as they are lent, stand in k
pub returns : goal.returns
returns g c k =
    lined _ single _ _ _ _ c.facing_at-a.ensures c.facing_at-b.ensures
    c.facing_at-c.ensures (c.pass_by-walked.ensures (with_deleted c.args.deleted.now (with_edges c.args.edges.now (with_pending c.args.pending.now k)))) refl c.finished.ensures
