-- A pass is three walks, one after another. Assumes nothing.
use Rattle.epa_polytope.proofs.Walks.{pass_of}
use Rattle.epa_silhouette.proofs.pass.Goals as goal

pub returns : goal.returns
returns c k =
    pass_of _ _ _ _ _ _ _ _ (c.compute_silhouette-r1.ensures k) (c.compute_silhouette-r2.ensures k)
    (c.compute_silhouette.ensures k)
