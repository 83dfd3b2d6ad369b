-- The measure: how many faces are live.
use Rattle.epa_polytope.specs.Silhouette.{zeros}
use Rattle.epa_silhouette.proofs.+compute_silhouette.Given as goal

abbrev pub decreases-compute_silhouette : goal.decreases-compute_silhouette
decreases-compute_silhouette l = zeros l.deleted.now
