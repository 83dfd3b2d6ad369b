-- `expand` does what the run's `expand` does: the face is deleted, and after its silhouette the run has ended, or the new faces come. Assumes nothing.
use mathlib.Core.Path.{refl}
use Rattle.epa_polytope.specs.Promises.{single}
use Rattle.epa_polytope.proofs.Doing.{here, hands-on}
use Rattle.epa_polytope.proofs.Expanding.{expand-ended, expanded}
use Rattle.epa_expansion.proofs.expansion.expand.Goals as goal

pub returns-in_err-lined-clause-leaves : goal.returns-in_err-lined-clause-leaves
returns-in_err-lined-clause-leaves g c =
    hands-on c.from_residual.ensures.1
    (expand-ended _ single _ _ _ c.set_deleted.ensures (here c.silhouette.ensures _ refl) c.in_err-lined.was)

pub returns-clause-leaves : goal.returns-clause-leaves
returns-clause-leaves g c =
    expanded _ single _ _ _ c.set_deleted.ensures (here c.silhouette.ensures _ refl) c.in_ok-lined.was
    c.regrow.ensures.leaves
