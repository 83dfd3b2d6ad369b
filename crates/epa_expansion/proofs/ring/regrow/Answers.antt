-- `regrow` does what the run's `regrow` does: there is no edge, or the new faces are made, and their ring is closed. Assumes nothing.
use mathlib.Core.Path.{refl}
use Rattle.epa_polytope.specs.Promises.{single}
use Rattle.epa_polytope.proofs.Doing.{here, hands-on}
use Rattle.epa_polytope.proofs.Expanding.{no_edges, regrow-ended, regrown}
use Rattle.epa_expansion.proofs.ring.regrow.Goals as goal

pub returns-then-tally-eq0-clause-leaves : goal.returns-then-tally-eq0-clause-leaves
returns-then-tally-eq0-clause-leaves c = no_edges single _ _ _ c.if-tally-eq0.true

pub returns-in_err-grown-clause-leaves : goal.returns-in_err-grown-clause-leaves
returns-in_err-grown-clause-leaves c =
    hands-on c.from_residual.ensures.1 (regrow-ended single _ _ _ c.if-tally-eq0.false (here c.grow_all.ensures _ refl) c.in_err-grown.was)

pub returns-clause-leaves : goal.returns-clause-leaves
returns-clause-leaves c =
    regrown single _ _ _ c.if-tally-eq0.false (here c.grow_all.ensures _ refl) c.in_ok-grown.was c.close_ring.ensures.leaves
