-- `begin` does what the run's `begin` does: the run ends at the vertices, or has its first faces too. Assumes nothing.
use Rattle.epa_polytope.proofs.Doing.{hands-on}
use Rattle.epa_polytope.proofs.Beginning.{not-begun, begun}
use Rattle.epa_start.proofs.beginning.begin.Goals as goal

pub returns-in_err-pushed-clause-leaves : goal.returns-in_err-pushed-clause-leaves
returns-in_err-pushed-clause-leaves c =
    hands-on c.from_residual.ensures.1 (not-begun _ _ c.none_yet.ensures c.start_vertices.ensures.leaves c.in_err-pushed.was)

pub returns-in_err-tally-clause-leaves : goal.returns-in_err-tally-clause-leaves
returns-in_err-tally-clause-leaves c =
    hands-on c.from_residual-in_err-tally.ensures.1
    (begun _ _ c.none_yet.ensures c.start_vertices.ensures.leaves c.in_ok-pushed.was
    c.dist_tol-tol.ensures c.start_faces.ensures.leaves c.in_err-tally.was)

pub returns-clause-leaves : goal.returns-clause-leaves
returns-clause-leaves c =
    begun _ _ c.none_yet.ensures c.start_vertices.ensures.leaves c.in_ok-pushed.was
    c.dist_tol-tol.ensures c.start_faces.ensures.leaves c.in_ok-tally.was
