-- `visit` does what the run's `visit` does: the vertex is refused, or pushed, and the rest is `settle`'s. Assumes nothing.
use Rattle.epa_polytope.proofs.Doing.{hands-on}
use Rattle.epa_polytope.proofs.Visiting.{visit-ended, visited}
use Rattle.epa_expansion.proofs.popped.visit.Goals as goal

pub returns-in_err-next-clause-leaves : goal.returns-in_err-next-clause-leaves
returns-in_err-next-clause-leaves g c =
    hands-on c.from_residual.ensures.1
    (visit-ended _ _ _ _ _ _ c.normal_of-normal.ensures c.support_point-cso_point.ensures
    c.push_vertex.ensures.leaves c.in_err-next.was)

pub returns-clause-leaves : goal.returns-clause-leaves
returns-clause-leaves g c =
    visited _ _ _ _ _ _ c.normal_of-normal.ensures c.support_point-cso_point.ensures
    c.push_vertex.ensures.leaves c.in_ok-next.was
    c.dot-candidate.ensures (c.settle.ensures.leaves _)
