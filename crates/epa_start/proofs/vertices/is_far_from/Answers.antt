-- What `is_far_from` returns: `far_from` by computation, each call told by its contract. Assumes nothing.
use Rattle.epa_polytope.specs.Start.{far_from}
use Rattle.epa_start.proofs.vertices.is_far_from.Goals as goal

pub returns : goal.returns
unfolding far_from
returns c = simp (← c.length_squared.ensures, ← c.sub-away.ensures, ← c.eps_tol-sep_tol.ensures)
