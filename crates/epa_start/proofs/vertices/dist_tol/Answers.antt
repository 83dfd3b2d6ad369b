-- What `dist_tol` returns: the definition's `dist_tol`, by computation, each call told by its contract. Assumes nothing.
use lib.Ieee.{of_bits}
use Rattle.epa_polytope.specs.Start.{dist_tol}
use Rattle.epa_start.proofs.vertices.dist_tol.Goals as goal

pub returns : goal.returns
unfolding dist_tol of_bits
returns c = simp (← c.max.ensures, ← c.eps_tol.ensures, ← c.scale_of-scale.ensures)
