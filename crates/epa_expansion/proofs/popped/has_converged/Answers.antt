-- What `has_converged` returns, its call folded back. Assumes nothing.
use Rattle.epa_polytope.specs.Run.{has_converged}
use Rattle.epa_expansion.proofs.popped.has_converged.Goals as goal

pub returns : goal.returns
unfolding has_converged
returns c = simp (← c.polytope_tol.ensures)
