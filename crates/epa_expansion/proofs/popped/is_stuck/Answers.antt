-- What `is_stuck` returns, its calls folded back. Assumes nothing.
use Rattle.epa_polytope.specs.Run.{is_stuck}
use Rattle.epa_expansion.proofs.popped.is_stuck.Goals as goal

pub returns : goal.returns
unfolding is_stuck
returns c = simp (← c.abs.ensures, ← c.epsilon.ensures)
