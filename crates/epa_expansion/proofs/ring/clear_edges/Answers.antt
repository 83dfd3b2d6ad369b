-- `clear_edges` does what the run's `clear_edges` does: the edges' pairs are zero, and none is counted. Assumes nothing.
use Rattle.epa_polytope.proofs.Expanding.{edges-cleared}
use Rattle.epa_expansion.proofs.ring.clear_edges.Goals as goal

pub returns-clause-leaves : goal.returns-clause-leaves
returns-clause-leaves c = edges-cleared _ _ c.clear_pairs.ensures
