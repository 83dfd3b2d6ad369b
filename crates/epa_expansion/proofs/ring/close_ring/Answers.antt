-- `close_ring` does what the run's `close_ring` does: no face was made, or two links close the ring. Assumes nothing.
use Rattle.epa_polytope.proofs.Expanding.{none_made, ring-closed}
use Rattle.epa_expansion.proofs.ring.close_ring.Goals as goal

pub returns-then-tally-first-clause-leaves : goal.returns-then-tally-first-clause-leaves
returns-then-tally-first-clause-leaves c = none_made _ _ _ c.if-tally-first.true

pub returns-clause-leaves : goal.returns-clause-leaves
returns-clause-leaves c =
    ring-closed _ _ _ c.if-tally-first.false c.before-last.ensures c.set_neighbour.ensures
    c.set_neighbour-2.ensures c.clear_edges.ensures.leaves
