-- `four_faces` does what the run's `four_faces` does: two pairs of pushes, of which the first ends the run, or the second does the rest. Assumes nothing.
use Rattle.epa_polytope.specs.Start.{four_faces}
use Rattle.epa_polytope.proofs.Doing.{hands-on}
use Rattle.epa_polytope.proofs.Pairing.{pair-goes-on, pair_ends}
use Rattle.epa_first_faces.proofs.four.four_faces.Goals as goal

pub returns-in_err-next-clause-leaves : goal.returns-in_err-next-clause-leaves
unfolding four_faces
returns-in_err-next-clause-leaves c = hands-on c.from_residual.ensures.1 (pair_ends _ _ _ c.push_two.ensures.leaves c.in_err-next.was)

pub returns-clause-leaves : goal.returns-clause-leaves
unfolding four_faces
returns-clause-leaves c = pair-goes-on _ _ _ c.push_two.ensures.leaves c.in_ok-next.was c.push_two-2.ensures.leaves
