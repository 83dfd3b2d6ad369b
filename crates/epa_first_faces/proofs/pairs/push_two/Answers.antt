-- `push_two` does two `push_face`: the first ends the run, or the second does the rest. Assumes nothing.
use Rattle.epa_polytope.proofs.Doing.{goes_on, hands-on}
use Rattle.epa_polytope.proofs.Pairing.{ends_so}
use Rattle.epa_first_faces.proofs.pairs.push_two.Goals as goal

pub returns-in_err-next-clause-leaves : goal.returns-in_err-next-clause-leaves
returns-in_err-next-clause-leaves c = hands-on c.from_residual.ensures.1 (ends_so _ c.push_face.ensures.leaves c.in_err-next.was)

pub returns-clause-leaves : goal.returns-clause-leaves
returns-clause-leaves c = goes_on _ c.push_face.ensures.leaves c.in_ok-next.was c.push_face-2.ensures.leaves
