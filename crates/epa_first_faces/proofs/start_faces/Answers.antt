-- `start_faces` does what the run's `start_faces` does: one of the two starts, by the dimension. Assumes nothing.
use borrow.Author.Tests.{eq-eqb, ne_eqb}
use Rattle.epa_polytope.specs.Start.{start_faces}
use Rattle.epa_polytope.proofs.Doing.{first_way, second_way}
use Rattle.epa_first_faces.proofs.start_faces.Goals as goal

pub returns-then-dim-eq3-clause-leaves : goal.returns-then-dim-eq3-clause-leaves
unfolding start_faces
returns-then-dim-eq3-clause-leaves c = first_way _ (eq-eqb _ _ c.if-dim-eq3.true) c.start_four.ensures.leaves

pub returns-clause-leaves : goal.returns-clause-leaves
unfolding start_faces
returns-clause-leaves c = second_way _ (ne_eqb _ _ c.if-dim-eq3.false) c.start_two.ensures.leaves
