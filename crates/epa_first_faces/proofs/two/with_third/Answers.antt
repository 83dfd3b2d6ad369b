-- `with_third` does `third` where there are two vertices, and else nothing. Assumes nothing.
use borrow.Author.Tests.{eq-eqb, ne_eqb}
use Rattle.epa_polytope.proofs.Doing.{done-if, not_done}
use Rattle.epa_first_faces.proofs.two.with_third.Goals as goal

pub returns-then-tally-eq2-clause-leaves : goal.returns-then-tally-eq2-clause-leaves
returns-then-tally-eq2-clause-leaves c = done-if (eq-eqb _ _ c.if-tally-eq2.true) c.third.ensures.leaves

pub returns-clause-leaves : goal.returns-clause-leaves
returns-clause-leaves c = not_done _ (ne_eqb _ _ c.if-tally-eq2.false)
