-- `start_vertices` does what the run's `start_vertices` does, of what has to be a simplex: its vertices, and a second one for a single one. Assumes nothing.
use borrow.Author.Tests.{eq-eqb, ne_eqb}
use mathlib.Core.Bool.{not}
use mathlib.Core.Path.{refl, ap}
use Rattle.epa_polytope.specs.Start.{start_vertices}
use Rattle.epa_polytope.proofs.Doing.{goes_on, stopped, not_stopped, done-if, not_done, hands-on}
use Rattle.epa_polytope.proofs.Pairing.{ends_so}
use Rattle.epa_polytope.proofs.Starting.{tested, within-four}
use Rattle.epa_start.proofs.vertices.start_vertices.Goals as goal

pub returns-then-not-is_simplex-clause-leaves : goal.returns-then-not-is_simplex-clause-leaves
returns-then-not-is_simplex-clause-leaves c = stopped _ _ refl (tested _ c.is_simplex.ensures (ap not c.if-not-is_simplex.true))

pub push_points-requires : goal.push_points-requires
push_points-requires c = within-four _ (tested _ c.is_simplex.ensures (ap not c.if-not-is_simplex.false))

pub returns-in_err-pushed-clause-leaves : goal.returns-in_err-pushed-clause-leaves
unfolding start_vertices
returns-in_err-pushed-clause-leaves c =
    hands-on c.from_residual.ensures.1
    (not_stopped _ (tested _ c.is_simplex.ensures (ap not c.if-not-is_simplex.false))
    (ends_so _ c.push_points.ensures.leaves c.in_err-pushed.was))

pub returns-then-simplex-eq0-clause-leaves : goal.returns-then-simplex-eq0-clause-leaves
unfolding start_vertices
returns-then-simplex-eq0-clause-leaves c =
    not_stopped _ (tested _ c.is_simplex.ensures (ap not c.if-not-is_simplex.false))
    (goes_on _ c.push_points.ensures.leaves c.in_ok-pushed.was
    (done-if (eq-eqb _ _ c.if-simplex-eq0.true) c.bootstrap.ensures.leaves))

pub returns-clause-leaves : goal.returns-clause-leaves
unfolding start_vertices
returns-clause-leaves c =
    not_stopped _ (tested _ c.is_simplex.ensures (ap not c.if-not-is_simplex.false))
    (goes_on _ c.push_points.ensures.leaves c.in_ok-pushed.was (not_done _ (ne_eqb _ _ c.if-simplex-eq0.false)))
