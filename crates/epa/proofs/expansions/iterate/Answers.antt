-- `iterate` does what the run's `iterate` does: a live face is popped, or the heap is empty; and an expansion that goes on is counted. Assumes nothing.
use mathlib.Core.Path.{refl}
use Rattle.std.specs.Prelude.{Ok}
use Rattle.epa_polytope.specs.Promises.{walk_of}
use Rattle.epa_polytope.proofs.Doing.{hands-on}
use Rattle.epa_polytope.proofs.Looping.{none_left, iterated-ends, iterated-on, visited-early}
use Rattle.epa_stores.specs.Lent.{held}
use Rattle.epa.proofs.expansions.iterate.Goals as goal

pub pop_live-popped-requires : goal.pop_live-popped-requires
pop_live-popped-requires g c = c.requires.within

pub returns-in_default-clause-leaves : goal.returns-in_default-clause-leaves
returns-in_default-clause-leaves g c = none_left _ _ _ c.pop_live-popped.ensures.leaves c.in_default.is (c.answer_of-end.ensures (held c.pop_live-popped.new.stores))

pub returns-in_err-visited-clause-leaves : goal.returns-in_err-visited-clause-leaves
returns-in_err-visited-clause-leaves g c =
    hands-on c.from_residual.ensures.1
    (iterated-ends _ _ _ c.pop_live-popped.ensures.leaves c.in-Some.is c.visit.ensures.leaves c.in_err-visited.was)

-- the expansion does not count itself, whatever the lists hold
pub completed-requires : goal.completed-requires
completed-requires g c =
    visited-early _ _ _ c.pop_live-popped.ensures.leaves c.requires.early c.in-Some.is c.visit.ensures.leaves c.in_ok-visited.was

pub returns-clause-leaves : goal.returns-clause-leaves
returns-clause-leaves g c =
    iterated-on _ _ _ c.pop_live-popped.ensures.leaves c.in-Some.is c.visit.ensures.leaves c.in_ok-visited.was c.completed.ensures
