-- `expansions` does what the run's `expansions` does: at each turn what is left of the expansions does the same as all did at first. Assumes nothing.
use Rattle.std.proofs.Common.{rules}
use Rattle.epa_polytope.proofs.Looping.{loop-starts, turn-ready, loop-ends, loop-turns, loop-done}
use Rattle.epa_stores.specs.Lent.{held}
use Rattle.epa.proofs.expansions.expansions.Goals as goal

pub loop-turn-init : goal.loop-turn-init
loop-turn-init g c = record { expanded = loop-starts _ _ c.requires c.first_best-best.ensures; kept = search rules }

pub iterate-requires : goal.iterate-requires
iterate-requires g c = turn-ready c.loop-turn.invariant.expanded c.loop-turn-test.true

pub returns-in-Err-clause-leaves : goal.returns-in-Err-clause-leaves
returns-in-Err-clause-leaves g c = loop-ends c.loop-turn.invariant.expanded c.loop-turn-test.true c.iterate.ensures.leaves c.in-Err.is

pub loop-turn-preserved : goal.loop-turn-preserved
loop-turn-preserved g c =
    record {
      expanded = loop-turns c.loop-turn.invariant.expanded c.loop-turn-test.true c.iterate.ensures.leaves c.in-Ok.is;
      kept = search rules;
    }

pub returns-clause-leaves : goal.returns-clause-leaves
returns-clause-leaves g c = loop-done c.loop-turn.invariant.expanded c.loop-turn-test.false (c.answer_of-end.ensures (held c.loop-turn.stores))
