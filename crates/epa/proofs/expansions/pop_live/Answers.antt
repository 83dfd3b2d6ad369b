-- `pop_live` does what the run's `pop_live` does: at each turn what is left of the heap does the same as all did at first. Assumes nothing.
use Rattle.std.proofs.Common.{rules}
use Rattle.epa_polytope.proofs.Popping.{pop-starts, pop-empty, pop-live, pop-less, pop-again}
use Rattle.epa.proofs.expansions.pop_live.Goals as goal

pub loop-popped-init : goal.loop-popped-init
loop-popped-init c = record { popped = pop-starts _ _ c.requires; kept = search rules }

pub returns-then-deleted_at-eq0-clause-leaves : goal.returns-then-deleted_at-eq0-clause-leaves
returns-then-deleted_at-eq0-clause-leaves c =
    pop-live c.loop-popped.invariant.popped c.pop.ensures.answer c.unwrap_or.ensures c.in-Some.is c.deleted_at.ensures c.if-deleted_at-eq0.true

pub loop-popped-smaller : goal.loop-popped-smaller
loop-popped-smaller c = pop-less c.loop-popped.invariant.popped c.pop.ensures.answer c.unwrap_or.ensures c.in-Some.is

pub loop-popped-preserved : goal.loop-popped-preserved
loop-popped-preserved c =
    record {
      popped = pop-again c.loop-popped.invariant.popped c.pop.ensures.answer c.unwrap_or.ensures c.in-Some.is c.deleted_at.ensures c.if-deleted_at-eq0.false
          c.pop.auto.faces c.pop.auto.keys;
      kept = search rules;
    }

pub returns-clause-leaves : goal.returns-clause-leaves
returns-clause-leaves c = pop-empty c.loop-popped.invariant.popped c.pop.ensures.answer c.unwrap_or.ensures c.in_default.is
