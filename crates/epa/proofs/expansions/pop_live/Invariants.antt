-- What the loop of `pop_live` keeps, and the number that falls at each turn.
use Rattle.epa_polytope.proofs.Popping.{PopLoop}
use Rattle.epa_stores.specs.Lent.{held, SameLists}
use Rattle.epa.proofs.expansions.pop_live.Given as goal

abbrev pub invariant-loop-popped : goal.invariant-loop-popped
invariant-loop-popped l =
    record {
      popped : PopLoop (held l.initial.stores) l.fn.start (held l.stores) l.tally;
      kept : SameLists l.stores l.initial.stores;
    }

abbrev pub decreases-loop-popped : goal.decreases-loop-popped
decreases-loop-popped l = l.tally.heap
