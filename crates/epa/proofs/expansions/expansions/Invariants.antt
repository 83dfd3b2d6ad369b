-- What the loop of `expansions` keeps.
use Rattle.std.proofs.Common.{not, eqb}
use Rattle.epa_polytope.specs.Promises.{walk_of}
use Rattle.epa_polytope.proofs.Looping.{ExpandLoop}
use Rattle.epa_stores.specs.Lent.{held, SameLists, pair_by}
use Rattle.epa.proofs.expansions.expansions.Given as goal

abbrev pub invariant-loop-turn : goal.invariant-loop-turn
invariant-loop-turn g l =
    record {
      expanded : ExpandLoop (pair_by (walk_of (not (eqb g.row.PLAIN 0))) l.pair) l.tol (held l.initial.stores) l.fn.start (held l.stores) l.tally l.best l._turn;
      kept : SameLists l.stores l.initial.stores;
    }
