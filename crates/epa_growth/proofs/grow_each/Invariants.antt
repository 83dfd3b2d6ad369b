-- What the loop of `grow_each` keeps, whatever the pending questions.
use Rattle.epa_polytope.specs.Promises.{single}
use Rattle.epa_polytope.specs.Stores.{Lists, with_vertices, with_edges}
use Rattle.epa_polytope.proofs.Growing.{GrowLoop}
use Rattle.epa_stores.specs.Lent.{held, SameLists}
use Rattle.epa_growth.specs.Growth.{faces_and_heap}
use Rattle.epa_growth.proofs.grow_each.Given as goal

abbrev pub invariant-loop-i : goal.invariant-loop-i
invariant-loop-i l =
    record {
      grown : (k : Lists) → GrowLoop single l.expansion l.n (with_vertices l.vertices (with_edges l.edges (faces_and_heap (held l.initial.stores) k))) l.fn.start
          (with_vertices l.vertices (with_edges l.edges (faces_and_heap (held l.stores) k))) l.tally l.i;
      kept : SameLists l.stores l.initial.stores;
    }
