-- What the loop of `push_points` keeps.
use Prim.Native.Nat.{◌+◌}
use Rattle.epa_polytope.proofs.Starting.{PointsLoop}
use Rattle.epa_stores.specs.Lent.{held, SameLists}
use Rattle.epa_start.proofs.vertices.push_points.Given as goal

abbrev pub invariant-loop-i : goal.invariant-loop-i
invariant-loop-i l =
    record {
      pushed : PointsLoop l.simplex (l.simplex.dim + 1) (held l.initial.stores) l.fn.start (held l.stores) l.tally l.i;
      kept : SameLists l.stores l.initial.stores;
    }
