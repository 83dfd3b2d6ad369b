-- What the loop of `second_vertex` keeps, and the number that falls at each turn.
use Prim.Native.Nat.{◌-◌}
use Rattle.epa_polytope.proofs.Searching.{SearchLoop}
use Rattle.epa_stores.specs.Lent.{pair_world}
use Rattle.epa_start.proofs.vertices.second_vertex.Given as goal

abbrev pub invariant-loop-i : goal.invariant-loop-i
invariant-loop-i l = SearchLoop (pair_world l.pair) l.p 6 l.i

abbrev pub decreases-loop-i : goal.decreases-loop-i
decreases-loop-i l = 6 - l.i
