-- What the loop of `nearest_root` keeps, and the number that falls at each turn.
use Prim.Native.Nat.{◌≤◌, ◌^◌}
use Rattle.number.proofs.Schoolbook.{Found}
use Rattle.number.proofs.digits.nearest_root.Given as goal

abbrev pub invariant-loop-c : goal.invariant-loop-c
invariant-loop-c l = Found l.n l.rest l.p l.c × (l.p ≤ 2 ^ 47) × (l.c ≤ 2 ^ 46)

abbrev pub decreases-loop-c : goal.decreases-loop-c
decreases-loop-c l = l.c
