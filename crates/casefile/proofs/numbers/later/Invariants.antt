-- What the loop of `later` keeps, and the number that falls at each turn.
use Prim.Native.Nat.{◌*◌, ◌<◌}
use mathlib.Core.Path.{◌≡◌}
use lib.ListN.{drop}
use Rattle.casefile.specs.Numbers.{joined, later_in, limit}
use Rattle.casefile.proofs.Groups.{held}
use Rattle.casefile.proofs.numbers.later.Given as goal

abbrev pub invariant-loop-next : goal.invariant-loop-next
invariant-loop-next l =
    (l.value < l.weight) × (l.weight * limit l.more ≡ 0x1_0000_0000) × (held l.value l.weight (later_in l.more (drop l.next l.bytes) l.next) ≡ joined l.first (later_in 3 (drop l.at l.bytes) l.at))

abbrev pub decreases-loop-next : goal.decreases-loop-next
decreases-loop-next l = l.more
