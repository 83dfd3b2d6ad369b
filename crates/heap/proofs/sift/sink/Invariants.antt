-- What the loop of `sink` keeps, and the number that falls at each turn.
use Prim.Native.Nat.{◌+◌, ◌-◌, ◌*◌, ◌<◌}
use mathlib.Core.Path.{◌≡◌}
use lib.ListN.{length}
use Rattle.heap.specs.Heap.{heap, sink}
use Rattle.heap.proofs.sift.sink.Given as goal

abbrev pub invariant-loop-child : goal.invariant-loop-child
invariant-loop-child l =
    (length l.faces ≡ length l.initial.faces) × (length l.keys ≡ length l.initial.keys) × (l.at < l.count) × (l.child ≡ l.at * 2 + 1)
    × (sink (heap l.faces l.keys l.count) l.at ≡ sink (heap l.initial.faces l.initial.keys l.count) 0)

abbrev pub decreases-loop-child : goal.decreases-loop-child
decreases-loop-child l = l.count - l.at
