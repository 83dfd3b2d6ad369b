-- What the loop of `rise` keeps, and the number that falls at each turn.
use Prim.Native.Nat.{ℕ, ◌<◌, min}
use mathlib.Core.Path.{◌≡◌}
use lib.ListN.{length}
use Rattle.heap.specs.Heap.{heap, rise}
use Rattle.heap.proofs.sift.rise.Given as goal

abbrev pub invariant-loop-at : goal.invariant-loop-at
invariant-loop-at l =
    (length l.faces ≡ length l.initial.faces) × (length l.keys ≡ length l.initial.keys) × (l.at < min (length l.faces) (length l.keys))
    × ((n : ℕ) → rise (heap l.faces l.keys n) l.at ≡ rise (heap l.initial.faces l.initial.keys n) l.from)

abbrev pub decreases-loop-at : goal.decreases-loop-at
decreases-loop-at l = l.at
