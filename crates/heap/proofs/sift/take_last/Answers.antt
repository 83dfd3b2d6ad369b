-- `take_last` is `popped`: what `rise` leaves of what `sink` leaves of the lists with the last entry at the root.
use Prim.Native.Nat.{ℕ, ◌+◌}
use mathlib.Core.Path.{sym, ap, ◌∙◌}
use native.Mathlib.Omega.{arith}
use lib.Ieee.{Float, of_bits}
use lib.ListN.{length-set}
use Rattle.heap.specs.Heap.{Placed, heap, rise, settled}
use Rattle.heap.proofs.Steps.{popped-last, popped-more}
use Rattle.heap.proofs.Moves.{sink-inside}
use Rattle.heap.proofs.sift.take_last.Goals as goal

pub rise-requires : goal.rise-requires
rise-requires c =
    let s = c in
    let l = sink-inside _ _ _ s.sink-at.ensures s.if-last-gt0.true in
    omega (arith, l, length-set {A = ℕ}, length-set {A = Float})

pub returns-then-last-gt0 : goal.returns-then-last-gt0
unfolding settled of_bits
returns-then-last-gt0 c =
    let r = c in
    let s = r in
    let i = s in
    let a = i.args in
    r.rise.ensures a.last ∙ ap (λ (p : Placed). rise p.heap p.place) s.sink-at.ensures ∙ sym (popped-more (heap a.faces.now a.keys.now (a.last + 1)) a.last i.if-last-gt0.true)

pub returns-else-last-gt0 : goal.returns-else-last-gt0
unfolding of_bits
returns-else-last-gt0 c =
    let a = c.args in
    sym (popped-last (heap a.faces.now a.keys.now (a.last + 1)) a.last c.if-last-gt0.false)
