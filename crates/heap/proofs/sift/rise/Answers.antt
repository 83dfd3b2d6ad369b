-- `rise` is the definition's, whatever the count. The invariant: what is left to rise, of the lists as they are, gives what the whole gives of
-- the lists as they were. The measure is the place, which the parent's is below.
use Prim.Native.Nat.{◌-◌, ◌/◌}
use mathlib.Core.Path.{refl, sym, ap, ◌∙◌}
use native.Mathlib.Omega.{arith}
use Rattle.heap.specs.Heap.{Heap, heap, rise}
use Rattle.heap.proofs.Steps.{rise-root, rise-up, rise-stays}
use Rattle.heap.proofs.sift.rise.Goals as goal

pub loop-at-preserved : goal.loop-at-preserved
loop-at-preserved c =
    let s = c in
    let i = s in
    let t = i in
    let k = t.loop-at in (
      omega arith,
      omega arith,
      omega arith,
      λ n. ap (λ (h : Heap). rise h ((k.at - 1) / 2)) (s.swap.ensures n) ∙ sym (rise-up (heap k.faces k.keys n) k.at _ t.loop-at-test.true refl i.if-keys-parent.true) ∙ k.invariant.3 n,
    )

pub returns-else-keys-parent : goal.returns-else-keys-parent
returns-else-keys-parent c =
    let t = c in
    let k = t.loop-at in
    λ n. sym (rise-stays (heap k.faces k.keys n) k.at _ t.loop-at-test.true refl c.if-keys-parent.false) ∙ k.invariant.3 n

pub returns : goal.returns
returns c = let k = c.loop-at in λ n. sym (rise-root (heap k.faces k.keys n) k.at c.loop-at-test.false) ∙ k.invariant.3 n
