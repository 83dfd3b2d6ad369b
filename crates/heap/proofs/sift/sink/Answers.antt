-- `sink` is the definition's. The invariant: `child` is the left child's place, and what is left to sink, of the lists as they are, gives what the
-- whole gives of the lists as they were. The measure is how many places are left below.
use mathlib.Core.Path.{refl, sym, ap, ◌∙◌}
use native.Mathlib.Omega.{arith}
use Rattle.heap.specs.Heap.{Heap, heap, placed, sink}
use Rattle.heap.proofs.Steps.{sink-deeper, sink-only, sink-bottom, greater-low, greater-high}
use Rattle.heap.proofs.sift.sink.Goals as goal

pub swap-requires : goal.swap-requires
swap-requires c =
    let g = c in
    let k = g.loop-child in
    omega (arith, g.greater-child.ensures, greater-high k.keys k.child)

pub overflow_mul-child : goal.overflow_mul-child
overflow_mul-child c =
    let g = c in
    let k = g.loop-child in
    omega (arith, g.greater-child.ensures, greater-high k.keys k.child)

pub overflow_add-child-in-loop-child : goal.overflow_add-child-in-loop-child
overflow_add-child-in-loop-child c =
    let k = c.loop-child in
    omega (arith, c.greater-child.ensures, greater-high k.keys k.child)

pub loop-child-smaller : goal.loop-child-smaller
loop-child-smaller c =
    let g = c in
    let k = g.loop-child in
    omega (arith, g.greater-child.ensures, greater-low k.keys k.child, greater-high k.keys k.child)

pub loop-child-preserved : goal.loop-child-preserved
loop-child-preserved c =
    let s = c in
    let g = s in
    let t = g in
    let k = t.loop-child in (
      omega arith,
      omega arith,
      omega (arith, g.greater-child.ensures, greater-high k.keys k.child),
      refl,
      ap (λ (h : Heap). sink h g.greater-child.result) (s.swap.ensures _) ∙ sym (sink-deeper (heap k.faces k.keys _) k.at k.child _ k.invariant.3 (omega arith) g.greater-child.ensures) ∙ k.invariant.4,
    )

pub returns-then-child-count : goal.returns-then-child-count
returns-then-child-count c =
    let s = c in
    let k = s.loop-child in
    ap (λ (h : Heap). placed h k.child) (s.swap-then-child-count.ensures _) ∙ sym (sink-only (heap k.faces k.keys _) k.at k.child k.invariant.3 (omega arith)) ∙ k.invariant.4

pub returns : goal.returns
returns c =
    let k = c.loop-child in
    sym (sink-bottom (heap k.faces k.keys _) k.at k.child k.invariant.3 (omega arith)) ∙ k.invariant.4
