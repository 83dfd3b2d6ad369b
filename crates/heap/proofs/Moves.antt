-- Rising and sinking only swap entries among the first c places: what each such swap keeps, they keep. Assumes nothing.
use mathlib.Core.Path.{◌≡◌, refl, ap, ◌∙◌}
use mathlib.Core.Bool.{Bool, true, false, cond}
use Prim.Native.Nat.{ℕ, zero, suc, ◌+◌, ◌*◌, ◌/◌, ◌<◌}
use native.Mathlib.Omega.{arith}
use lib.Dec.{ltb}
use borrow.Author.Tests.{ltb-true}
use Rattle.heap.specs.Heap.{Heap, swap, less, rise_in, rise, Placed, placed, greater, sink_in, sink, settled}
use Rattle.heap.proofs.Steps.{greater-high, swap-count}

-- Q holds of the heap, whose entry is at rest among the first c places
pub record Rests (c : ℕ) (Q : Heap → Type 0) (p : Placed) : Type 0 where
  pub holds : Q p.heap
  pub inside : p.place < c

-- Q, of heaps of c entries, outlives a swap among them
module _ (c : ℕ) (Q : Heap → Type 0) (counts : (h : Heap) → Q h → h.count ≡ c) (swaps : (h : Heap) (i j : ℕ) → i < c → j < c → Q h → Q (swap h i j)) where
  rise_in-holds : (m : ℕ) (h : Heap) (i : ℕ) → i < c → Q h → Q (rise_in m h i)
  unfolding rise_in
  rise_in-holds zero h i l q = q
  rise_in-holds (suc m) h zero l q = q
  rise_in-holds (suc m) h (suc i) l q =
      let p : i / 2 < c = omega arith in by (less h (i / 2) (suc i)) (rise_in-holds m (swap h (suc i) (i / 2)) (i / 2) p (swaps h (suc i) (i / 2) l p q))
    where
      by : (b : Bool) → Q (rise_in m (swap h (suc i) (i / 2)) (i / 2)) → Q (cond b (rise_in m (swap h (suc i) (i / 2)) (i / 2)) h)
      by true x = x
      by false x = q

  pub rise-holds : (h : Heap) (i : ℕ) → i < c → Q h → Q (rise h i)
  unfolding rise
  rise-holds h i l q = rise_in-holds (suc i) h i l q

  sink_in-rests : (m : ℕ) (h : Heap) (i : ℕ) → i < c → Q h → Rests c Q (sink_in m h i)
  unfolding sink_in
  sink_in-rests zero h i l q = record { holds = q; inside = l }
  sink_in-rests (suc m) h i l q =
      by (ltb (i * 2 + 1 + 1) h.count) (ltb (i * 2 + 1) h.count) refl refl
      (λ k. sink_in-rests m (swap h i (greater h.keys (i * 2 + 1))) (greater h.keys (i * 2 + 1)) k (swaps h i (greater h.keys (i * 2 + 1)) l k q))
    where
      by : (a b : Bool) → ltb (i * 2 + 1 + 1) h.count ≡ a → ltb (i * 2 + 1) h.count ≡ b
          → (greater h.keys (i * 2 + 1) < c → Rests c Q (sink_in m (swap h i (greater h.keys (i * 2 + 1))) (greater h.keys (i * 2 + 1))))
          → Rests c Q (cond a (sink_in m (swap h i (greater h.keys (i * 2 + 1))) (greater h.keys (i * 2 + 1))) (cond b (placed (swap h i (i * 2 + 1)) (i * 2 + 1)) (placed h i)))
      by true b ea eb deeper = deeper (omega (arith, counts h q, ltb-true (i * 2 + 1 + 1) h.count ea, greater-high h.keys (i * 2 + 1)))
      by false true ea eb deeper =
          let k : i * 2 + 1 < c = omega (arith, counts h q, ltb-true (i * 2 + 1) h.count eb) in
          record { holds = swaps h i (i * 2 + 1) l k q; inside = k }
      by false false ea eb deeper = record { holds = q; inside = l }

  sink_rests : (h : Heap) → 0 < c → Q h → Rests c Q (sink h 0)
  unfolding sink
  sink_rests h l q = sink_in-rests h.count h 0 l q

  pub settled-holds : (h : Heap) → 0 < c → Q h → Q (settled h)
  unfolding settled
  settled-holds h l q = let s = sink_rests h l q in rise-holds (sink h 0).heap (sink h 0).place s.inside s.holds

-- what `sink` tells is a place among the entries
pub sink-inside : (h g : Heap) (i : ℕ) → placed g i ≡ sink h 0 → 0 < h.count → i < h.count
sink-inside h g i e l = omega (arith, ap (λ (p : Placed). p.place) e, (sink_rests h.count (λ (x : Heap). x.count ≡ h.count) (λ x q. q) same h l refl).inside)
  where
    same : (x : Heap) (i j : ℕ) → i < h.count → j < h.count → x.count ≡ h.count → (swap x i j).count ≡ h.count
    same x i j l k q = swap-count x i j ∙ q
