-- One step of `rise` and of `sink`, whatever the fuel: the definitions' bounds on the number of steps cut nothing off. Assumes nothing.
use mathlib.Core.Path.{◌≡◌, refl, sym, ap, ◌∙◌, subst}
use mathlib.Core.Bool.{Bool, true, false, cond}
use mathlib.Core.List.{List}
use Prim.Native.Nat.{ℕ, zero, suc, ◌+◌, ◌-◌, ◌*◌, ◌/◌, ◌<◌, ◌≤◌}
use native.Mathlib.Omega.{arith}
use lib.Dec.{ltb}
use lib.Ieee.{Float, nan, lt}
use lib.ListN.{get_or}
use borrow.Author.Tests.{lt-ltb, le-ltb}
use Rattle.heap.specs.Heap.{Heap, entry_at, put, swap, less, rise_in, rise, Placed, placed, greater, sink_in, sink, cleared, settled, popped}

-- ---- rising

-- two depths, each of at least the place, give one rise
rise_in-enough : (n m : ℕ) (h : Heap) (i : ℕ) → i ≤ n → i ≤ m → rise_in n h i ≡ rise_in m h i
unfolding rise_in
rise_in-enough zero zero h i l k = refl
rise_in-enough zero (suc m) h zero l k = refl
rise_in-enough zero (suc m) h (suc i) l k = let z : ⊥ = omega arith in absurd z
rise_in-enough (suc n) zero h zero l k = refl
rise_in-enough (suc n) zero h (suc i) l k = let z : ⊥ = omega arith in absurd z
rise_in-enough (suc n) (suc m) h zero l k = refl
rise_in-enough (suc n) (suc m) h (suc i) l k =
    ap (λ (x : Heap). cond (less h (i / 2) (suc i)) x h) (rise_in-enough n m (swap h (suc i) (i / 2)) (i / 2) (omega arith) (omega arith))

-- the root rises no further
pub rise-root : (h : Heap) (i : ℕ) → i ≤ 0 → rise h i ≡ h
unfolding rise rise_in
rise-root h zero l = refl
rise-root h (suc i) l = let z : ⊥ = omega arith in absurd z

-- above a parent p that is less: one place up, and on from there
pub rise-up : (h : Heap) (i p : ℕ) → 0 < i → p ≡ (i - 1) / 2 → less h p i ≡ true → rise h i ≡ rise (swap h i p) p
unfolding rise rise_in
rise-up h zero p l q e = let z : ⊥ = omega arith in absurd z
rise-up h (suc i) p l q e =
    let r : i / 2 ≡ p = omega arith in
    subst (λ (z : ℕ). less h z (suc i) ≡ true → rise h (suc i) ≡ rise (swap h (suc i) z) z) r
    (λ d. rw d (rise_in-enough (suc i) (suc (i / 2)) (swap h (suc i) (i / 2)) (i / 2) (omega arith) (omega arith))) e

-- below a parent that is not: it stays
pub rise-stays : (h : Heap) (i p : ℕ) → 0 < i → p ≡ (i - 1) / 2 → less h p i ≡ false → rise h i ≡ h
unfolding rise rise_in
rise-stays h zero p l q e = let z : ⊥ = omega arith in absurd z
rise-stays h (suc i) p l q e = let r : i / 2 ≡ p = omega arith in rw (r, e)

-- ---- sinking

-- the greater child is one of the two
pub greater-low : (ks : List Float) (c : ℕ) → c ≤ greater ks c
unfolding greater
greater-low ks c = by (lt (get_or ks (c + 1) nan) (get_or ks c nan))
  where
    by : (b : Bool) → c ≤ cond b c (c + 1)
    by true = omega arith
    by false = omega arith

pub greater-high : (ks : List Float) (c : ℕ) → greater ks c ≤ c + 1
unfolding greater
greater-high ks c = by (lt (get_or ks (c + 1) nan) (get_or ks c nan))
  where
    by : (b : Bool) → cond b c (c + 1) ≤ c + 1
    by true = omega arith
    by false = omega arith

pub swap-count : (h : Heap) (i j : ℕ) → (swap h i j).count ≡ h.count
unfolding swap
swap-count h i j = refl

-- a place with no child is the bottom
sink_in-bottom : (n : ℕ) (h : Heap) (i : ℕ) → h.count ≤ i * 2 + 1 → sink_in n h i ≡ placed h i
unfolding sink_in
sink_in-bottom zero h i l = refl
sink_in-bottom (suc n) h i l = rw (le-ltb (i * 2 + 1 + 1) h.count (omega arith), le-ltb (i * 2 + 1) h.count (omega arith))

-- two depths, each of at least the places that are left, give one sinking
sink_in-enough : (n m : ℕ) (h : Heap) (i : ℕ) → h.count ≤ n + i → h.count ≤ m + i → sink_in n h i ≡ sink_in m h i
unfolding sink_in
sink_in-enough zero m h i l k = sym (sink_in-bottom m h i (omega arith))
sink_in-enough (suc n) zero h i l k = sink_in-bottom (suc n) h i (omega arith)
sink_in-enough (suc n) (suc m) h i l k =
    ap (λ (x : Placed). cond (ltb (i * 2 + 1 + 1) h.count) x (cond (ltb (i * 2 + 1) h.count) (placed (swap h i (i * 2 + 1)) (i * 2 + 1)) (placed h i)))
    (sink_in-enough n m (swap h i (greater h.keys (i * 2 + 1))) (greater h.keys (i * 2 + 1)) (fits n l) (fits m k))
  where
    fits : (n : ℕ) → h.count ≤ suc n + i → (swap h i (greater h.keys (i * 2 + 1))).count ≤ n + greater h.keys (i * 2 + 1)
    fits n l = rw (swap-count h i (greater h.keys (i * 2 + 1))) (omega (arith, greater-low h.keys (i * 2 + 1)))

-- one depth more than enough
sink-opened : (h : Heap) (i : ℕ) → sink h i ≡ sink_in (suc h.count) h i
unfolding sink
sink-opened h i = sink_in-enough h.count (suc h.count) h i (omega arith) (omega arith)

-- with two children, at c and after it: down to the greater one, and on from there
deeper : (n : ℕ) (h : Heap) (i c g : ℕ) → c ≡ i * 2 + 1 → c + 1 < h.count → g ≡ greater h.keys c → sink_in (suc n) h i ≡ sink_in n (swap h i g) g
unfolding sink_in
deeper n h i c g p l q = rw (q, p, lt-ltb (i * 2 + 1 + 1) h.count (omega arith))

pub sink-deeper : (h : Heap) (i c g : ℕ) → c ≡ i * 2 + 1 → c + 1 < h.count → g ≡ greater h.keys c → sink h i ≡ sink (swap h i g) g
unfolding sink swap
sink-deeper h i c g p l q = sink-opened h i ∙ deeper h.count h i c g p l q

-- with an only child, at c: down to it, and no further
only : (n : ℕ) (h : Heap) (i c : ℕ) → c ≡ i * 2 + 1 → c + 1 ≡ h.count → sink_in (suc n) h i ≡ placed (swap h i c) c
unfolding sink_in
only n h i c p l = rw (p, le-ltb (i * 2 + 1 + 1) h.count (omega arith), lt-ltb (i * 2 + 1) h.count (omega arith))

pub sink-only : (h : Heap) (i c : ℕ) → c ≡ i * 2 + 1 → c + 1 ≡ h.count → sink h i ≡ placed (swap h i c) c
sink-only h i c p l = sink-opened h i ∙ only h.count h i c p l

-- with no child it stays
pub sink-bottom : (h : Heap) (i c : ℕ) → c ≡ i * 2 + 1 → h.count ≤ c → sink h i ≡ placed h i
unfolding sink
sink-bottom h i c p l = sink_in-bottom h.count h i (omega arith)

-- ---- popping

-- the only entry goes out
pub popped-last : (h : Heap) (n : ℕ) → n ≤ 0 → popped h n ≡ cleared h n
unfolding popped
popped-last h zero l = refl
popped-last h (suc n) l = let z : ⊥ = omega arith in absurd z

-- the first of several goes out
pub popped-more : (h : Heap) (n : ℕ) → 0 < n → popped h n ≡ settled (put (cleared h n) 0 (entry_at h n))
unfolding popped
popped-more h zero l = let z : ⊥ = omega arith in absurd z
popped-more h (suc n) l = refl
