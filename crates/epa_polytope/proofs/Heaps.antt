-- The heap keeps its count, holds no face but those that it was given, and writes no place but those of its entries. Assumes nothing.
use mathlib.Core.Path.{◌≡◌, refl, sym, ap, ◌∙◌}
use mathlib.Core.Bool.{Bool, true, false, cond}
use Prim.Native.Nat.{ℕ, zero, suc, ◌+◌, ◌*◌, ◌/◌, ◌<◌, ◌≤◌}
use native.Mathlib.Omega.{arith}
use lib.Dec.{ltb}
use borrow.Author.Tests.{ltb-true, le-ltb}
use Rattle.heap.proofs.Steps.{swap-count}
use Rattle.heap.specs.declared.Entry.{Entry}
use Rattle.heap.specs.Heap.{Heap, heap, entry_at, put, swap, less, rise_in, rise, Placed, placed, greater, sink_in, sink, pushed, cleared, settled, popped}
use Rattle.epa_polytope.proofs.Basics.{all_set, all_push, all-fewer, all_none}
use Rattle.epa_polytope.proofs.Places.{stays, after, one_set}
use Rattle.epa_polytope.specs.Bounds.{Good}
use Rattle.epa_polytope.specs.Rule.{Untouched}

module _ (n c : ℕ) where
  good-swap : (h : Heap) (i j : ℕ) → i < c → j < c → Good n c h → Good n c (swap h i j)
  unfolding swap
  good-swap h i j hi hj g = record {
    counts = g.counts;
    each = all_set _ j _ n c (g.each.below i hi) (all_set h.faces i _ n c (g.each.below j hj) g.each);
  }

  good-rise : (k : ℕ) (h : Heap) (i : ℕ) → i < c → Good n c h → Good n c (rise_in k h i)
  unfolding rise_in
  good-rise zero h i l g = g
  good-rise (suc k) h zero l g = g
  good-rise (suc k) h (suc i) l g =
      let a : i / 2 < c = omega arith in
      by (less h (i / 2) (suc i)) (good-rise k (swap h (suc i) (i / 2)) (i / 2) a (good-swap h (suc i) (i / 2) l a g))
    where
      by : (b : Bool) → Good n c (rise_in k (swap h (suc i) (i / 2)) (i / 2)) → Good n c (cond b (rise_in k (swap h (suc i) (i / 2)) (i / 2)) h)
      by true x = x
      by false x = g

  greater-in : (h : Heap) (i : ℕ) → i + 1 < c → greater h.keys i < c
  unfolding greater
  greater-in h i l = by (less h (i + 1) i)
    where
      by : (b : Bool) → cond b i (i + 1) < c
      by true = omega arith
      by false = l

  pub record GoodAt (p : Placed) : Type 0 where
    pub good : Good n c p.heap
    pub inside : p.place < c

  good-sink : (k : ℕ) (h : Heap) (i : ℕ) → i < c → Good n c h → GoodAt (sink_in k h i)
  unfolding sink_in
  good-sink zero h i l g = record { good = g; inside = l }
  good-sink (suc k) h i l g =
      by (ltb (i * 2 + 1 + 1) h.count) (ltb (i * 2 + 1) h.count) refl refl
      (λ m. good-sink k (swap h i (greater h.keys (i * 2 + 1))) (greater h.keys (i * 2 + 1)) m (good-swap h i (greater h.keys (i * 2 + 1)) l m g))
    where
      by : (a b : Bool) → ltb (i * 2 + 1 + 1) h.count ≡ a → ltb (i * 2 + 1) h.count ≡ b
          → (greater h.keys (i * 2 + 1) < c → GoodAt (sink_in k (swap h i (greater h.keys (i * 2 + 1))) (greater h.keys (i * 2 + 1))))
          → GoodAt (cond a (sink_in k (swap h i (greater h.keys (i * 2 + 1))) (greater h.keys (i * 2 + 1))) (cond b (placed (swap h i (i * 2 + 1)) (i * 2 + 1)) (placed h i)))
      by true b ea eb deeper = deeper (greater-in h (i * 2 + 1) (omega (arith, g.counts, ltb-true (i * 2 + 1 + 1) h.count ea)))
      by false true ea eb deeper =
          let m : i * 2 + 1 < c = omega (arith, g.counts, ltb-true (i * 2 + 1) h.count eb) in
          record { good = good-swap h i (i * 2 + 1) l m g; inside = m }
      by false false ea eb deeper = record { good = g; inside = l }

-- a push
pub good-pushed : (n c : ℕ) (h : Heap) (e : Entry) → e.face < n → Good n c h → Good n (c + 1) (pushed h e)
unfolding pushed rise
good-pushed n c h e l g =
    rw g.counts (good-rise n (c + 1) _ _ c (omega arith) (record { counts = refl; each = all_push h.faces e.face n c l g.each }))

good-risen : (n c : ℕ) (h : Heap) (i : ℕ) → i < c → Good n c h → Good n c (rise h i)
unfolding rise
good-risen n c h i l g = good-rise n c (suc i) h i l g

good-sunk : (n c : ℕ) (h : Heap) → Good n (suc c) h → GoodAt n (suc c) (sink h 0)
unfolding sink
good-sunk n c h g = good-sink n (suc c) h.count h 0 (omega arith) g

-- a pop, of c + 1 entries
pub good-popped : (n c : ℕ) (h : Heap) → Good n (c + 1) h → Good n c (popped h c)
unfolding popped settled
good-popped n zero h g = record { counts = refl; each = all_none _ n }
good-popped n (suc c) h g = sunk (sink first 0) (good-sunk n c first start)
  where
    first : Heap
    first = put (cleared h (suc c)) 0 (entry_at h (suc c))

    start : Good n (suc c) first
    start = record {
      counts = refl;
      each = all_set _ 0 _ n (suc c) (g.each.below (suc c) (omega arith)) (all_set h.faces (suc c) 0 n (suc c) (omega (arith, g.each.below 0 (omega arith))) (all-fewer h.faces n (suc c + 1) (suc c) (omega arith) g.each));
    }

    sunk : (p : Placed) → GoodAt n (suc c) p → Good n (suc c) (rise p.heap p.place)
    sunk p q = good-risen n (suc c) p.heap p.place q.inside q.good

-- ---- the places that are written

-- the heap k is h but for places below c
pub record Inside (c : ℕ) (h k : Heap) : Type 0 where
  pub counts : k.count ≡ h.count
  pub of_faces : Untouched c k.faces h.faces
  pub of_keys : Untouched c k.keys h.keys

module _ (c : ℕ) where
  inside-self : (h : Heap) → Inside c h h
  inside-self h = record { counts = refl; of_faces = stays c h.faces; of_keys = stays c h.keys }

  inside-after : {h k l : Heap} → Inside c h k → Inside c k l → Inside c h l
  inside-after p q = record { counts = q.counts ∙ p.counts; of_faces = after (omega arith) q.of_faces p.of_faces; of_keys = after (omega arith) q.of_keys p.of_keys }

  inside-put : (h : Heap) (i : ℕ) (e : Entry) → i < c → Inside c h (put h i e)
  inside-put h i e l = record { counts = refl; of_faces = one_set h.faces i e.face c l; of_keys = one_set h.keys i e.key c l }

  inside-swap : (h : Heap) (i j : ℕ) → i < c → j < c → Inside c h (swap h i j)
  unfolding swap
  inside-swap h i j hi hj = inside-after (inside-put h i (entry_at h j) hi) (inside-put (put h i (entry_at h j)) j (entry_at h i) hj)

  inside-rise : (n : ℕ) (h : Heap) (i : ℕ) → i < c → Inside c h (rise_in n h i)
  unfolding rise_in
  inside-rise zero h i l = inside-self h
  inside-rise (suc n) h zero l = inside-self h
  inside-rise (suc n) h (suc i) l =
      by (less h (i / 2) (suc i)) (inside-after (inside-swap h (suc i) (i / 2) l (omega arith)) (inside-rise n (swap h (suc i) (i / 2)) (i / 2) (omega arith)))
    where
      by : (b : Bool) → Inside c h (rise_in n (swap h (suc i) (i / 2)) (i / 2)) → Inside c h (cond b (rise_in n (swap h (suc i) (i / 2)) (i / 2)) h)
      by true x = x
      by false x = inside-self h

  record InsideAt (h : Heap) (p : Placed) : Type 0 where
    inside : Inside c h p.heap
    below : p.place < c

  inside-sink : (n : ℕ) (h : Heap) (i : ℕ) → h.count ≤ c → i < c → InsideAt h (sink_in n h i)
  unfolding sink_in
  inside-sink zero h i f l = record { inside = inside-self h; below = l }
  inside-sink (suc n) h i f l =
      by (ltb (i * 2 + 1 + 1) h.count) (ltb (i * 2 + 1) h.count) refl refl
      (λ m. let s = inside-swap h i (greater h.keys (i * 2 + 1)) l m in deep s (inside-sink n (swap h i (greater h.keys (i * 2 + 1))) (greater h.keys (i * 2 + 1)) (omega (arith, s.counts)) m))
    where
      deep : {k : Heap} {p : Placed} → Inside c h k → InsideAt k p → InsideAt h p
      deep s x = record { inside = inside-after s x.inside; below = x.below }

      by : (a b : Bool) → ltb (i * 2 + 1 + 1) h.count ≡ a → ltb (i * 2 + 1) h.count ≡ b
          → (greater h.keys (i * 2 + 1) < c → InsideAt h (sink_in n (swap h i (greater h.keys (i * 2 + 1))) (greater h.keys (i * 2 + 1))))
          → InsideAt h (cond a (sink_in n (swap h i (greater h.keys (i * 2 + 1))) (greater h.keys (i * 2 + 1))) (cond b (placed (swap h i (i * 2 + 1)) (i * 2 + 1)) (placed h i)))
      by true b ea eb deeper = deeper (greater-in 0 c h (i * 2 + 1) (omega (arith, ltb-true (i * 2 + 1 + 1) h.count ea)))
      by false true ea eb deeper =
          let m : i * 2 + 1 < c = omega (arith, ltb-true (i * 2 + 1) h.count eb) in
          record { inside = inside-swap h i (i * 2 + 1) l m; below = m }
      by false false ea eb deeper = record { inside = inside-self h; below = l }

  inside-settled : (h : Heap) → h.count ≤ c → 0 < c → Inside c h (settled h)
  unfolding settled rise sink
  inside-settled h f l = by (sink_in h.count h 0) (inside-sink h.count h 0 f l)
    where
      by : (p : Placed) → InsideAt h p → Inside c h (rise_in (suc p.place) p.heap p.place)
      by p x = inside-after x.inside (inside-rise (suc p.place) p.heap p.place x.below)

-- a push writes at the count, and below
pub inside-pushed : (h : Heap) (e : Entry) → Inside (h.count + 1) (heap h.faces h.keys (h.count + 1)) (pushed h e)
unfolding pushed rise
inside-pushed h e =
    let c = h.count + 1 in
    inside-after c (inside-put c (heap h.faces h.keys c) h.count e (omega arith)) (inside-rise c (suc h.count) _ h.count (omega arith))

-- a pop, of n + 1 entries, clears the place n, and writes below
pub inside-popped : (h : Heap) (n : ℕ) → Inside n (cleared h n) (popped h n)
unfolding popped
inside-popped h zero = inside-self zero (cleared h zero)
inside-popped h (suc n) =
    inside-after (suc n) (inside-put (suc n) (cleared h (suc n)) 0 (entry_at h (suc n)) (omega arith)) (inside-settled (suc n) (put (cleared h (suc n)) 0 (entry_at h (suc n))) (omega arith) (omega arith))

-- ---- the depths suffice

-- two depths, each of at least the place, give one rise
pub rise-enough : (n m : ℕ) (h : Heap) (i : ℕ) → i ≤ n → i ≤ m → rise_in n h i ≡ rise_in m h i
unfolding rise_in
rise-enough zero zero h i l k = refl
rise-enough zero (suc m) h zero l k = refl
rise-enough zero (suc m) h (suc i) l k = let z : ⊥ = omega arith in absurd z
rise-enough (suc n) zero h zero l k = refl
rise-enough (suc n) zero h (suc i) l k = let z : ⊥ = omega arith in absurd z
rise-enough (suc n) (suc m) h zero l k = refl
rise-enough (suc n) (suc m) h (suc i) l k =
    ap (λ (x : Heap). cond (less h (i / 2) (suc i)) x h) (rise-enough n m (swap h (suc i) (i / 2)) (i / 2) (omega arith) (omega arith))

greater-more : (h : Heap) (i : ℕ) → i ≤ greater h.keys i
unfolding greater
greater-more h i = by (less h (i + 1) i)
  where
    by : (b : Bool) → i ≤ cond b i (i + 1)
    by true = omega arith
    by false = omega arith

-- at or past the end nothing sinks
sink-end : (n : ℕ) (h : Heap) (i : ℕ) → h.count ≤ i → sink_in n h i ≡ placed h i
unfolding sink_in
sink-end zero h i l = refl
sink-end (suc n) h i l = rw (le-ltb (i * 2 + 1 + 1) h.count (omega arith), le-ltb (i * 2 + 1) h.count (omega arith))

-- two depths, each of at least the places that are left, give one sinking
pub sink-enough : (n m : ℕ) (h : Heap) (i : ℕ) → h.count ≤ n + i → h.count ≤ m + i → sink_in n h i ≡ sink_in m h i
unfolding sink_in
sink-enough zero m h i l k = sym (sink-end m h i (omega arith))
sink-enough (suc n) zero h i l k = sink-end (suc n) h i (omega arith)
sink-enough (suc n) (suc m) h i l k =
    ap (λ (x : Placed). cond (ltb (i * 2 + 1 + 1) h.count) x (cond (ltb (i * 2 + 1) h.count) (placed (swap h i (i * 2 + 1)) (i * 2 + 1)) (placed h i)))
    (sink-enough n m (swap h i (greater h.keys (i * 2 + 1))) (greater h.keys (i * 2 + 1)) (fits n l) (fits m k))
  where
    fits : (n : ℕ) → h.count ≤ suc n + i → (swap h i (greater h.keys (i * 2 + 1))).count ≤ n + greater h.keys (i * 2 + 1)
    fits n l = rw (swap-count h i (greater h.keys (i * 2 + 1))) (omega (arith, greater-more h (i * 2 + 1)))
