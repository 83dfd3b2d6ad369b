-- Two lists, two heaps and two walks that are alike below a count: what is written alike stays alike, and what is read below the count is the same. Assumes nothing.
use mathlib.Core.Path.{◌≡◌, refl, sym, ap, subst, ◌∙◌}
use mathlib.Core.Bool.{Bool, true, false, cond}
use mathlib.Core.List.{List, [], ◌∷◌}
use Prim.Native.Nat.{ℕ, zero, suc, ◌+◌, ◌*◌, ◌/◌, ◌<◌, ◌≤◌}
use native.Mathlib.Omega.{arith}
use native.Mathlib.Decide.{ℕ_discrete}
use lib.ListN.{length, get_or, set, length-set}
use lib.Seq.{get_or-set_same, get_or-set_other, sets}
use lib.Dec.{ltb}
use lib.Ieee.{Float, nan, lt}
use borrow.Author.Tests.{ltb-true}
use Rattle.heap.specs.declared.Entry.{Entry}
use Rattle.heap.specs.Heap.{Heap, heap, entry_at, put, swap, less, rise_in, rise, Placed, placed, greater, sink_in, sink, pushed, cleared, settled, popped}
use Rattle.epa_polytope.specs.Same.{Alike}

-- ---- lists

module _ {A : Type 0} where
  pub alike-none : (l k : List A) → Alike 0 l k
  alike-none l k = record { long = omega arith; long' = omega arith; same = λ i d h. let z : ⊥ = omega arith in absurd z }

  pub alike-fewer : (n m : ℕ) (l k : List A) → m ≤ n → Alike n l k → Alike m l k
  alike-fewer n m l k h a = record { long = omega arith; long' = omega arith; same = λ i d j. a.same i d (omega arith) }

  -- one place more is written, or one that there was
  pub alike-push : (n : ℕ) (l k : List A) (v : A) → n < length l → n < length k → Alike n l k → Alike (suc n) (set l n v) (set k n v)
  alike-push n l k v hl hk a = record {
    long = omega (arith, length-set l n v);
    long' = omega (arith, length-set k n v);
    same = λ i d h. by i d h (ℕ_discrete i n);
  }
    where
      by : (i : ℕ) (d : A) → i < suc n → Dec (i ≡ n) → get_or (set l n v) i d ≡ get_or (set k n v) i d
      by i d h (yes e) = rw e (get_or-set_same l n v d hl ∙ sym (get_or-set_same k n v d hk))
      by i d h (no e) = get_or-set_other l n i v d e ∙ a.same i d (omega arith) ∙ sym (get_or-set_other k n i v d e)

  pub alike_set : (n : ℕ) (l k : List A) (i : ℕ) (v : A) → Alike n l k → Alike n (set l i v) (set k i v)
  alike_set n l k i v a = record {
    long = omega (arith, length-set l i v);
    long' = omega (arith, length-set k i v);
    same = λ j d h. by j d h (ℕ_discrete j i);
  }
    where
      by : (j : ℕ) (d : A) → j < n → Dec (j ≡ i) → get_or (set l i v) j d ≡ get_or (set k i v) j d
      by j d h (yes e) = rw e (get_or-set_same l i v d (omega arith) ∙ sym (get_or-set_same k i v d (omega arith)))
      by j d h (no e) = get_or-set_other l i j v d e ∙ a.same j d h ∙ sym (get_or-set_other k i j v d e)

  -- the same, of two values that are the same
  pub alike-put : (n : ℕ) (l k : List A) (i : ℕ) (v w : A) → v ≡ w → Alike n l k → Alike n (set l i v) (set k i w)
  alike-put n l k i v w e a = subst (λ (x : A). Alike n (set l i v) (set k i x)) e (alike_set n l k i v a)

  pub alike-sets : (vs : List A) (n m : ℕ) (l k : List A) → n + length vs ≡ m → m ≤ length l → m ≤ length k → Alike n l k → Alike m (sets l n vs) (sets k n vs)
  alike-sets [] n m l k e hl hk a = let q : n ≡ m = omega arith in subst (λ (x : ℕ). Alike x l k) q a
  alike-sets (v ∷ vs) n m l k e hl hk a =
      alike-sets vs (suc n) m (set l n v) (set k n v) (omega arith) (omega (arith, length-set l n v)) (omega (arith, length-set k n v)) (alike-push n l k v (omega arith) (omega arith) a)

  -- inside, any places
  pub alike-over : (vs : List A) (n i : ℕ) (l k : List A) → Alike n l k → Alike n (sets l i vs) (sets k i vs)
  alike-over [] n i l k a = a
  alike-over (v ∷ vs) n i l k a = alike-over vs n (suc i) (set l i v) (set k i v) (alike_set n l k i v a)

-- ---- the heap

-- two heaps of c entries
pub record AlikeHeap (c : ℕ) (h k : Heap) : Type 0 where
  pub count : h.count ≡ c
  pub count' : k.count ≡ c
  pub faces : Alike c h.faces k.faces
  pub keys : Alike c h.keys k.keys

module _ (c : ℕ) where
  pub alike-entry : (h k : Heap) (i : ℕ) → i < c → AlikeHeap c h k → entry_at h i ≡ entry_at k i
  alike-entry h k i l a = rw (a.faces.same i 0 l, a.keys.same i nan l)

  alike-put_entry : (h k : Heap) (i : ℕ) (e f : Entry) → e ≡ f → AlikeHeap c h k → AlikeHeap c (put h i e) (put k i f)
  alike-put_entry h k i e f q a = record {
    count = a.count;
    count' = a.count';
    faces = alike-put c h.faces k.faces i e.face f.face (ap (λ (x : Entry). x.face) q) a.faces;
    keys = alike-put c h.keys k.keys i e.key f.key (ap (λ (x : Entry). x.key) q) a.keys;
  }

  alike-swap : (h k : Heap) (i j : ℕ) → i < c → j < c → AlikeHeap c h k → AlikeHeap c (swap h i j) (swap k i j)
  unfolding swap
  alike-swap h k i j hi hj a =
      alike-put_entry (put h i (entry_at h j)) (put k i (entry_at k j)) j (entry_at h i) (entry_at k i) (alike-entry h k i hi a)
      (alike-put_entry h k i (entry_at h j) (entry_at k j) (alike-entry h k j hj a) a)

  alike-less : (h k : Heap) (i j : ℕ) → i < c → j < c → AlikeHeap c h k → less h i j ≡ less k i j
  alike-less h k i j hi hj a = rw (a.keys.same i nan hi, a.keys.same j nan hj)

  alike-rise_in : (n : ℕ) (h k : Heap) (i : ℕ) → i < c → AlikeHeap c h k → AlikeHeap c (rise_in n h i) (rise_in n k i)
  unfolding rise_in
  alike-rise_in zero h k i l a = a
  alike-rise_in (suc n) h k zero l a = a
  alike-rise_in (suc n) h k (suc i) l a =
      by (less h (i / 2) (suc i)) (less k (i / 2) (suc i)) (alike-less h k (i / 2) (suc i) (omega arith) l a)
      (alike-rise_in n (swap h (suc i) (i / 2)) (swap k (suc i) (i / 2)) (i / 2) (omega arith) (alike-swap h k (suc i) (i / 2) l (omega arith) a))
    where
      by : (b d : Bool) → b ≡ d → AlikeHeap c (rise_in n (swap h (suc i) (i / 2)) (i / 2)) (rise_in n (swap k (suc i) (i / 2)) (i / 2))
          → AlikeHeap c (cond b (rise_in n (swap h (suc i) (i / 2)) (i / 2)) h) (cond d (rise_in n (swap k (suc i) (i / 2)) (i / 2)) k)
      by true true e x = x
      by false false e x = a
      by true false e x = let z : ◌≡◌ {A = ℕ} 0 1 = cc in let y : ⊥ = omega arith in absurd y
      by false true e x = let z : ◌≡◌ {A = ℕ} 0 1 = cc in let y : ⊥ = omega arith in absurd y

  pub record AlikeAt (p q : Placed) : Type 0 where
    pub heaps : AlikeHeap c p.heap q.heap
    pub place : p.place ≡ q.place
    pub below : p.place < c

  alike-greater : (h k : Heap) (i : ℕ) → i + 1 < c → AlikeHeap c h k → greater h.keys i ≡ greater k.keys i
  unfolding greater
  alike-greater h k i l a = rw (a.keys.same (i + 1) nan l, a.keys.same i nan (omega arith))

  greater-below : (l : List Float) (i : ℕ) → i + 1 < c → greater l i < c
  unfolding greater
  greater-below l i h = by (lt (get_or l (i + 1) nan) (get_or l i nan))
    where
      by : (b : Bool) → cond b i (i + 1) < c
      by true = omega arith
      by false = h

  alike-sink_in : (n : ℕ) (h k : Heap) (i : ℕ) → i < c → AlikeHeap c h k → AlikeAt (sink_in n h i) (sink_in n k i)
  unfolding sink_in
  alike-sink_in zero h k i l a = record { heaps = a; place = refl; below = l }
  alike-sink_in (suc n) h k i l a =
      let g = greater h.keys (i * 2 + 1) in
      let g' = greater k.keys (i * 2 + 1) in
      by (ltb (i * 2 + 1 + 1) h.count) (ltb (i * 2 + 1 + 1) k.count) (ltb (i * 2 + 1) h.count) (ltb (i * 2 + 1) k.count)
      (rw (a.count, a.count')) (rw (a.count, a.count')) refl refl
      (λ m. let e = alike-greater h k (i * 2 + 1) m a in
      let b = greater-below h.keys (i * 2 + 1) m in
      subst (λ (x : ℕ). AlikeAt (sink_in n (swap h i g) g) (sink_in n (swap k i x) x)) e (alike-sink_in n (swap h i g) (swap k i g) g b (alike-swap h k i g l b a)))
    where
      by : (b d x y : Bool) → b ≡ d → x ≡ y → ltb (i * 2 + 1 + 1) h.count ≡ b → ltb (i * 2 + 1) h.count ≡ x
          → (i * 2 + 1 + 1 < c → AlikeAt (sink_in n (swap h i (greater h.keys (i * 2 + 1))) (greater h.keys (i * 2 + 1))) (sink_in n (swap k i (greater k.keys (i * 2 + 1))) (greater k.keys (i * 2 + 1))))
          → AlikeAt (cond b (sink_in n (swap h i (greater h.keys (i * 2 + 1))) (greater h.keys (i * 2 + 1))) (cond x (placed (swap h i (i * 2 + 1)) (i * 2 + 1)) (placed h i)))
          (cond d (sink_in n (swap k i (greater k.keys (i * 2 + 1))) (greater k.keys (i * 2 + 1))) (cond y (placed (swap k i (i * 2 + 1)) (i * 2 + 1)) (placed k i)))
      by true true x y e f t u deeper = deeper (omega (arith, a.count, ltb-true (i * 2 + 1 + 1) h.count t))
      by false false true true e f t u deeper =
          let m : i * 2 + 1 < c = omega (arith, a.count, ltb-true (i * 2 + 1) h.count u) in
          record { heaps = alike-swap h k i (i * 2 + 1) l m a; place = refl; below = m }
      by false false false false e f t u deeper = record { heaps = a; place = refl; below = l }
      by true false x y e f t u deeper = let z : ◌≡◌ {A = ℕ} 0 1 = cc in let y : ⊥ = omega arith in absurd y
      by false true x y e f t u deeper = let z : ◌≡◌ {A = ℕ} 0 1 = cc in let y : ⊥ = omega arith in absurd y
      by false false true false e f t u deeper = let z : ◌≡◌ {A = ℕ} 0 1 = cc in let y : ⊥ = omega arith in absurd y
      by false false false true e f t u deeper = let z : ◌≡◌ {A = ℕ} 0 1 = cc in let y : ⊥ = omega arith in absurd y

  alike-rise : (h k : Heap) (i : ℕ) → i < c → AlikeHeap c h k → AlikeHeap c (rise h i) (rise k i)
  unfolding rise
  alike-rise h k i l a = alike-rise_in (suc i) h k i l a

  alike-settled : (h k : Heap) → 0 < c → AlikeHeap c h k → AlikeHeap c (settled h) (settled k)
  unfolding settled sink
  alike-settled h k l a = by (sink_in h.count h 0) (sink_in k.count k 0) (subst (λ (n : ℕ). AlikeAt (sink_in h.count h 0) (sink_in n k 0)) (a.count ∙ sym a.count') (alike-sink_in h.count h k 0 l a))
    where
      by : (p q : Placed) → AlikeAt p q → AlikeHeap c (rise p.heap p.place) (rise q.heap q.place)
      by p q x = subst (λ (i : ℕ). AlikeHeap c (rise p.heap p.place) (rise q.heap i)) x.place (alike-rise p.heap q.heap p.place x.below x.heaps)

-- a push, where there is room
pub alike-pushed : (c : ℕ) (h k : Heap) (e f : Entry) → e ≡ f → c < length h.faces → c < length h.keys → c < length k.faces → c < length k.keys
    → AlikeHeap c h k → AlikeHeap (suc c) (pushed h e) (pushed k f)
unfolding pushed
alike-pushed c h k e f q h1 h2 k1 k2 a =
    subst (λ (x : Entry). AlikeHeap (suc c) (rise (put (heap h.faces h.keys (h.count + 1)) h.count e) h.count) (rise (put (heap k.faces k.keys (k.count + 1)) k.count x) k.count)) q
    (rw (a.count, a.count') (alike-rise (suc c) _ _ c (omega arith) (record {
      count = omega arith;
      count' = omega arith;
      faces = alike-push c h.faces k.faces e.face h1 k1 a.faces;
      keys = alike-push c h.keys k.keys e.key h2 k2 a.keys;
    })))

-- a pop, of c + 1 entries
pub alike-popped : (c : ℕ) (h k : Heap) → AlikeHeap (suc c) h k → AlikeHeap c (popped h c) (popped k c)
unfolding popped
alike-popped zero h k a = record { count = refl; count' = refl; faces = alike-none _ _; keys = alike-none _ _ }
alike-popped (suc c) h k a =
    alike-settled (suc c) _ _ (omega arith)
    (alike-put_entry (suc c) (cleared h (suc c)) (cleared k (suc c)) 0 (entry_at h (suc c)) (entry_at k (suc c)) (alike-entry (suc (suc c)) h k (suc c) (omega arith) a) (record {
      count = refl;
      count' = refl;
      faces = alike_set (suc c) h.faces k.faces (suc c) _ (alike-fewer (suc (suc c)) (suc c) _ _ (omega arith) a.faces);
      keys = alike_set (suc c) h.keys k.keys (suc c) _ (alike-fewer (suc (suc c)) (suc c) _ _ (omega arith) a.keys);
    }))
