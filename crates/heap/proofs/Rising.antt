-- That an entry that rises leaves the heap in order: what moves and what stays when two entries change places, and what each step of rising does. Assumes nothing.
use mathlib.Core.Path.{◌≡◌, refl, sym, ap, ◌∙◌}
use mathlib.Core.Bool.{Bool, true, false, cond, true≢false}
use mathlib.Core.List.{List, [], ◌∷◌}
use Prim.Native.Nat.{ℕ, zero, suc, ◌+◌, ◌/◌, ◌<◌, ◌≤◌}
use native.Mathlib.Omega.{arith}
use native.Mathlib.Decide.{ℕ_discrete}
use lib.ListN.{length, get_or, set, length-set, get_or-eq_default}
use lib.Seq.{get_or-set_same, get_or-set_other}
use lib.Dec.{ltb}
use lib.Ieee.{Float, nan, lt, is_nan}
use borrow.Author.Tests.{ltb-true, ltb-false}
use Rattle.number.proofs.Order.{lt-asym, not-less-trans}
use Rattle.heap.specs.Heap.{Heap, Entry, entry_at, put, with_count, no_entry, swap, less, rise_in, rise, pushed, cleared, settled, popped}
use Rattle.heap.specs.Ordered.{key_at, Held, NotNan, AtMost, Ordered}
use Rattle.heap.proofs.Steps.{swap-count}
use Rattle.heap.proofs.Moves.{rise-holds, settled-holds}

-- ---- steps, on keys as a function of the place, of which the first c hold entries

-- in order but for the entry at i, whose children are at most its parent
pub record Rising (c : ℕ) (key : ℕ → Float) (i : ℕ) : Type 0 where
  pub others : (j : ℕ) → suc j < c → (suc j ≡ i → ⊥) → AtMost (key (j / 2)) (key (suc j))
  pub grand : (p j : ℕ) → i ≡ suc p → j / 2 ≡ i → suc j < c → AtMost (key (p / 2)) (key (suc j))

-- in order but for the entry at i and its children, which are at most its parent
pub record Sinking (c : ℕ) (key : ℕ → Float) (i : ℕ) : Type 0 where
  pub others : (j : ℕ) → suc j < c → (suc j ≡ i → ⊥) → (j / 2 ≡ i → ⊥) → AtMost (key (j / 2)) (key (suc j))
  pub grand : (p j : ℕ) → i ≡ suc p → j / 2 ≡ i → suc j < c → AtMost (key (p / 2)) (key (suc j))

-- the keys at i and j change places
pub record Exchanged (i j : ℕ) (key new : ℕ → Float) : Type 0 where
  pub first : new i ≡ key j
  pub second : new j ≡ key i
  pub other : (p : ℕ) → (p ≡ i → ⊥) → (p ≡ j → ⊥) → new p ≡ key p

-- the same of equal keys
pub at-most-as : {a b x y : Float} → a ≡ x → b ≡ y → AtMost x y → AtMost a b
at-most-as p q h = rw (p, q) h

module _ (c : ℕ) (key new : ℕ → Float) where
  -- the entry at i + 1 changes places with its parent, which is less
  pub rise-step : (i : ℕ) → NotNan (key (i / 2)) → lt (key (i / 2)) (key (suc i)) ≡ true → Exchanged (suc i) (i / 2) key new → Rising c key (suc i) → Rising c new (i / 2)
  rise-step i real l x h = record {
    others = λ j k n. child j k n (ℕ_discrete j i);
    grand = λ p j e f k. grandchild p j e f k (ℕ_discrete j i);
  }
    where
      child : (j : ℕ) → suc j < c → (suc j ≡ i / 2 → ⊥) → Dec (j ≡ i) → AtMost (new (j / 2)) (new (suc j))
      child j k n (yes e) = rw e (at-most-as x.second x.first (lt-asym _ _ l))
      child j k n (no e) = at-most-as refl (x.other (suc j) (λ q. e (omega arith)) n) (by (ℕ_discrete (j / 2) (i / 2)) (ℕ_discrete (j / 2) (suc i)))
        where
          by : Dec (j / 2 ≡ i / 2) → Dec (j / 2 ≡ suc i) → AtMost (new (j / 2)) (key (suc j))
          by (yes f) d = at-most-as (ap new f ∙ x.second) refl (not-less-trans _ (key (i / 2)) _ real (lt-asym _ _ l) (at-most-as (ap key (sym f)) refl (h.others j k (λ q. e (omega arith)))))
          by (no f) (yes g) = at-most-as (ap new g ∙ x.first) refl (h.grand i j refl g k)
          by (no f) (no g) = at-most-as (x.other (j / 2) g f) refl (h.others j k (λ q. e (omega arith)))

      grandchild : (p j : ℕ) → i / 2 ≡ suc p → j / 2 ≡ i / 2 → suc j < c → Dec (j ≡ i) → AtMost (new (p / 2)) (new (suc j))
      grandchild p j e f k d = at-most-as (x.other (p / 2) (λ q. omega arith) (λ q. omega arith)) refl (by d)
        where
          -- the parent of i / 2 is not less than it was, and it was not less than its other child
          above : suc p < c → AtMost (key (p / 2)) (key (i / 2))
          above m = at-most-as refl (ap key e) (h.others p m (λ q. omega arith))

          by : Dec (j ≡ i) → AtMost (key (p / 2)) (new (suc j))
          by (yes q) = at-most-as refl (ap (λ (n : ℕ). new (suc n)) q ∙ x.first) (above (omega arith))
          by (no q) =
              at-most-as refl (x.other (suc j) (λ z. q (omega arith)) (λ z. omega arith))
              (not-less-trans _ (key (i / 2)) _ real (above (omega arith)) (at-most-as (ap key (sym f)) refl (h.others j k (λ z. q (omega arith)))))

  -- the entry at i changes places with its child at q + 1, which no child exceeds
  pub sink-step : (i q : ℕ) → q / 2 ≡ i → suc q < c → ((j : ℕ) → suc j < c → j / 2 ≡ i → AtMost (key (suc q)) (key (suc j))) → Exchanged i (suc q) key new → Sinking c key i
      → Sinking c new (suc q)
  sink-step i q e l most x h = record {
    others = λ j k n m. child j k n m (ℕ_discrete (suc j) i);
    grand = λ p j f g k.
        at-most-as
        (ap new (ap (λ (n : ℕ). n / 2) (sym (ap-pred f)) ∙ e) ∙ x.first)
        (x.other (suc j) (λ z. omega arith) (λ z. omega arith))
        (at-most-as (ap key (sym g)) refl (h.others j k (λ z. omega arith) (λ z. omega arith)));
  }
    where
      ap-pred : {a b : ℕ} → suc a ≡ suc b → a ≡ b
      ap-pred z = omega arith

      child : (j : ℕ) → suc j < c → (suc j ≡ suc q → ⊥) → (j / 2 ≡ suc q → ⊥) → Dec (suc j ≡ i) → AtMost (new (j / 2)) (new (suc j))
      child j k n m (yes f) = at-most-as (x.other (j / 2) (λ z. omega arith) m) (ap new f ∙ x.first) (h.grand j q (sym f) e l)
      child j k n m (no f) = at-most-as refl (x.other (suc j) f n) (by (ℕ_discrete (j / 2) i))
        where
          by : Dec (j / 2 ≡ i) → AtMost (new (j / 2)) (key (suc j))
          by (yes g) = at-most-as (ap new g ∙ x.first) refl (most j k g)
          by (no g) = at-most-as (x.other (j / 2) g m) refl (h.others j k f g)

-- ---- the keys that a heap holds

-- a place of a list is what was written, or what it was
written-or-kept : (Q : Float → Type 0) (l : List Float) (i : ℕ) (v : Float) (p : ℕ) → Q v → Q (get_or l p nan) → Q (get_or (set l i v) p nan)
written-or-kept Q [] i v p h k = k
written-or-kept Q (x ∷ l) zero v zero h k = h
written-or-kept Q (x ∷ l) zero v (suc p) h k = k
written-or-kept Q (x ∷ l) (suc i) v zero h k = k
written-or-kept Q (x ∷ l) (suc i) v (suc p) h k = written-or-kept Q l i v p h k

module _ (Q : Float → Type 0) where
  pub held-swap : (h : Heap) (i j : ℕ) → i < h.count → j < h.count → Held Q h → Held Q (swap h i j)
  unfolding swap
  held-swap h i j hi hj a = record {
    each = λ p l. written-or-kept Q (set h.keys i (key_at h j)) j (key_at h i) p (a.each i hi) (written-or-kept Q h.keys i (key_at h j) p (a.each j hj) (a.each p l));
  }

  -- with the count
  abbrev HeldOf : ℕ → Heap → Type 0
  HeldOf c g = (g.count ≡ c) × Held Q g

  swaps : (c : ℕ) (g : Heap) (i j : ℕ) → i < c → j < c → HeldOf c g → HeldOf c (swap g i j)
  swaps c g i j hi hj q = (swap-count g i j ∙ q.0, held-swap g i j (rw q.0 hi) (rw q.0 hj) q.1)

  rise-held : (h : Heap) (i : ℕ) → i < h.count → Held Q h → HeldOf h.count (rise h i)
  rise-held h i l a = rise-holds h.count (HeldOf h.count) (λ g q. q.0) (swaps h.count) h i l (refl, a)

  settled-held : (h : Heap) → 0 < h.count → Held Q h → HeldOf h.count (settled h)
  settled-held h l a = settled-holds h.count (HeldOf h.count) (λ g q. q.0) (swaps h.count) h l (refl, a)

  -- the entry e comes last
  pub held-put : (h : Heap) (e : Entry) → h.count < length h.keys → Q e.key → Held Q h → Held Q (put (with_count h (h.count + 1)) h.count e)
  held-put h e room v a = record { each = λ p l. by p l (ℕ_discrete p h.count) }
    where
      by : (p : ℕ) → p < h.count + 1 → Dec (p ≡ h.count) → Q (get_or (set h.keys h.count e.key) p nan)
      by p l (yes q) = rw (q, get_or-set_same h.keys h.count e.key nan room) v
      by p l (no q) = rw (get_or-set_other h.keys h.count p e.key nan q) (a.each p (omega arith))

  -- AFTER A PUSH: of the keys held before, and the one pushed
  pub pushed-held : (h : Heap) (e : Entry) → h.count < length h.keys → Q e.key → Held Q h → Held Q (pushed h e)
  unfolding pushed
  pushed-held h e room v a = (rise-held (put (with_count h (h.count + 1)) h.count e) h.count (omega arith) (held-put h e room v a)).1

  -- of n + 2 entries the last takes the first place
  pub held_moved : (h : Heap) (n : ℕ) → h.count ≡ suc (suc n) → Held Q h → Held Q (put (cleared h (suc n)) 0 (entry_at h (suc n)))
  held_moved h n e a = record {
    each = λ p l.
        let other : p ≡ suc n → ⊥ = λ z. omega arith in
        written-or-kept Q (set h.keys (suc n) no_entry.key) 0 (key_at h (suc n)) p (a.each (suc n) (omega arith)) (rw (get_or-set_other h.keys (suc n) p no_entry.key nan other) (a.each p (omega arith)));
  }

  -- AFTER A POP, of n + 1: of the keys held before
  pub popped-held : (h : Heap) (n : ℕ) → h.count ≡ suc n → Held Q h → Held Q (popped h n)
  unfolding popped
  popped-held h zero e a = record { each = λ p l. let z : ⊥ = omega arith in absurd z }
  popped-held h (suc n) e a = (settled-held (put (cleared h (suc n)) 0 (entry_at h (suc n))) (omega arith) (held_moved h n e a)).1

-- ---- rising

-- a key that is not NaN has a place in the list
in_list : (h : Heap) (i : ℕ) → NotNan (key_at h i) → i < length h.keys
unfolding is_nan
in_list h i r = by (ltb i (length h.keys)) refl
  where
    by : (b : Bool) → ltb i (length h.keys) ≡ b → i < length h.keys
    by true e = ltb-true _ _ e
    by false e = absurd (true≢false (rw (get_or-eq_default h.keys nan (ltb-false i (length h.keys) e)) at r))

pub swap-exchanges : (h : Heap) (i j : ℕ) → (i ≡ j → ⊥) → NotNan (key_at h i) → NotNan (key_at h j) → Exchanged i j (key_at h) (key_at (swap h i j))
unfolding swap
swap-exchanges h i j n ri rj =
    let ks = h.keys in
    let mid = set ks i (get_or ks j nan) in
    let li : i < length ks = in_list h i ri in
    let lj : j < length mid = rw (length-set ks i (get_or ks j nan)) (in_list h j rj) in
    record {
      first = get_or-set_other mid j i (get_or ks i nan) nan n ∙ get_or-set_same ks i (get_or ks j nan) nan li;
      second = get_or-set_same mid j (get_or ks i nan) nan lj;
      other = λ p a b. get_or-set_other mid j p (get_or ks i nan) nan b ∙ get_or-set_other ks i p (get_or ks j nan) nan a;
    }

-- the entry at the root is not below a parent
at-root : (h : Heap) (i : ℕ) → i ≤ 0 → Rising h.count (key_at h) i → Ordered h
at-root h i z r = record { parents = λ j l. r.others j l (λ e. omega arith) }

pub rise_in-orders : (n : ℕ) (h : Heap) (i : ℕ) → i ≤ n → i < h.count → Held NotNan h → Rising h.count (key_at h) i → Ordered (rise_in n h i)
unfolding rise_in swap
rise_in-orders zero h i l k a r = at-root h i l r
rise_in-orders (suc n) h zero l k a r = at-root h zero (omega arith) r
rise_in-orders (suc n) h (suc i) l k a r =
    let p : i / 2 < h.count = omega arith in
    by (less h (i / 2) (suc i)) refl
    (λ e. rise_in-orders n (swap h (suc i) (i / 2)) (i / 2) (omega arith) p (held-swap NotNan h (suc i) (i / 2) k p a)
    (rise-step h.count (key_at h) _ i (a.each (i / 2) p) e (swap-exchanges h (suc i) (i / 2) (λ z. omega arith) (a.each (suc i) k) (a.each (i / 2) p)) r))
  where
    stays : less h (i / 2) (suc i) ≡ false → Ordered h
    stays e = record { parents = λ j m. at j m (ℕ_discrete j i) }
      where
        at : (j : ℕ) → suc j < h.count → Dec (j ≡ i) → AtMost (key_at h (j / 2)) (key_at h (suc j))
        at j m (yes q) = rw q e
        at j m (no q) = r.others j m (λ z. q (omega arith))

    by : (b : Bool) → less h (i / 2) (suc i) ≡ b → (less h (i / 2) (suc i) ≡ true → Ordered (rise_in n (swap h (suc i) (i / 2)) (i / 2))) → Ordered (cond b (rise_in n (swap h (suc i) (i / 2)) (i / 2)) h)
    by true e up = up e
    by false e up = stays e
