-- Which places of a list a writer changes: those from n on are untouched if it writes below n. Places that are used, and given back. Assumes nothing.
use mathlib.Core.Path.{◌≡◌, refl, ◌∙◌}
use mathlib.Core.Bool.{Bool, true, false, cond}
use mathlib.Core.List.{List, [], ◌∷◌}
use Prim.Native.Nat.{ℕ, zero, suc, ◌+◌, ◌*◌, ◌<◌, ◌≤◌, max}
use native.Mathlib.Omega.{arith}
use native.Mathlib.Decide.{ℕ_discrete, dec_le}
use lib.ListN.{length, get_or, set}
use lib.Seq.{get_or-set_other, sets}
use Rattle.epa_polytope.specs.Expansion.{blank}
use Rattle.epa_polytope.specs.Rule.{Untouched, Zeroed, Returned}

module _ {A : Type 0} where
  pub stays : (n : ℕ) (l : List A) → Untouched n l l
  stays n l = record { same = λ i d g. refl }

  -- one writer after another
  pub after : {n m : ℕ} {k l l0 : List A} → n ≤ m → Untouched m k l → Untouched n l l0 → Untouched m k l0
  after h p q = record { same = λ i d g. p.same i d g ∙ q.same i d (omega arith) }

  pub one_set : (l : List A) (i : ℕ) (v : A) (n : ℕ) → i < n → Untouched n (set l i v) l
  one_set l i v n h = record { same = λ j d g. get_or-set_other l i j v d (λ e. omega arith) }

  pub some-sets : (l : List A) (i : ℕ) (vs : List A) (n : ℕ) → i + length vs ≤ n → Untouched n (sets l i vs) l
  some-sets l i [] n h = stays n l
  some-sets l i (v ∷ vs) n h = after (omega arith) (some-sets (set l i v) (suc i) vs n (omega arith)) (one_set l i v n (omega arith))

  pub if-so : (b : Bool) (k l : List A) (n : ℕ) → Untouched n k l → Untouched n (cond b k l) l
  if-so true k l n h = h
  if-so false k l n h = stays n l

  -- what is written is read, or nothing is
  pub reads-set : (l : List A) (i : ℕ) (z : A) → get_or (set l i z) i z ≡ z
  reads-set [] i z = refl
  reads-set (x ∷ l) zero z = refl
  reads-set (x ∷ l) (suc i) z = reads-set l i z

  -- ---- used, and given back

  -- where nothing was used yet
  pub none-used : (z : A) (l : List A) → Returned z 0 0 l l
  none-used z l = record { back = record { zeros = λ i a b. let e : ⊥ = omega arith in absurd e }; never = stays 0 l }

  module _ {z : A} {n m : ℕ} {l l0 : List A} (h : Returned z n m l l0) where
    -- more entries, and no place is written above them
    pub used : (k : List A) (n' : ℕ) → n ≤ n' → Untouched n' k l → Returned z n' (max m n') k l0
    used k n' g u = record {
      back = record { zeros = λ i a b. u.same i z a ∙ h.back.zeros i (omega arith) (omega arith) };
      never = record { same = λ i d a. u.same i d (omega arith) ∙ h.never.same i d (omega arith) };
    }

    -- fewer entries, and those given back are zero
    pub given_back : (k : List A) (n' : ℕ) → n ≤ m → Untouched n k l → Zeroed z n' n k → Returned z n' m k l0
    given_back k n' g u c = record {
      back = record { zeros = λ i a b. by i a b (dec_le n i) };
      never = record { same = λ i d a. u.same i d (omega arith) ∙ h.never.same i d a };
    }
      where
        by : (i : ℕ) → n' ≤ i → i < m → Dec (n ≤ i) → get_or k i z ≡ z
        by i a b (yes e) = u.same i z e ∙ h.back.zeros i e b
        by i a b (no e) = c.zeros i a (omega arith)

-- ---- zeros at the first n pairs of places

blank-above : (n : ℕ) (l : List ℕ) → Untouched (n * 2) (blank n l) l
unfolding blank
blank-above zero l = stays zero l
blank-above (suc n) l =
    let a = one_set (blank n l) (n * 2) 0 (suc n * 2) (omega arith) in
    let b = one_set (set (blank n l) (n * 2) 0) (n * 2 + 1) 0 (suc n * 2) (omega arith) in
    record { same = λ i d g. b.same i d g ∙ a.same i d g ∙ (blank-above n l).same i d (omega arith) }

blank-below : (n : ℕ) (l : List ℕ) → Zeroed 0 0 (n * 2) (blank n l)
unfolding blank
blank-below zero l = record { zeros = λ i a b. let e : ⊥ = omega arith in absurd e }
blank-below (suc n) l = record { zeros = λ i a b. by i b (blank-below n l) (ℕ_discrete i (n * 2 + 1)) (ℕ_discrete i (n * 2)) }
  where
    by : (i : ℕ) → i < suc n * 2 → Zeroed 0 0 (n * 2) (blank n l) → Dec (i ≡ n * 2 + 1) → Dec (i ≡ n * 2) → get_or (set (set (blank n l) (n * 2) 0) (n * 2 + 1) 0) i 0 ≡ 0
    by i b h (yes e) o = rw e (reads-set (set (blank n l) (n * 2) 0) (n * 2 + 1) 0)
    by i b h (no e) (yes o) = get_or-set_other (set (blank n l) (n * 2) 0) (n * 2 + 1) i 0 0 e ∙ rw o (reads-set (blank n l) (n * 2) 0)
    by i b h (no e) (no o) = get_or-set_other (set (blank n l) (n * 2) 0) (n * 2 + 1) i 0 0 e ∙ get_or-set_other (blank n l) (n * 2) i 0 0 o ∙ h.zeros i (omega arith) (lower i n b e o)
      where
        lower : (i n : ℕ) → i < suc n * 2 → (i ≡ n * 2 + 1 → ⊥) → (i ≡ n * 2 → ⊥) → i < n * 2
        lower i n b e o = omega arith

-- where these are all the n entries, each is given back
pub blanked : {n m : ℕ} {l l0 : List ℕ} (c : ℕ) → n ≤ c * 2 → c * 2 ≤ m → Returned 0 n m l l0 → Returned 0 0 m (blank c l) l0
blanked {l = l} c g k h =
    given_back (record { back = record { zeros = λ i a b. h.back.zeros i (omega arith) b }; never = h.never }) _ 0 k (blank-above c l) (blank-below c l)
