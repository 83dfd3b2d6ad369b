-- THE GREATEST FACES MADE, with the first record that had it: both are zero exactly while no record carries counts; else that record made so many, those before it that carry counts made
-- fewer, and those after it at most as many (`greatest-first`). By one record after the other. Assumes nothing.
use Rattle.std.proofs.Common.{◌≡◌, ℕ, ◌+◌, ◌<◌, ◌≤◌, Bool, true, false, cond, ltb, List, [], ◌∷◌, ◌++◌, length, sym, refl, ap, ◌∙◌, subst, inl, inr, ⊎_elim, append_assoc, append-nil, arith, length-append, ltb-false, ltb-true, eq-eqb, ne_eqb}
use Rattle.lines.specs.declared.line.Outcome.{Outcome}
use Rattle.lines.specs.declared.line.Outcome.TheVariants.{ClosestPoints, Proximity, NoIntersection, Penetration, NoAnswer, Panic, NoPlace}
use Rattle.stream.specs.Reading.{most_records}
use Rattle.figures.specs.declared.sums.Figures.{Figures}
use Rattle.figures.specs.Figures.{beats, with_letter, with_counts, after_outcome, figures_of}
use Rattle.figures.specs.Exact.{carries, made_of, sum_of, Fewer, AtMost, First, GreatestFirst}
use Rattle.figures.proofs.Folds.{one-more-record}
use Rattle.figures.proofs.Fitting.{counted-fits}

-- ---- lists, one after the other

either : (t : Bool) → t ≡ true → t ≡ false → ⊥
either t p q = let z : ◌≡◌ {A = ℕ} 0 1 = cc in omega arith

sum-append : (a b : List Outcome) → sum_of carries (a ++ b) ≡ sum_of carries a + sum_of carries b
sum-append [] b = omega arith
sum-append (o ∷ a) b = omega (arith, sum-append a b)

fewer-append : (m : ℕ) (a b : List Outcome) → Fewer m a → Fewer m b → Fewer m (a ++ b)
fewer-append m [] b h k = k
fewer-append m (o ∷ a) b h k = (h.0, fewer-append m a b h.1 k)

most-append : (m : ℕ) (a b : List Outcome) → AtMost m a → AtMost m b → AtMost m (a ++ b)
most-append m [] b h k = k
most-append m (o ∷ a) b h k = (h.0, most-append m a b h.1 k)

weaker : (m n : ℕ) (a : List Outcome) → m ≤ n → Fewer m a → Fewer n a
weaker m n [] e h = tt
weaker m n (o ∷ a) e h = (λ c. omega (arith, h.0 c), weaker m n a e h.1)

below : (m n : ℕ) (a : List Outcome) → m < n → AtMost m a → Fewer n a
below m n [] e h = tt
below m n (o ∷ a) e h = (λ c. omega (arith, h.0 c), below m n a e h.1)

none-carry : (m : ℕ) (a : List Outcome) → sum_of carries a ≡ 0 → Fewer m a
none-carry m [] e = tt
none-carry m (o ∷ a) e = (λ c. absurd (omega arith), none-carry m a (omega arith))

-- ---- a record more

-- that made no more than the first with the greatest, or carries no counts
later : (l : List Outcome) (o : Outcome) (greatest first : ℕ) → (carries o ≡ 1 → made_of o ≤ greatest) → First l greatest first → First (l ++ o ∷ []) greatest first
later l o greatest first k h = record {
  before = h.before;
  had = h.had;
  behind = h.behind ++ o ∷ [];
  parts = ap (λ (x : List Outcome). x ++ o ∷ []) h.parts ∙ append_assoc h.before (h.had ∷ h.behind) (o ∷ []);
  carried = h.carried;
  made = h.made;
  number = h.number;
  fewer = h.fewer;
  most = most-append greatest h.behind (o ∷ []) h.most (k, tt);
}

-- that made more than all before it
newest : (l : List Outcome) (o : Outcome) → carries o ≡ 1 → Fewer (made_of o) l → First (l ++ o ∷ []) (made_of o) (1 + length l)
newest l o c h = record { before = l; had = o; behind = []; parts = refl; carried = c; made = refl; number = refl; fewer = h; most = tt }

all-fewer : (l : List Outcome) (greatest first m : ℕ) → greatest < m → First l greatest first → Fewer m l
all-fewer l greatest first m e h =
    subst (Fewer m) (sym h.parts)
    (fewer-append m h.before (h.had ∷ h.behind) (weaker greatest m h.before (omega arith) h.fewer) ((λ c. omega (arith, h.made)), below greatest m h.behind e h.most))

some-carry : (l : List Outcome) (greatest first : ℕ) → First l greatest first → 0 < sum_of carries l
some-carry l greatest first h = omega (arith, ap (sum_of carries) h.parts, sum-append h.before (h.had ∷ h.behind), h.carried)

-- ---- what the code asks

none_before : (made : ℕ) (g : Figures) → g.counted ≡ 0 → beats made g ≡ true
none_before made g z = rw (eq-eqb g.counted 0 z)

some-before : (made : ℕ) (g : Figures) → 0 < g.counted → beats made g ≡ ltb g.greatest made
some-before made g h = rw (ne_eqb g.counted 0 (λ z. omega arith))

-- a record that carries no counts
idle : (l : List Outcome) (o : Outcome) (greatest first : ℕ) → carries o ≡ 0 → GreatestFirst l greatest first → GreatestFirst (l ++ o ∷ []) greatest first
idle l o greatest first z = ⊎_elim
    (λ h. inl (omega (arith, sum-append l (o ∷ []), h.0), h.1, h.2))
    (λ h. inr (later l o greatest first (λ c. absurd (omega arith)) h))

-- and one that does
module _ (l : List Outcome) (o : Outcome) (g : Figures) (c : carries o ≡ 1) (same : g.counted ≡ sum_of carries l) where
  none_yet : (t : Bool) → beats (made_of o) g ≡ t → sum_of carries l ≡ 0 → GreatestFirst (l ++ o ∷ []) (cond t (made_of o) g.greatest) (cond t (1 + length l) g.first)
  none_yet true e z = inr (newest l o c (none-carry (made_of o) l z))
  none_yet false e z = absurd (either (beats (made_of o) g) (none_before (made_of o) g (same ∙ z)) e)

  some-yet : (t : Bool) → beats (made_of o) g ≡ t → First l g.greatest g.first → GreatestFirst (l ++ o ∷ []) (cond t (made_of o) g.greatest) (cond t (1 + length l) g.first)
  some-yet true e h =
      let some : 0 < g.counted = omega (arith, same, some-carry l g.greatest g.first h) in
      let more = ltb-true g.greatest (made_of o) (sym (some-before (made_of o) g some) ∙ e) in
      inr (newest l o c (all-fewer l g.greatest g.first (made_of o) more h))
  some-yet false e h =
      let some : 0 < g.counted = omega (arith, same, some-carry l g.greatest g.first h) in
      let most = ltb-false g.greatest (made_of o) (sym (some-before (made_of o) g some) ∙ e) in
      inr (later l o g.greatest g.first (λ _. most) h)

  carried_on : GreatestFirst l g.greatest g.first
      → GreatestFirst (l ++ o ∷ []) (cond (beats (made_of o) g) (made_of o) g.greatest) (cond (beats (made_of o) g) (1 + length l) g.first)
  carried_on = ⊎_elim (λ h. none_yet (beats (made_of o) g) refl h.0) (λ h. some-yet (beats (made_of o) g) refl h)

one-record : (l : List Outcome) (o : Outcome) (g : Figures) → g.counted ≡ sum_of carries l → GreatestFirst l g.greatest g.first
    → GreatestFirst (l ++ o ∷ []) (after_outcome (1 + length l) o g).greatest (after_outcome (1 + length l) o g).first
unfolding with_counts with_letter
one-record l (ClosestPoints a b n) g s h = idle l (ClosestPoints a b n) g.greatest g.first refl h
one-record l (Proximity v) g s h = idle l (Proximity v) g.greatest g.first refl h
one-record l (NoIntersection v) g s h = idle l (NoIntersection v) g.greatest g.first refl h
one-record l (Penetration a b n c) g s h = carried_on l (Penetration a b n c) g refl s h
one-record l (NoAnswer c) g s h = carried_on l (NoAnswer c) g refl s h
one-record l Panic g s h = idle l Panic g.greatest g.first refl h
one-record l (NoPlace c) g s h = carried_on l (NoPlace c) g refl s h

-- ---- all of them

abbrev Holds : List Outcome → Type 0
Holds l = GreatestFirst l (figures_of l).greatest (figures_of l).first

from-there : (p l : List Outcome) → length p + length l ≤ most_records → Holds p → Holds (p ++ l)
from-there p [] few h = subst Holds (sym (append-nil p)) h
from-there p (o ∷ l) few h =
    let one = one-record p o (figures_of p) (counted-fits p (omega arith)) h in
    let next = subst (λ (g : Figures). GreatestFirst (p ++ o ∷ []) g.greatest g.first) (sym (one-more-record p o)) one in
    subst Holds (append_assoc p (o ∷ []) l) (from-there (p ++ o ∷ []) l (omega (arith, length-append p (o ∷ []))) next)

pub greatest-first : (l : List Outcome) → length l ≤ most_records → GreatestFirst l (figures_of l).greatest (figures_of l).first
greatest-first l few = from-there [] l (omega arith) (inl (refl, refl, refl))
