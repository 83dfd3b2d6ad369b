-- THE SUMS NEVER WRAP: over at most 4,294,967,295 records with at most 101 expansions each the figures are the sums themselves (`sums-fit`). By one law over any figure that
-- grows by a number of each outcome (`grown`). Assumes nothing.
use Rattle.std.proofs.Common.{◌≡◌, ℕ, ◌+◌, ◌*◌, ◌^◌, ◌<◌, ◌≤◌, Bool, true, false, cond, eqb, List, [], ◌∷◌, length, refl, ap, ◌∙◌, zero-add, arith}
use Rattle.lines.specs.declared.line.Outcome.{Outcome}
use Rattle.lines.specs.declared.line.Outcome.TheVariants.{ClosestPoints, Proximity, NoIntersection, Penetration, NoAnswer, Panic, NoPlace}
use Rattle.lines.specs.Lines.{letter_of}
use Rattle.stream.specs.Reading.{most_records}
use Rattle.figures.specs.declared.sums.Figures.{Figures}
use Rattle.figures.specs.Figures.{plus, tallied, letters_with, with_letter, with_counts, carrying, after_outcome, figures_from, figures_of, no_figures}
use Rattle.figures.specs.Exact.{carries, expansions_of, of_letter, sum_of, Few, Summed}

-- a figure that grows by a number of each outcome, where the sum fits, is the sum
module _ (figure : Figures → ℕ) (of : Outcome → ℕ) (step : (k : ℕ) (o : Outcome) (g : Figures) → figure g + of o < 2 ^ 64 → figure (after_outcome k o g) ≡ figure g + of o) where
  pub grown : (k : ℕ) (l : List Outcome) (g : Figures) → figure g + sum_of of l < 2 ^ 64 → figure (figures_from k l g) ≡ figure g + sum_of of l
  grown k [] g h = omega arith
  grown k (o ∷ l) g h =
      let e = step k o g (omega arith) in
      omega (arith, e, grown (k + 1) l (after_outcome k o g) (omega (arith, e)))

-- ---- the steps

-- what carries counts leaves the letters
kept-letters : (k : ℕ) (o : Outcome) (g : Figures) → (carrying k o g).letters ≡ g.letters
unfolding with_counts
kept-letters k (ClosestPoints a b n) g = refl
kept-letters k (Proximity v) g = refl
kept-letters k (NoIntersection v) g = refl
kept-letters k (Penetration a b n c) g = refl
kept-letters k (NoAnswer c) g = refl
kept-letters k Panic g = refl
kept-letters k (NoPlace c) g = refl

tally : (t : Bool) (n : ℕ) → n + cond t 1 0 < 2 ^ 64 → cond t (plus n 1) n ≡ n + cond t 1 0
tally true n h = omega arith
tally false n h = omega arith

step-expansions : (k : ℕ) (o : Outcome) (g : Figures) → g.expansions + expansions_of o < 2 ^ 64 → (after_outcome k o g).expansions ≡ g.expansions + expansions_of o
unfolding with_counts with_letter
step-expansions k (ClosestPoints a b n) g h = omega arith
step-expansions k (Proximity v) g h = omega arith
step-expansions k (NoIntersection v) g h = omega arith
step-expansions k (Penetration a b n c) g h = omega arith
step-expansions k (NoAnswer c) g h = omega arith
step-expansions k Panic g h = omega arith
step-expansions k (NoPlace c) g h = omega arith

step-counted : (k : ℕ) (o : Outcome) (g : Figures) → g.counted + carries o < 2 ^ 64 → (after_outcome k o g).counted ≡ g.counted + carries o
unfolding with_counts with_letter
step-counted k (ClosestPoints a b n) g h = omega arith
step-counted k (Proximity v) g h = omega arith
step-counted k (NoIntersection v) g h = omega arith
step-counted k (Penetration a b n c) g h = omega arith
step-counted k (NoAnswer c) g h = omega arith
step-counted k Panic g h = omega arith
step-counted k (NoPlace c) g h = omega arith

-- ---- the bounds

small : (o : Outcome) → carries o ≤ 101
small (ClosestPoints a b n) = omega arith
small (Proximity v) = omega arith
small (NoIntersection v) = omega arith
small (Penetration a b n c) = omega arith
small (NoAnswer c) = omega arith
small Panic = omega arith
small (NoPlace c) = omega arith

one : (t : Bool) → cond t 1 0 ≤ 101
one true = omega arith
one false = omega arith

few-sum : (of : Outcome → ℕ) → ((o : Outcome) → of o ≤ 101) → (l : List Outcome) → sum_of of l ≤ 101 * length l
few-sum of h [] = omega arith
few-sum of h (o ∷ l) = omega (arith, h o, few-sum of h l)

-- the sum of expansions is at most 101 a record
pub few-expansions : (l : List Outcome) → Few l → sum_of expansions_of l ≤ 101 * length l
few-expansions [] h = omega arith
few-expansions (o ∷ l) h = omega (arith, h.0, few-expansions l h.1)

-- ---- all of it

letter-step : (pick : Figures → ℕ) (this : ℕ) → ((k : ℕ) (o : Outcome) (g : Figures) → pick (after_outcome k o g) ≡ tallied (pick g) (letter_of o) this)
    → (k : ℕ) (o : Outcome) (g : Figures) → pick g + of_letter this o < 2 ^ 64 → pick (after_outcome k o g) ≡ pick g + of_letter this o
letter-step pick this e k o g h = e k o g ∙ tally (eqb (letter_of o) this) (pick g) h

module _ (l : List Outcome) (all : length l ≤ most_records) where
  letters-fit : (pick : Figures → ℕ) (this : ℕ) → ((k : ℕ) (o : Outcome) (g : Figures) → pick (after_outcome k o g) ≡ tallied (pick g) (letter_of o) this) → pick no_figures ≡ 0
      → pick (figures_of l) ≡ sum_of (of_letter this) l
  letters-fit pick this e z =
      let b = few-sum (of_letter this) (λ o. one (eqb (letter_of o) this)) l in
      omega (arith, z, grown pick (of_letter this) (letter-step pick this e) 1 l no_figures (omega (arith, z, b)))

  pub counted-fits : (figures_of l).counted ≡ sum_of carries l
  counted-fits = grown (λ (g : Figures). g.counted) carries step-counted 1 l no_figures (omega (arith, few-sum carries small l)) ∙ zero-add _

  pub sums-fit : Few l → Summed l (figures_of l)
  unfolding with_letter letters_with
  sums-fit few = record {
    d = letters-fit (λ (g : Figures). g.letters.d) 68 (λ k o g. ap (λ x. x.d) (kept-letters k o (with_letter (letter_of o) g))) refl;
    m = letters-fit (λ (g : Figures). g.letters.m) 77 (λ k o g. ap (λ x. x.m) (kept-letters k o (with_letter (letter_of o) g))) refl;
    s = letters-fit (λ (g : Figures). g.letters.s) 83 (λ k o g. ap (λ x. x.s) (kept-letters k o (with_letter (letter_of o) g))) refl;
    p = letters-fit (λ (g : Figures). g.letters.p) 80 (λ k o g. ap (λ x. x.p) (kept-letters k o (with_letter (letter_of o) g))) refl;
    n = letters-fit (λ (g : Figures). g.letters.n) 78 (λ k o g. ap (λ x. x.n) (kept-letters k o (with_letter (letter_of o) g))) refl;
    x = letters-fit (λ (g : Figures). g.letters.x) 88 (λ k o g. ap (λ x. x.x) (kept-letters k o (with_letter (letter_of o) g))) refl;
    r = letters-fit (λ (g : Figures). g.letters.r) 82 (λ k o g. ap (λ x. x.r) (kept-letters k o (with_letter (letter_of o) g))) refl;
    expansions = grown (λ (g : Figures). g.expansions) expansions_of step-expansions 1 l no_figures (omega (arith, few-expansions l few)) ∙ zero-add _;
    counted = counted-fits;
  }
