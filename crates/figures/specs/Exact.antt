-- What the figures come to, in whole numbers that do not wrap: in these words the laws speak (document 02, ticket 11). Definitions only.
use Rattle.std.specs.Prelude.{◌≡◌, ℕ, ◌+◌, ◌<◌, ◌≤◌, cond, ◌⊎◌, List, [], ◌∷◌, ◌++◌, length, ◌==◌}
use Rattle.lines.specs.declared.line.Outcome.{Outcome}
use Rattle.lines.specs.declared.line.Outcome.TheVariants.{ClosestPoints, Proximity, NoIntersection, Penetration, NoAnswer, Panic, NoPlace}
use Rattle.lines.specs.Lines.{letter_of}
use Rattle.figures.specs.declared.sums.Figures.{Figures}

-- ---- of an outcome

-- whether it carries counts, as 1 or 0; its expansions, and its faces made
abbrev pub carries : Outcome → ℕ
carries (ClosestPoints a b n) = 0
carries (Proximity v) = 0
carries (NoIntersection v) = 0
carries (Penetration a b n c) = 1
carries (NoAnswer c) = 1
carries Panic = 0
carries (NoPlace c) = 1

abbrev pub expansions_of : Outcome → ℕ
expansions_of (ClosestPoints a b n) = 0
expansions_of (Proximity v) = 0
expansions_of (NoIntersection v) = 0
expansions_of (Penetration a b n c) = c.expansions
expansions_of (NoAnswer c) = c.expansions
expansions_of Panic = 0
expansions_of (NoPlace c) = c.expansions

abbrev pub made_of : Outcome → ℕ
made_of (ClosestPoints a b n) = 0
made_of (Proximity v) = 0
made_of (NoIntersection v) = 0
made_of (Penetration a b n c) = c.made
made_of (NoAnswer c) = c.made
made_of Panic = 0
made_of (NoPlace c) = c.made

-- whether its line has this letter, as 1 or 0
abbrev pub of_letter : ℕ → Outcome → ℕ
of_letter this o = cond (letter_of o == this) 1 0

-- ---- of all of them

abbrev pub sum_of : (Outcome → ℕ) → List Outcome → ℕ
sum_of f [] = 0
sum_of f (o ∷ l) = f o + sum_of f l

-- each has at most 101 expansions, as demand 3 has it
abbrev pub Few : List Outcome → Type 0
Few [] = Unit {0}
Few (o ∷ l) = (expansions_of o ≤ 101) × Few l

-- the sums
pub record Summed (l : List Outcome) (g : Figures) : Type 0 where
  pub d : g.letters.d ≡ sum_of (of_letter 68) l
  pub m : g.letters.m ≡ sum_of (of_letter 77) l
  pub s : g.letters.s ≡ sum_of (of_letter 83) l
  pub p : g.letters.p ≡ sum_of (of_letter 80) l
  pub n : g.letters.n ≡ sum_of (of_letter 78) l
  pub x : g.letters.x ≡ sum_of (of_letter 88) l
  pub r : g.letters.r ≡ sum_of (of_letter 82) l
  pub expansions : g.expansions ≡ sum_of expansions_of l
  pub counted : g.counted ≡ sum_of carries l

-- of those that carry counts each made fewer faces than so many; each made at most so many
abbrev pub Fewer : ℕ → List Outcome → Type 0
Fewer most [] = Unit {0}
Fewer most (o ∷ l) = (carries o ≡ 1 → made_of o < most) × Fewer most l

abbrev pub AtMost : ℕ → List Outcome → Type 0
AtMost most [] = Unit {0}
AtMost most (o ∷ l) = (carries o ≡ 1 → made_of o ≤ most) × AtMost most l

-- the greatest faces made, by the record `had`, the first that had it: those before it made fewer, those after it at most as many
pub record First (l : List Outcome) (greatest first : ℕ) : Type 0 where
  pub before : List Outcome
  pub had : Outcome
  pub behind : List Outcome
  pub parts : l ≡ before ++ had ∷ behind
  pub carried : carries had ≡ 1
  pub made : made_of had ≡ greatest
  pub number : first ≡ 1 + length before
  pub fewer : Fewer greatest before
  pub most : AtMost greatest behind

-- both are zero while none carries counts
abbrev pub GreatestFirst : List Outcome → ℕ → ℕ → Type 0
GreatestFirst l greatest first = ((sum_of carries l ≡ 0) × (greatest ≡ 0) × (first ≡ 0)) ⊎ First l greatest first
