-- The figures of a campaign as a fold over the outcomes of its records (document 02, ticket 11). Definitions only.
use Rattle.std.specs.Prelude.{ℕ, ◌+◌, ◌%◌, ◌^◌, Bool, true, cond, List, [], ◌∷◌, ◌==◌, nat_lt}
use Rattle.counts.specs.declared.Counts.{Counts}
use Rattle.lines.specs.declared.line.Outcome.{Outcome}
use Rattle.lines.specs.declared.line.Outcome.TheVariants.{ClosestPoints, Proximity, NoIntersection, Penetration, NoAnswer, Panic, NoPlace}
use Rattle.lines.specs.Lines.{letter_of}
use Rattle.figures.specs.declared.sums.Letters.{Letters}
use Rattle.figures.specs.declared.sums.Figures.{Figures}

-- a sum of u64: it never wraps within a campaign (`sums-fit` of the proofs)
abbrev pub plus : ℕ → ℕ → ℕ
plus a b = (a + b) % 2 ^ 64

-- ---- an outcome

-- of no record
abbrev pub no_figures : Figures
no_figures = record { letters = record { d = 0; m = 0; s = 0; p = 0; n = 0; x = 0; r = 0 }; expansions = 0; counted = 0; greatest = 0; first = 0 }

-- one more where the letter is this one
abbrev pub tallied : ℕ → ℕ → ℕ → ℕ
tallied n letter this = cond (letter == this) (plus n 1) n

-- D M S P N X R
unfoldable pub letters_with : ℕ → Letters → Letters
letters_with k l = record {
  d = tallied l.d k 68;
  m = tallied l.m k 77;
  s = tallied l.s k 83;
  p = tallied l.p k 80;
  n = tallied l.n k 78;
  x = tallied l.x k 88;
  r = tallied l.r k 82;
}

unfoldable pub with_letter : ℕ → Figures → Figures
with_letter k g = record { letters = letters_with k g.letters; expansions = g.expansions; counted = g.counted; greatest = g.greatest; first = g.first }

-- a record that made so many faces is the first with the greatest where none carried counts before it, or all made fewer
abbrev pub beats : ℕ → Figures → Bool
beats made g = cond (g.counted == 0) true (nat_lt g.greatest made)

unfoldable pub with_counts : ℕ → Counts → Figures → Figures
with_counts number c g = record {
  letters = g.letters;
  expansions = plus g.expansions c.expansions;
  counted = plus g.counted 1;
  greatest = cond (beats c.made g) c.made g.greatest;
  first = cond (beats c.made g) number g.first;
}

-- P, N and R carry counts
abbrev pub carrying : ℕ → Outcome → Figures → Figures
carrying number (ClosestPoints a b n) g = g
carrying number (Proximity v) g = g
carrying number (NoIntersection v) g = g
carrying number (Penetration a b n c) g = with_counts number c g
carrying number (NoAnswer c) g = with_counts number c g
carrying number Panic g = g
carrying number (NoPlace c) g = with_counts number c g

-- the record `number`, counted
abbrev pub after_outcome : ℕ → Outcome → Figures → Figures
after_outcome number o g = carrying number o (with_letter (letter_of o) g)

-- ---- all of them, in their order

abbrev pub figures_from : ℕ → List Outcome → Figures → Figures
figures_from number [] g = g
figures_from number (o ∷ l) g = figures_from (number + 1) l (after_outcome number o g)

-- THE FIGURES of a campaign's outcomes, of which the first is record 1
abbrev pub figures_of : List Outcome → Figures
figures_of l = figures_from 1 l no_figures
