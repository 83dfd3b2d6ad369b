-- THE FIGURES ARE A FOLD over the outcomes, one record after the other (`one-more-record`). Assumes nothing.
use Rattle.std.proofs.Common.{◌≡◌, ℕ, ◌+◌, List, [], ◌∷◌, ◌++◌, length, ap, ◌∙◌, arith}
use Rattle.lines.specs.declared.line.Outcome.{Outcome}
use Rattle.figures.specs.declared.sums.Figures.{Figures}
use Rattle.figures.specs.Figures.{after_outcome, figures_from, figures_of}

one-more-from : (k : ℕ) (l : List Outcome) (o : Outcome) (g : Figures) → figures_from k (l ++ o ∷ []) g ≡ after_outcome (k + length l) o (figures_from k l g)
one-more-from k [] o g = ap (λ (n : ℕ). after_outcome n o g) (omega arith)
one-more-from k (x ∷ l) o g =
    one-more-from (k + 1) l o (after_outcome k x g) ∙ ap (λ (n : ℕ). after_outcome n o (figures_from (k + 1) l (after_outcome k x g))) (omega arith)

-- what `counted` makes of a campaign's figures is the figures of the campaign with one record more
pub one-more-record : (l : List Outcome) (o : Outcome) → figures_of (l ++ o ∷ []) ≡ after_outcome (1 + length l) o (figures_of l)
one-more-record l o = one-more-from 1 l o _
