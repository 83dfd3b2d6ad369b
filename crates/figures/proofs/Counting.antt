-- The figures that the code makes of an outcome, by what it is (`by-outcome`). Assumes nothing.
use Rattle.std.proofs.Common.{◌≡◌, ℕ, sym, ap, ◌∙◌}
use Rattle.lines.specs.declared.line.Outcome.{Outcome}
use Rattle.lines.specs.Lines.{letter_of}
use Rattle.figures.specs.declared.sums.Figures.{Figures}
use Rattle.figures.specs.Figures.{with_letter, carrying, after_outcome}

pub by-outcome : (number : ℕ) (o : Outcome) (g : Figures) {x : Outcome} → o ≡ x → {h : Figures} {k : ℕ} → h ≡ with_letter k g → k ≡ letter_of o → {r : Figures} → r ≡ carrying number x h
    → r ≡ after_outcome number o g
by-outcome number o g {x} is {h} {k} told letter {r} e =
    e
    ∙ ap (λ (y : Outcome). carrying number y h) (sym is)
    ∙ ap (carrying number o) (told ∙ ap (λ (y : ℕ). with_letter y g) letter)
