-- How long the lines of a campaign are, and what putting them together needs. Assumes nothing.
use Rattle.std.proofs.Common.{◌≡◌, ℕ, ◌+◌, ◌≤◌, List, length, arith, length-append, append_assoc}
use Rattle.lines.proofs.Lengths.{number-length, bad-length}
use Rattle.figures.specs.declared.sums.Letters.{Letters}
use Rattle.figures.specs.declared.sums.Figures.{Figures}
use Rattle.figures.specs.declared.text.Stop.{Stop}
use Rattle.figures.specs.declared.text.Stop.TheVariants.{File, Bad, TooMany}
use Rattle.figures.specs.Campaign.{number_text, letters_text, figures_text, stop_text, first_line, campaign_text}

pub text-length : (n end : ℕ) → length (number_text n end) ≤ 21
unfolding number_text
text-length n end = simp length-append (omega (arith, number-length n))

pub letters-length : (l : Letters) → length (letters_text l) ≤ 147
unfolding letters_text
letters-length l =
    simp length-append
    (omega (arith, text-length l.d 32, text-length l.m 32, text-length l.s 32, text-length l.p 32, text-length l.n 32, text-length l.x 32, text-length l.r 10))

pub figures-length : (g : Figures) → length (figures_text g) ≤ 231
unfolding figures_text
figures-length g =
    simp length-append
    (omega (arith, letters-length g.letters, text-length g.expansions 10, text-length g.counted 10, text-length g.greatest 32, text-length g.first 10))

pub stop-length : (s : Stop) → length (stop_text s) ≤ 25
unfolding stop_text
stop-length File = omega arith
stop-length (Bad b) = bad-length b
stop-length TooMany = omega arith

pub campaign-length : (g : Figures) (s : Stop) → length (campaign_text g s) ≤ 267
unfolding campaign_text first_line
campaign-length g s = simp length-append (omega (arith, figures-length g, stop-length s))

-- how long the parts are, and that parts are put one after the other
pub ruleset parts = (append_assoc, length-append, number-length, text-length, letters-length, figures-length)
