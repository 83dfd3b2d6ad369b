-- The lines of a campaign, as lists of bytes (document 02, ticket 11). Definitions only.
use Rattle.std.specs.Prelude.{ℕ, List, [], ◌∷◌, ◌++◌}
use Rattle.lines.specs.Text.{decimal_of}
use Rattle.lines.specs.Lines.{bad_line}
use Rattle.figures.specs.declared.sums.Letters.{Letters}
use Rattle.figures.specs.declared.sums.Figures.{Figures}
use Rattle.figures.specs.declared.text.Stop.{Stop}
use Rattle.figures.specs.declared.text.Stop.TheVariants.{File, Bad, TooMany}

-- a number, and a space or the end of the line
unfoldable pub number_text : ℕ → ℕ → List ℕ
number_text n end = decimal_of n ++ end ∷ []

-- records per letter: D M S P N X R
unfoldable pub letters_text : Letters → List ℕ
letters_text l = number_text l.d 32 ++ number_text l.m 32 ++ number_text l.s 32 ++ number_text l.p 32 ++ number_text l.n 32 ++ number_text l.x 32 ++ number_text l.r 10

-- four lines: records per letter, the sum of expansions, the number of records that carry counts, and the greatest faces made with the first record that had it
unfoldable pub figures_text : Figures → List ℕ
figures_text g = letters_text g.letters ++ number_text g.expansions 10 ++ number_text g.counted 10 ++ number_text g.greatest 32 ++ number_text g.first 10

-- the last line: none at the file's end; `bad`, and an offset; or `too many`
unfoldable pub stop_text : Stop → List ℕ
stop_text File = []
stop_text (Bad offset) = bad_line offset
stop_text TooMany = 116 ∷ 111 ∷ 111 ∷ 32 ∷ 109 ∷ 97 ∷ 110 ∷ 121 ∷ 10 ∷ []

-- `campaign 1`
unfoldable pub first_line : List ℕ
first_line = 99 ∷ 97 ∷ 109 ∷ 112 ∷ 97 ∷ 105 ∷ 103 ∷ 110 ∷ 32 ∷ 49 ∷ 10 ∷ []

unfoldable pub campaign_text : Figures → Stop → List ℕ
campaign_text g stop = first_line ++ figures_text g ++ stop_text stop
