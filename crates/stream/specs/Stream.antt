-- One turn of the program that answers a case file: the record at a place of the window, and the line that goes out for it (document 01, "Case file and vote"). Any format. Definitions only.
use Rattle.std.specs.Prelude.{List, ℕ}
use Rattle.std.specs.Float.{Format}
use Rattle.casefile.specs.declared.records.Case.{Case}
use Rattle.lines.specs.declared.line.Outcome.{Outcome}
use Rattle.lines.specs.Text.{place_of}
use Rattle.lines.specs.Lines.{line_of}
use Rattle.epa_polytope.specs.Stores.{Lists}
use Rattle.epa.specs.Final.{Final, answered}
use Rattle.channel.specs.Channel.{separated}
use Rattle.stream.specs.Reading.{Told, Answering, turn_with}

abbrev pub case_outcome : Format → Case → Lists → Final Outcome
case_outcome f c l = separated f c.pos12 c.g1 c.g2 c.dir c.max_dist c.exact l

-- a record's line
abbrev pub line_for : Format → ℕ → ℕ → Answering
line_for f number place o c l = answered (λ (x : Outcome). place_of o place (line_of f number x)) (case_outcome f c l)

-- the window's bytes, the record's place in them, where the window stands in the file, the record's number, and the output from a place on
unfoldable pub turn_of : Format → List ℕ → ℕ → ℕ → ℕ → List ℕ → ℕ → Lists → Final Told
turn_of f s at base number o place l = turn_with (line_for f number place) f s at base number o place l
