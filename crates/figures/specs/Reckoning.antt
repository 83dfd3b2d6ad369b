-- One turn of a program that counts the records of a case file, which it reads through a window (document 02, ticket 11). Any format. Definitions only.
use Rattle.std.specs.Prelude.{ℕ, cond, List, length, nat_le, nat_lt, Result, Ok, Err}
use Rattle.std.specs.Float.{Format}
use Rattle.casefile.specs.declared.records.Case.{Case}
use Rattle.casefile.specs.declared.records.CaseError.{CaseError}
use Rattle.casefile.specs.declared.numbers.Got.{Got}
use Rattle.casefile.specs.Records.{read_case, case_value}
use Rattle.lines.specs.declared.line.Outcome.{Outcome}
use Rattle.epa_polytope.specs.Stores.{Lists}
use Rattle.epa.specs.Final.{Final, final, answered}
use Rattle.window.specs.Window.{offset_of}
use Rattle.stream.specs.Reading.{most_records}
use Rattle.stream.specs.Stream.{case_outcome}
use Rattle.figures.specs.declared.sums.Figures.{Figures}
use Rattle.figures.specs.declared.text.Stop.{Stop}
use Rattle.figures.specs.declared.text.Stop.TheVariants.{File, Bad, TooMany}
use Rattle.figures.specs.declared.turn.Counted.{Counted}
use Rattle.figures.specs.Figures.{no_figures, after_outcome}

-- a record was counted: the place after it, and the figures with it
abbrev pub counted : ℕ → Figures → Result Counted Stop
counted next g = Ok (record { next = next; figures = g })

-- a record's outcome, counted; or of refusal 4 the offset of a malformed number, or of the window's end where it ends inside the record
abbrev pub reckon_by : Format → Result (Got Case) CaseError → List ℕ → ℕ → ℕ → Figures → Lists → Final (Result Counted Stop)
reckon_by f (Ok r) s base number g l = answered (λ (x : Outcome). counted r.next (after_outcome number x g)) (case_outcome f r.value l)
reckon_by f (Err e) s base number g l = final (Err (Bad (offset_of base (case_value s (Err e))))) l

-- the window's bytes, the record's place in them, where the window stands in the file, the record's number and the figures before it. After the last record that
-- is read a byte more gives refusal 8
unfoldable pub reckon_of : Format → List ℕ → ℕ → ℕ → ℕ → Figures → Lists → Final (Result Counted Stop)
reckon_of f s at base number g l =
    cond (nat_le (length s) at) (final (Err File) l) (cond (nat_lt most_records number) (final (Err TooMany) l) (reckon_by f (read_case f s at) s base number g l))

-- ---- document 02's number of a turn, 0 for a record counted and for the file's end, 4 and 8 for the refusals; and its values: of a record counted the place after it and the
-- figures with it, of refusal 4 the offset, otherwise zeros and the figures of no record. The figures before a turn stay the caller's
abbrev pub reckoned_number : Result Counted Stop → ℕ
reckoned_number (Ok c) = 0
reckoned_number (Err File) = 0
reckoned_number (Err (Bad b)) = 4
reckoned_number (Err TooMany) = 8

pub record Values : Type 0 where
  pub next : ℕ
  pub figures : Figures
  pub offset : ℕ

unfoldable pub reckoned_values : Result Counted Stop → Values
reckoned_values (Ok c) = record { next = c.next; figures = c.figures; offset = 0 }
reckoned_values (Err File) = record { next = 0; figures = no_figures; offset = 0 }
reckoned_values (Err (Bad b)) = record { next = 0; figures = no_figures; offset = b }
reckoned_values (Err TooMany) = record { next = 0; figures = no_figures; offset = 0 }
