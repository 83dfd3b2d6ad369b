-- The next record of a case file that is read through a window, or the turn that comes in its place (document 01, "Case file and vote"); and a turn by what a program makes of a record. Any format.
-- Definitions only.
use Rattle.std.specs.Prelude.{List, ℕ, cond, ltb, Result, Ok, Err}
use Rattle.std.specs.Float.{Format}
use Rattle.casefile.specs.declared.records.Case.{Case}
use Rattle.casefile.specs.declared.records.CaseError.{CaseError}
use Rattle.casefile.specs.declared.numbers.Got.{Got}
use Rattle.casefile.specs.Records.{read_case, case_value}
use Rattle.lines.specs.Text.{After, place_of}
use Rattle.lines.specs.Lines.{bad_line}
use Rattle.epa_polytope.specs.Stores.{Lists}
use Rattle.epa.specs.Final.{Final, final, answered}
use Rattle.window.specs.declared.Turn.{Turn}
use Rattle.window.specs.Window.{offset_of, line_turn, bad_turn}

-- what a turn answers, and the output that it leaves
pub record Told : Type 0 where
  pub turn : Turn
  pub out : List ℕ

abbrev pub told : Turn → List ℕ → Told
told t o = record { turn = t; out = o }

abbrev pub line_told : ℕ → After → Told
line_told next x = told (line_turn next x.answer) x.bytes

abbrev pub bad_told : After → Told
bad_told x = told (bad_turn x.answer) x.bytes

-- ---- the next record

-- what reading comes to, and the output that it leaves
pub record Read : Type 0 where
  pub next : Result (Got Case) Turn
  pub out : List ℕ

abbrev pub read : Result (Got Case) Turn → List ℕ → Read
read n o = record { next = n; out = o }

abbrev pub over : Told → Read
over x = read (Err x.turn) x.out

-- a record, with the output as it is; in its place, of refusal 4, the offset of a malformed number, or of the window's end where it ends inside the record
abbrev pub read_by : Result (Got Case) CaseError → List ℕ → ℕ → List ℕ → ℕ → Read
read_by (Ok g) s base o place = read (Ok g) o
read_by (Err e) s base o place = over (bad_told (place_of o place (bad_line (offset_of base (case_value s (Err e))))))

-- after so many records a run stops as at the file's end
abbrev pub most_records : ℕ
most_records = 4_294_967_295

-- the window's bytes, the record's place in them, where the window stands in the file, the record's number, and the output from a place on
unfoldable pub read_next : Format → List ℕ → ℕ → ℕ → ℕ → List ℕ → ℕ → Read
read_next f s at base number o place = cond (ltb most_records number) (over (told Turn.AllRead o)) (read_by (read_case f s at) s base o place)

-- ---- a turn

-- what a program makes of a record, with the output as it is, over lent lists: the text of the record in the output, or no room for it
abbrev pub Answering : Type 0
Answering = List ℕ → Case → Lists → Final After

abbrev pub turn_at : Answering → Result (Got Case) Turn → List ℕ → Lists → Final Told
turn_at w (Ok g) o l = answered (line_told g.next) (w o g.value l)
turn_at w (Err t) o l = final (told t o) l

abbrev pub turn_by : Answering → Read → Lists → Final Told
turn_by w x l = turn_at w x.next x.out l

abbrev pub turn_with : Answering → Format → List ℕ → ℕ → ℕ → ℕ → List ℕ → ℕ → Lists → Final Told
turn_with w f s at base number o place l = turn_by w (read_next f s at base number o place) l
