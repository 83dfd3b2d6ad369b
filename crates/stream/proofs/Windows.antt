-- A turn on a window of the file is the turn on the whole file (`window-turn`), whatever a program makes of a record, where the window holds the file's rest, or 160 bytes from the record's place on.
-- By the laws of records read from a part of a file: `longer` and `enough` for what follows the window, `shifted-case` for what is before it. Assumes nothing.
use Prim.Native.Nat.{ℕ, ◌+◌, ◌≤◌, ◌^◌, ◌%◌}
use native.Mathlib.Nat.{zero-add}
use mathlib.Core.Path.{◌≡◌, refl, ap, ◌∙◌}
use mathlib.Core.Bool.{Bool, true, false, cond}
use mathlib.Core.List.{List, [], ◌++◌, append-nil}
use mathlib.Core.Logic.{◌⊎◌, ⊎_elim}
use lib.ListN.{length, length-append}
use lib.Dec.{ltb}
use lib.Ieee.{Format}
use Rattle.casefile.specs.declared.records.Case.{Case}
use Rattle.casefile.specs.declared.records.CaseError.{CaseError}
use Rattle.casefile.specs.declared.records.CaseError.TheVariants.{Malformed, Ended}
use Rattle.casefile.specs.declared.numbers.Got.{Got}
use Rattle.casefile.specs.Numbers.{got}
use Rattle.std.specs.Prelude.{Result, Ok, Err}
use Rattle.refusal.specs.declared.NoRoom.{NoRoom}
use Rattle.casefile.specs.Records.{read_case}
use Rattle.casefile.proofs.Streams.{longer, enough}
use Rattle.casefile.proofs.Shifts.{moved, shifted-case}
use Rattle.lines.specs.Text.{place_of}
use Rattle.lines.specs.Lines.{bad_line}
use Rattle.epa_polytope.specs.Stores.{Lists}
use Rattle.epa.specs.Final.{final, answered}
use Rattle.window.specs.declared.Turn.{Turn}
use Rattle.window.specs.Window.{offset_of, line_turn, bad_turn}
use Rattle.stream.specs.Reading.{Told, told, bad_told, Read, read, over, read_by, most_records, read_next, Answering, turn_at, turn_by, turn_with}

-- ---- the same turn, with the next record's place k further on

abbrev pub moved_turn : ℕ → Turn → Turn
moved_turn k (Turn.Line next place) = Turn.Line (k + next) place
moved_turn k (Turn.Stopped place) = Turn.Stopped place
moved_turn k Turn.NoRoom = Turn.NoRoom
moved_turn k Turn.AllRead = Turn.AllRead

abbrev pub moved_told : ℕ → Told → Told
moved_told k x = told (moved_turn k x.turn) x.out

abbrev pub moved_next : ℕ → Result (Got Case) Turn → Result (Got Case) Turn
moved_next k (Ok g) = Ok (got g.value (k + g.next))
moved_next k (Err t) = Err (moved_turn k t)

abbrev pub moved_read : ℕ → Read → Read
moved_read k x = read (moved_next k x.next) x.out

moved-line : (k next : ℕ) (w : Result ℕ NoRoom) → line_turn (k + next) w ≡ moved_turn k (line_turn next w)
moved-line k next (Ok p) = refl
moved-line k next (Err e) = refl

moved-bad : (k : ℕ) (w : Result ℕ NoRoom) → bad_turn w ≡ moved_turn k (bad_turn w)
moved-bad k (Ok p) = refl
moved-bad k (Err e) = refl

-- the turn of what reading came to
moved_at : (w : Answering) (k : ℕ) (x : Result (Got Case) Turn) (o : List ℕ) (l : Lists) → turn_at w (moved_next k x) o l ≡ answered (moved_told k) (turn_at w x o l)
moved_at w k (Ok g) o l =
    let x = w o g.value l in
    ap (λ (t : Turn). final (told t x.answer.bytes) x.lists) (moved-line k g.next x.answer.answer)
moved_at w k (Err t) o l = refl

-- a place of the window, told from the file's start
pub same-offset : (k p : ℕ) → offset_of 0 (k + p) ≡ offset_of k p
same-offset k p = ap (λ (n : ℕ). n % 2 ^ 64) (zero-add (k + p))

module _ (f : Format) (front s behind : List ℕ) (at number : ℕ) (o : List ℕ) (place : ℕ) where
  abbrev k : ℕ
  k = length front

  -- what reading comes to by what was found, of which nothing but `Ended` asks for the length
  abbrev by : Result (Got Case) CaseError → List ℕ → ℕ → Read
  by x bytes base = read_by x bytes base o place

  -- the window holds what decides the record
  abbrev pub Holds : Type 0
  Holds = (at + 160 ≤ length s) ⊎ (behind ≡ [])

  bad-line : (x y : ℕ) → x ≡ y → over (bad_told (place_of o place (bad_line x))) ≡ moved_read k (over (bad_told (place_of o place (bad_line y))))
  bad-line x y e =
      let w = place_of o place (bad_line y) in
      ap (λ (z : ℕ). over (bad_told (place_of o place (bad_line z)))) e ∙ ap (λ (t : Turn). over (told t w.bytes)) (moved-bad k w.answer)

  moved_by : (x : Result (Got Case) CaseError) (bytes : List ℕ) → (x ≡ Err Ended → length bytes ≡ k + length s) → by (moved k x) bytes 0 ≡ moved_read k (by x s k)
  moved_by (Ok g) bytes h = refl
  moved_by (Err (Malformed b)) bytes h = bad-line (offset_of 0 (k + b)) (offset_of k b) (same-offset k b)
  moved_by (Err Ended) bytes h = bad-line (offset_of 0 (length bytes)) (offset_of k (length s)) (ap (offset_of 0) (h refl) ∙ same-offset k (length s))

  -- the record that the window has is the file's
  pub same_case : Holds → read_case f (front ++ (s ++ behind)) (k + at) ≡ moved k (read_case f s at)
  same_case = ⊎_elim
      (λ fits. shifted-case f front (s ++ behind) at ∙ ap (moved k) (longer f s behind at (enough f s at fits)))
      (λ none. shifted-case f front (s ++ behind) at ∙ ap (λ (t : List ℕ). moved k (read_case f t at)) (ap (λ (t : List ℕ). s ++ t) none ∙ append-nil s))

  -- a record that ends with the window does so because the file does
  pub same_end : Holds → read_case f s at ≡ Err Ended → length (front ++ (s ++ behind)) ≡ k + length s
  same_end = ⊎_elim
      (λ fits e. absurd (enough f s at fits e))
      (λ none e. ap (λ (t : List ℕ). length (front ++ t)) (ap (λ (t : List ℕ). s ++ t) none ∙ append-nil s) ∙ length-append front s)

  pick-moved : (t : Bool) (y y' : Read) → y' ≡ moved_read k y → cond t (over (told Turn.AllRead o)) y' ≡ moved_read k (cond t (over (told Turn.AllRead o)) y)
  pick-moved true y y' e = refl
  pick-moved false y y' e = e

  same_next : Holds → read_next f (front ++ (s ++ behind)) (k + at) 0 number o place ≡ moved_read k (read_next f s at k number o place)
  unfolding read_next
  same_next h =
      pick-moved (ltb most_records number) (by (read_case f s at) s k) (by (read_case f (front ++ (s ++ behind)) (k + at)) (front ++ (s ++ behind)) 0)
      (ap (λ (x : Result (Got Case) CaseError). by x (front ++ (s ++ behind)) 0) (same_case h) ∙ moved_by (read_case f s at) (front ++ (s ++ behind)) (same_end h))

  -- what the program does with a window is what it would do with the whole file at hand
  pub window-turn : (w : Answering) (l : Lists) → Holds
      → turn_with w f (front ++ (s ++ behind)) (k + at) 0 number o place l ≡ answered (moved_told k) (turn_with w f s at k number o place l)
  window-turn w l h =
      let x = read_next f s at k number o place in
      ap (λ (t : Read). turn_by w t l) (same_next h) ∙ moved_at w k x.next x.out l
