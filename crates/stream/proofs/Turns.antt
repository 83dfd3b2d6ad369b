-- What reading comes to: after the last record nothing is read (`all_read`); up to it, by what was found, a whole record (`found-whole`), a malformed number (`malformed`), or the end of the bytes
-- (`cut`). And a turn by it, whatever a program makes of a record: a record (`whole`), or none (`none`). By rewriting with what the callees answered. Assumes nothing.
use mathlib.Core.Path.{◌≡◌, refl, sym, ap, ◌∙◌}
use mathlib.Core.List.{List}
use Prim.Native.Nat.{ℕ, ◌<◌, ◌≤◌}
use lib.ListN.{length}
use lib.Ieee.{Format}
use borrow.Author.Tests.{lt-ltb, le-ltb}
use Rattle.casefile.specs.declared.records.Case.{Case}
use Rattle.casefile.specs.declared.records.CaseError.{CaseError}
use Rattle.casefile.specs.declared.records.CaseError.TheVariants.{Malformed, Ended}
use Rattle.casefile.specs.declared.numbers.Got.{Got}
use Rattle.std.specs.Prelude.{Result, Ok, Err}
use Rattle.refusal.specs.declared.NoRoom.{NoRoom}
use Rattle.casefile.specs.Records.{read_case}
use Rattle.lines.specs.declared.line.Outcome.{Outcome}
use Rattle.lines.specs.Text.{After, after, place_of}
use Rattle.lines.specs.Lines.{line_of, bad_line}
use Rattle.epa_polytope.specs.Stores.{Lists}
use Rattle.epa.specs.Final.{final, answered}
use Rattle.window.specs.declared.Turn.{Turn}
use Rattle.window.specs.Window.{offset_of, line_turn, bad_turn}
use Rattle.stream.specs.Reading.{told, line_told, bad_told, Read, read, over, read_by, most_records, read_next, Answering, turn_at, turn_by, turn_with}
use Rattle.stream.specs.Stream.{case_outcome, line_for}

module _ (f : Format) (s : List ℕ) (at base number : ℕ) (o : List ℕ) (place : ℕ) where
  pub all_read : most_records < number → over (told Turn.AllRead o) ≡ read_next f s at base number o place
  unfolding read_next
  all_read h = rw (lt-ltb most_records number h) refl

  -- up to the last record, reading comes to what is found
  pub up-to-the-last : number ≤ most_records → read_next f s at base number o place ≡ read_by (read_case f s at) s base o place
  unfolding read_next
  up-to-the-last h = rw (le-ltb most_records number h) refl

  module _ (within : number ≤ most_records) {found : Result (Got Case) CaseError} (is-found : found ≡ read_case f s at) where
    by-found : (x : Result (Got Case) CaseError) → found ≡ x → read_by x s base o place ≡ read_next f s at base number o place
    by-found x is = ap (λ (t : Result (Got Case) CaseError). read_by t s base o place) (sym is ∙ is-found) ∙ sym (up-to-the-last within)

    pub found-whole : {g : Got Case} → found ≡ Ok g → read (Ok g) o ≡ read_next f s at base number o place
    found-whole {g} is = by-found (Ok g) is

    -- the line of an offset
    module _ {offset : ℕ} {o1 : List ℕ} {w : Result ℕ NoRoom} (written : after o1 w ≡ place_of o place (bad_line offset)) {r : Turn} (turned : r ≡ bad_turn w) where
      bad : {n : ℕ} → offset ≡ n → over (told r o1) ≡ over (bad_told (place_of o place (bad_line n)))
      bad is = ap over (ap (λ (t : Turn). told t o1) turned ∙ ap bad_told written ∙ ap (λ (t : ℕ). bad_told (place_of o place (bad_line t))) is)

      pub malformed : {b : ℕ} → found ≡ Err (Malformed b) → offset ≡ offset_of base b → over (told r o1) ≡ read_next f s at base number o place
      malformed {b} is at_b = bad at_b ∙ by-found (Err (Malformed b)) is

      pub cut : found ≡ Err Ended → offset ≡ offset_of base (length s) → over (told r o1) ≡ read_next f s at base number o place
      cut is at-end = bad at-end ∙ by-found (Err Ended) is

  -- ---- a turn, by what reading came to

  module _ (w : Answering) (l : Lists) {n : Result (Got Case) Turn} {o1 : List ℕ} (reading : read n o1 ≡ read_next f s at base number o place) where
    by_next : (x : Result (Got Case) Turn) → n ≡ x → turn_at w x o1 l ≡ turn_with w f s at base number o place l
    by_next x is = ap (λ (t : Result (Got Case) Turn). turn_at w t o1 l) (sym is) ∙ ap (λ (t : Read). turn_by w t l) reading

    pub whole : {g : Got Case} → n ≡ Ok g → {x : After} {l1 : Lists} → final x l1 ≡ w o1 g.value l → {r : Turn} → r ≡ line_turn g.next x.answer
        → final (told r x.bytes) l1 ≡ turn_with w f s at base number o place l
    whole {g} is {x} {l1} e turned = ap (λ (t : Turn). final (told t x.bytes) l1) turned ∙ ap (answered (line_told g.next)) e ∙ by_next (Ok g) is

    pub none : {t : Turn} → n ≡ Err t → final (told t o1) l ≡ turn_with w f s at base number o place l
    none {t} is = by_next (Err t) is

-- a record's line, placed or not
pub lined : (f : Format) (number place : ℕ) (o : List ℕ) (c : Case) (l : Lists) {x : Outcome} {l1 : Lists} → final x l1 ≡ case_outcome f c l
    → {o1 : List ℕ} {p : Result ℕ NoRoom} → after o1 p ≡ place_of o place (line_of f number x) → final (after o1 p) l1 ≡ line_for f number place o c l
lined f number place o c l {x} {l1} e written = ap (λ (t : After). final t l1) written ∙ ap (answered (λ (y : Outcome). place_of o place (line_of f number y))) e
