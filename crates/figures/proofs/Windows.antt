-- A turn on a window of the file is the turn on the whole file (`window-reckoned`), where the window holds the file's rest, or 160 bytes from the record's place on. By the laws of
-- `stream`: the window's record is the file's. Assumes nothing.
use Rattle.std.proofs.Common.{◌≡◌, ℕ, ◌+◌, Bool, true, false, cond, ltb, leb, List, [], ◌++◌, length, refl, ap, ◌∙◌, ⊎_elim, arith, length-append, le-leb, leb-false, leb-true}
use lib.Ieee.{Format}
use borrow.Author.Tests.{lt-leb}
use Rattle.casefile.specs.declared.records.Case.{Case}
use Rattle.casefile.specs.declared.records.CaseError.{CaseError}
use Rattle.casefile.specs.declared.records.CaseError.TheVariants as Case_error
use Rattle.casefile.specs.declared.numbers.Got.{Got}
use Rattle.std.specs.Prelude.{Result, Ok, Err}
use Rattle.casefile.specs.Records.{read_case}
use Rattle.casefile.proofs.Shifts.{moved}
use Rattle.epa_polytope.specs.Stores.{Lists}
use Rattle.epa.specs.Final.{Final, final, answered}
use Rattle.window.specs.Window.{offset_of}
use Rattle.stream.specs.Reading.{most_records}
use Rattle.stream.proofs.Windows.{Holds, same_case, same_end, same-offset}
use Rattle.figures.specs.declared.sums.Figures.{Figures}
use Rattle.figures.specs.declared.text.Stop.{Stop}
use Rattle.figures.specs.declared.text.Stop.TheVariants.{File, Bad, TooMany}
use Rattle.figures.specs.declared.turn.Counted.{Counted}
use Rattle.figures.specs.Reckoning.{counted, reckon_by, reckon_of}

-- the same turn, with the next record's place k further on
abbrev pub moved_reckoned : ℕ → Result Counted Stop → Result Counted Stop
moved_reckoned k (Ok c) = counted (k + c.next) c.figures
moved_reckoned k (Err e) = Err e

module _ (f : Format) (front s behind : List ℕ) (at number : ℕ) (g : Figures) (l : Lists) where
  abbrev k : ℕ
  k = length front

  abbrev whole : List ℕ
  whole = front ++ (s ++ behind)

  -- the window holds what decides the record, as for `stream`
  abbrev pub Held : Type 0
  Held = Holds f front s behind at number [] 0

  by-case : (x : Result (Got Case) CaseError) (bytes : List ℕ) → (x ≡ Err Case_error.Ended → length bytes ≡ k + length s)
      → reckon_by f (moved k x) bytes 0 number g l ≡ answered (moved_reckoned k) (reckon_by f x s k number g l)
  by-case (Ok r) bytes h = refl
  by-case (Err (Case_error.Malformed b)) bytes h = ap (λ (n : ℕ). final (Err (Bad n)) l) (same-offset k b)
  by-case (Err Case_error.Ended) bytes h = ap (λ (n : ℕ). final (Err (Bad n)) l) (ap (offset_of 0) (h refl) ∙ same-offset k (length s))

  -- the bytes end at the record's place in the window where they do in the file
  whole_length : length whole ≡ k + (length s + length behind)
  whole_length = length-append front (s ++ behind) ∙ ap (λ (n : ℕ). k + n) (length-append s behind)

  ends_at : (t : Bool) → leb (length s) at ≡ t → Held → leb (length whole) (k + at) ≡ t
  ends_at true e h =
      le-leb (length whole) (k + at)
      (⊎_elim (λ fits. omega (arith, leb-true (length s) at e)) (λ none. omega (arith, leb-true (length s) at e, whole_length, ap length none)) h)
  ends_at false e h = lt-leb (length whole) (k + at) (omega (arith, leb-false (length s) at e, whole_length))

  pick : (t : Bool) (a b a' b' : Final (Result Counted Stop)) → a' ≡ answered (moved_reckoned k) a → b' ≡ answered (moved_reckoned k) b → cond t a' b' ≡ answered (moved_reckoned k) (cond t a b)
  pick true a b a' b' p q = p
  pick false a b a' b' p q = q

  pub window-reckoned : Held → reckon_of f whole (k + at) 0 number g l ≡ answered (moved_reckoned k) (reckon_of f s at k number g l)
  unfolding reckon_of
  window-reckoned h =
      let one = by-case (read_case f s at) whole (same_end f front s behind at number [] 0 h) in
      let read = ap (λ (x : Result (Got Case) CaseError). reckon_by f x whole 0 number g l) (same_case f front s behind at number [] 0 h) ∙ one in
      let few = pick (ltb most_records number) (final (Err TooMany) l) _ (final (Err TooMany) l) _ refl read in
      ap (λ (t : Bool). cond t (final (Err File) l) (cond (ltb most_records number) (final (Err TooMany) l) (reckon_by f (read_case f whole (k + at)) whole 0 number g l))) (ends_at (leb (length s) at) refl h)
      ∙ pick (leb (length s) at) (final (Err File) l) _ (final (Err File) l) _ refl few
