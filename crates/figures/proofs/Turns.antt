-- A turn's answer and stores: at the end of the bytes (`at-the-end`); after the last record that is read, where a byte more gives refusal 8 (`too_many`), and nothing else does (`only-8`); up to it, by what reading
-- the record found. Assumes nothing.
use Rattle.std.proofs.Common.{◌≡◌, ℕ, ◌<◌, ◌≤◌, Bool, true, false, cond, ltb, leb, List, length, sym, refl, ap, ◌∙◌, arith, ltb-true, le-ltb, lt-ltb, le-leb, leb-false}
use lib.Ieee.{Format}
use borrow.Author.Tests.{lt-leb}
use Rattle.casefile.specs.declared.records.Case.{Case}
use Rattle.casefile.specs.declared.records.CaseError.{CaseError}
use Rattle.casefile.specs.declared.records.CaseError.TheVariants as Case_error
use Rattle.casefile.specs.declared.numbers.Got.{Got}
use Rattle.std.specs.Prelude.{Result, Ok, Err}
use Rattle.casefile.specs.Records.{read_case}
use Rattle.lines.specs.declared.line.Outcome.{Outcome}
use Rattle.epa_polytope.specs.Stores.{Lists}
use Rattle.epa.specs.Final.{final, answered}
use Rattle.window.specs.Window.{offset_of}
use Rattle.stream.specs.Reading.{most_records}
use Rattle.stream.specs.Stream.{case_outcome}
use Rattle.figures.specs.declared.sums.Figures.{Figures}
use Rattle.figures.specs.declared.text.Stop.TheVariants.{File, Bad, TooMany}
use Rattle.figures.specs.Figures.{after_outcome}
use Rattle.figures.specs.Reckoning.{counted, reckon_by, reckon_of, reckoned_number}

module _ (f : Format) (s : List ℕ) (at base number : ℕ) (g : Figures) (l : Lists) where
  -- THE FILE'S END IS NO REFUSAL, whatever the number
  pub at-the-end : length s ≤ at → final (Err File) l ≡ reckon_of f s at base number g l
  unfolding reckon_of
  at-the-end h = rw (le-leb (length s) at h)

  -- A BYTE AFTER THE LAST RECORD gives refusal 8, whatever it is, and nothing is read of it
  pub too_many : at < length s → most_records < number → final (Err TooMany) l ≡ reckon_of f s at base number g l
  unfolding reckon_of
  too_many h m = rw (lt-leb (length s) at h, lt-ltb most_records number m)

  -- up to the last record, the last one too, a turn is what reading finds
  pub up-to-the-last : at < length s → number ≤ most_records → reckon_of f s at base number g l ≡ reckon_by f (read_case f s at) s base number g l
  unfolding reckon_of
  up-to-the-last h m = rw (lt-leb (length s) at h, le-ltb most_records number m)

  -- REFUSAL 8 is given in no other case
  not-8 : (x : Result (Got Case) CaseError) → reckoned_number (reckon_by f x s base number g l).answer ≡ 8 → ⊥
  not-8 (Ok r) e = omega arith
  not-8 (Err d) e = omega arith

  by_tests : (t u : Bool) → leb (length s) at ≡ t → ltb most_records number ≡ u
      → reckoned_number (cond t (final (Err File) l) (cond u (final (Err TooMany) l) (reckon_by f (read_case f s at) s base number g l))).answer ≡ 8 → (at < length s) × (most_records < number)
  by_tests true u p q e = absurd (omega arith)
  by_tests false true p q e = (leb-false (length s) at p, ltb-true most_records number q)
  by_tests false false p q e = absurd (not-8 (read_case f s at) e)

  pub only-8 : reckoned_number (reckon_of f s at base number g l).answer ≡ 8 → (at < length s) × (most_records < number)
  unfolding reckon_of
  only-8 = by_tests (leb (length s) at) (ltb most_records number) refl refl

  module _ (some : at < length s) (within : number ≤ most_records) {found : Result (Got Case) CaseError} (read : found ≡ read_case f s at) where
    by-found : (x : Result (Got Case) CaseError) → found ≡ x → reckon_by f x s base number g l ≡ reckon_of f s at base number g l
    by-found x is = ap (λ (t : Result (Got Case) CaseError). reckon_by f t s base number g l) (sym is ∙ read) ∙ sym (up-to-the-last some within)

    pub whole : {r : Got Case} → found ≡ Ok r → {l1 : Lists} {x : Outcome} → final x l1 ≡ case_outcome f r.value l
        → {h : Figures} → h ≡ after_outcome number x g → final (counted r.next h) l1 ≡ reckon_of f s at base number g l
    whole {r} is {l1} {x} e {h} told =
        ap (λ (t : Figures). final (counted r.next t) l1) told
        ∙ ap (answered (λ (y : Outcome). counted r.next (after_outcome number y g))) e
        ∙ by-found (Ok r) is

    pub malformed : {b : ℕ} → found ≡ Err (Case_error.Malformed b) → {offset : ℕ} → offset ≡ offset_of base b → final (Err (Bad offset)) l ≡ reckon_of f s at base number g l
    malformed {b} is {offset} at_b = ap (λ (t : ℕ). final (Err (Bad t)) l) at_b ∙ by-found (Err (Case_error.Malformed b)) is

    pub cut : found ≡ Err Case_error.Ended → {offset : ℕ} → offset ≡ offset_of base (length s) → final (Err (Bad offset)) l ≡ reckon_of f s at base number g l
    cut is {offset} at-end = ap (λ (t : ℕ). final (Err (Bad t)) l) at-end ∙ by-found (Err Case_error.Ended) is
