-- Which answer is given when, of any lists of whole numbers and any direction: refusals 9, 10 and 11 and acceptance, each exactly when the ticket says (`refused-9`, `refused-10`, `refused-11`, `accepted-exactly`); the zero direction is never accepted (`zero-declined`). Assumes nothing.
use Prim.Native.Nat.{ℕ, ◌/◌, ◌%◌, ◌≤◌}
use mathlib.Core.Path.{◌≡◌, refl, sym, ap, ◌∙◌}
use mathlib.Core.Bool.{Bool, true, false, cond, ◌&&◌, false≢true}
use mathlib.Core.List.{List, [], ◌∷◌, Memᴰ}
use mathlib.Core.Logic.{◌⊎◌, inl, inr, ◌↔◌}
use native.Mathlib.Omega.{arith}
use borrow.Author.Tests.{leb-true, le-leb, eqb-true, eqb-false, eq-eqb}
use lib.Dec.{leb, eqb}
use lib.IntN.{ℤ, pos, nat_abs, zero-*ℤ}
use lib.ListN.{length}
use lib.Signed.{lt_z, lt_z_yes, lt_z_no, ≤ℤ_refl}
use Rattle.certificate.specs.declared.GridVector.{GridVector}
use Rattle.std.specs.Prelude.{Result, Ok, Err}
use Rattle.certificate.specs.declared.Declined.{Declined}
use Rattle.certificate.specs.declared.Declined.TheVariants.{BadLength, OutOfRange, NotSeparated}
use Rattle.certificate.specs.Certificate.{every, is_hull, on_grid, vector_on_grid, corners, product, above, separated, certify, certificate_number}
use Rattle.certificate.specs.Exactly.{CornersIn, Lengths, InRange, Ranges, Apart, Meeting}
use Rattle.certificate.proofs.Tests.{split, join, known, each, every_of, some-fails, not-every, T_of, of_T, T-not-of}
use Rattle.certificate.proofs.Order.{not-less}

-- a hull has a corner
pub has-corner : (n : ℕ) → is_hull n ≡ true → 3 ≤ n
unfolding is_hull
has-corner n h = omega (arith, leb-true 1 (n / 3) (split (eqb (n % 3) 0) (leb 1 (n / 3)) (split (eqb (n % 3) 0 && leb 1 (n / 3)) (leb (n / 3) 64) h).0).1)

-- ---- the four ways through the tests
module _ (first second : List ℤ) (d : GridVector) where
  pub bad-length : is_hull (length first) && is_hull (length second) ≡ false → certify first second d ≡ Err BadLength
  unfolding certify
  bad-length h = rw h

  pub out_of_range : is_hull (length first) && is_hull (length second) ≡ true → every on_grid first && every on_grid second && vector_on_grid d ≡ false → certify first second d ≡ Err OutOfRange
  unfolding certify
  out_of_range h k = rw (h, k)

  pub accepted : is_hull (length first) && is_hull (length second) ≡ true → every on_grid first && every on_grid second && vector_on_grid d ≡ true → separated d (corners first) (corners second) ≡ true → certify first second d ≡ Ok tt
  unfolding certify
  accepted h k s = rw (h, k, s)

  pub not-separated : is_hull (length first) && is_hull (length second) ≡ true → every on_grid first && every on_grid second && vector_on_grid d ≡ true → separated d (corners first) (corners second) ≡ false → certify first second d ≡ Err NotSeparated
  unfolding certify
  not-separated h k s = rw (h, k, s)

-- ---- and no other
abbrev chosen : Bool → Bool → Bool → Result (Unit {0}) Declined
chosen lengths ranges apart = cond lengths (cond ranges (cond apart (Ok tt) (Err NotSeparated)) (Err OutOfRange)) (Err BadLength)

record Tests (lengths ranges apart : Bool) : Type 0 where
  bad-length-only : certificate_number (chosen lengths ranges apart) ≡ 9 → lengths ≡ false
  out-of-range-only : certificate_number (chosen lengths ranges apart) ≡ 10 → (lengths ≡ true) × (ranges ≡ false)
  not-separated-only : certificate_number (chosen lengths ranges apart) ≡ 11 → (lengths ≡ true) × (ranges ≡ true) × (apart ≡ false)
  accepted-only-then : chosen lengths ranges apart ≡ Ok tt → (lengths ≡ true) × (ranges ≡ true) × (apart ≡ true)

no : (m n : ℕ) → m ≡ n → eqb m n ≡ false → ⊥
no m n e h = eqb-false m n h e

tests : (lengths ranges apart : Bool) → Tests lengths ranges apart
unfolding certificate_number
tests true true true = record {
  bad-length-only = λ e. absurd (no 0 9 e refl);
  out-of-range-only = λ e. absurd (no 0 10 e refl);
  not-separated-only = λ e. absurd (no 0 11 e refl);
  accepted-only-then = λ e. (refl, refl, refl);
}
tests true true false = record {
  bad-length-only = λ e. absurd (no 11 9 e refl);
  out-of-range-only = λ e. absurd (no 11 10 e refl);
  not-separated-only = λ e. (refl, refl, refl);
  accepted-only-then = λ e. absurd (no 11 0 (ap certificate_number e) refl);
}
tests true false apart = record {
  bad-length-only = λ e. absurd (no 10 9 e refl);
  out-of-range-only = λ e. (refl, refl);
  not-separated-only = λ e. absurd (no 10 11 e refl);
  accepted-only-then = λ e. absurd (no 10 0 (ap certificate_number e) refl);
}
tests false ranges apart = record {
  bad-length-only = λ e. refl;
  out-of-range-only = λ e. absurd (no 9 10 e refl);
  not-separated-only = λ e. absurd (no 9 11 e refl);
  accepted-only-then = λ e. absurd (no 9 0 (ap certificate_number e) refl);
}

-- the number 0 is acceptance
pub accepted-number : (c : Result (Unit {0}) Declined) → certificate_number c ≡ 0 → c ≡ Ok tt
unfolding certificate_number
accepted-number (Ok tt) e = refl
accepted-number (Err BadLength) e = absurd (no 9 0 e refl)
accepted-number (Err OutOfRange) e = absurd (no 10 0 e refl)
accepted-number (Err NotSeparated) e = absurd (no 11 0 e refl)

-- ---- the tests in words
corners-in : (n : ℕ) → is_hull n ≡ true → CornersIn n
unfolding is_hull
corners-in n h =
    let outer = split (eqb (n % 3) 0 && leb 1 (n / 3)) (leb (n / 3) 64) h in
    let inner = split (eqb (n % 3) 0) (leb 1 (n / 3)) outer.0 in
    let whole : n % 3 ≡ 0 = eqb-true (n % 3) 0 inner.0 in
    record { count = n / 3; three_each = omega arith; at_least = leb-true 1 (n / 3) inner.1; at_most = leb-true (n / 3) 64 outer.1 }

is-hull : (n : ℕ) → CornersIn n → is_hull n ≡ true
unfolding is_hull
is-hull n c =
    let e = c.three_each in
    let l = c.at_least in
    let m = c.at_most in
    join (join (eq-eqb (n % 3) 0 (omega arith)) (le-leb 1 (n / 3) (omega arith))) (le-leb (n / 3) 64 (omega arith))

lengths-said : (first second : List ℤ) → is_hull (length first) && is_hull (length second) ≡ true ↔ Lengths first second
lengths-said first second = (λ h. let both = split (is_hull (length first)) (is_hull (length second)) h in record { of_first = corners-in (length first) both.0; of_second = corners-in (length second) both.1 }, λ l. join (is-hull (length first) l.of_first) (is-hull (length second) l.of_second))

in-range : (n : ℤ) → on_grid n ≡ true → InRange n
unfolding on_grid
in-range n h = leb-true (nat_abs n) 1_048_576 h

on-grid : (n : ℤ) → InRange n → on_grid n ≡ true
unfolding on_grid
on-grid n h = le-leb (nat_abs n) 1_048_576 h

direction-said : (d : GridVector) → vector_on_grid d ≡ true ↔ (InRange d.x × InRange d.y × InRange d.z)
unfolding vector_on_grid
direction-said d = (
  λ h. let outer = split (on_grid d.x && on_grid d.y) (on_grid d.z) h in let inner = split (on_grid d.x) (on_grid d.y) outer.0 in (in-range d.x inner.0, in-range d.y inner.1, in-range d.z outer.1),
  λ r. join (join (on-grid d.x r.0) (on-grid d.y r.1)) (on-grid d.z r.2),
)

ranges-said : (first second : List ℤ) (d : GridVector) → every on_grid first && every on_grid second && vector_on_grid d ≡ true ↔ Ranges first second d
ranges-said first second d = (
  λ h.
      let outer = split (every on_grid first && every on_grid second) (vector_on_grid d) h in
      let inner = split (every on_grid first) (every on_grid second) outer.0 in
      record {
        of_first = λ n m. in-range n (each on_grid first inner.0 m);
        of_second = λ n m. in-range n (each on_grid second inner.1 m);
        of_direction = (direction-said d).0 outer.1;
      },
  λ r.
      join
      (join (every_of on_grid first (λ n m. on-grid n (r.of_first n m))) (every_of on_grid second (λ n m. on-grid n (r.of_second n m))))
      ((direction-said d).1 r.of_direction),
)

apart-said : (d : GridVector) (first second : List GridVector) → separated d first second ≡ true ↔ Apart d first second
unfolding separated above
apart-said d first second = (
  λ h a b m n. lt_z_yes (T_of (each (above d (product d a)) second (each (λ (c : GridVector). every (above d (product d c)) second) first h m) n)),
  λ f. every_of (λ (c : GridVector). every (above d (product d c)) second) first (λ a m. every_of (above d (product d a)) second (λ b n. of_T (lt_z (product d a) (product d b)) (f a b m n).lt)),
)

meeting-said : (d : GridVector) (first second : List GridVector) → separated d first second ≡ false ↔ Meeting d first second
unfolding separated above
meeting-said d first second = (
  λ h.
      let outer = some-fails (λ (c : GridVector). every (above d (product d c)) second) first h in
      let a = outer.element in
      let inner = some-fails (above d (product d a)) second outer.fails in
      record {
        a = a;
        b = inner.element;
        of_first = outer.there;
        of_second = inner.there;
        not_smaller = lt_z_no (T-not-of (lt_z (product d a) (product d inner.element)) inner.fails);
      },
  λ m.
      not-every (λ (c : GridVector). every (above d (product d c)) second) first
      record {
        element = m.a;
        there = m.of_first;
        fails = not-every (above d (product d m.a)) second record { element = m.b; there = m.of_second; fails = not-less (product d m.a) (product d m.b) m.not_smaller };
      },
)

-- ---- each answer, exactly when
no_more : {b : Bool} {P : Type 0} → (b ≡ true ↔ P) → b ≡ false ↔ ¬ P
no_more {b} {P} said = (λ h p. false≢true (sym h ∙ said.1 p), λ f. by (known b) f)
  where
    by : (b ≡ true) ⊎ (b ≡ false) → ¬ P → b ≡ false
    by (inl e) f = absurd (f (said.0 e))
    by (inr e) f = e

module _ (first second : List ℤ) (d : GridVector) where
  decided : Tests (is_hull (length first) && is_hull (length second)) (every on_grid first && every on_grid second && vector_on_grid d) (separated d (corners first) (corners second))
  decided = tests (is_hull (length first) && is_hull (length second)) (every on_grid first && every on_grid second && vector_on_grid d) (separated d (corners first) (corners second))

  pub accepted-only : certify first second d ≡ Ok tt → (is_hull (length first) && is_hull (length second) ≡ true) × (every on_grid first && every on_grid second && vector_on_grid d ≡ true) × (separated d (corners first) (corners second) ≡ true)
  unfolding certify
  accepted-only e = decided.accepted-only-then e

  pub accepted-exactly : certify first second d ≡ Ok tt ↔ (Lengths first second × Ranges first second d × Apart d (corners first) (corners second))
  accepted-exactly = (
    λ e. let w = accepted-only e in ((lengths-said first second).0 w.0, (ranges-said first second d).0 w.1, (apart-said d (corners first) (corners second)).0 w.2),
    λ f. accepted first second d ((lengths-said first second).1 f.0) ((ranges-said first second d).1 f.1) ((apart-said d (corners first) (corners second)).1 f.2),
  )

  pub refused-9 : certificate_number (certify first second d) ≡ 9 ↔ ¬ Lengths first second
  unfolding certify certificate_number
  refused-9 = (
    λ e. (no_more (lengths-said first second)).0 (decided.bad-length-only e),
    λ f. ap certificate_number (bad-length first second d ((no_more (lengths-said first second)).1 f)),
  )

  pub refused-10 : certificate_number (certify first second d) ≡ 10 ↔ (Lengths first second × ¬ Ranges first second d)
  unfolding certify certificate_number
  refused-10 = (
    λ e. let w = decided.out-of-range-only e in ((lengths-said first second).0 w.0, (no_more (ranges-said first second d)).0 w.1),
    λ f. ap certificate_number (out_of_range first second d ((lengths-said first second).1 f.0) ((no_more (ranges-said first second d)).1 f.1)),
  )

  pub refused-11 : certificate_number (certify first second d) ≡ 11 ↔ (Lengths first second × Ranges first second d × Meeting d (corners first) (corners second))
  unfolding certify certificate_number
  refused-11 = (
    λ e. let w = decided.not-separated-only e in ((lengths-said first second).0 w.0, (ranges-said first second d).0 w.1, (meeting-said d (corners first) (corners second)).0 w.2),
    λ f. ap certificate_number (not-separated first second d ((lengths-said first second).1 f.0) ((ranges-said first second d).1 f.1) ((meeting-said d (corners first) (corners second)).1 f.2)),
  )

-- ---- the zero direction is declined
some-corner : (l : List ℤ) → 3 ≤ length l → (c : GridVector) × Memᴰ c (corners l)
unfolding corners
some-corner [] h = absurd (let n : 3 ≤ 0 = h in let f : ⊥ = omega arith in f)
some-corner (x ∷ []) h = absurd (let n : 3 ≤ 1 = h in let f : ⊥ = omega arith in f)
some-corner (x ∷ y ∷ []) h = absurd (let n : 3 ≤ 2 = h in let f : ⊥ = omega arith in f)
some-corner (x ∷ y ∷ z ∷ l) h = (record { x = x; y = y; z = z }, Memᴰ.head refl)

abbrev still : GridVector
still = record { x = pos 0; y = pos 0; z = pos 0 }

no-product : (c : GridVector) → product still c ≡ pos 0
unfolding product
no-product c = rw (zero-*ℤ c.x, zero-*ℤ c.y, zero-*ℤ c.z)

pub zero-declined : (first second : List ℤ) → Lengths first second → Ranges first second still → certificate_number (certify first second still) ≡ 11
zero-declined first second lengths ranges =
    let a = some-corner first (three-numbers lengths.of_first) in
    let b = some-corner second (three-numbers lengths.of_second) in
    (refused-11 first second still).1
    (lengths, ranges, record { a = a.0; b = b.0; of_first = a.1; of_second = b.1; not_smaller = rw (no-product a.0, no-product b.0) (≤ℤ_refl (pos 0)) })
  where
    three-numbers : {n : ℕ} → CornersIn n → 3 ≤ n
    three-numbers c = let e = c.three_each in let l = c.at_least in omega arith
