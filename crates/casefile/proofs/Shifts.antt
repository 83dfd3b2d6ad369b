-- A record read from a file whose front is cut off is the record of the whole file, with each place told from the cut on (`shifted-case`). Each reader is followed in the definitions'
-- order: a number's groups, a number, numbers, shapes, words. Assumes nothing.
use Prim.Native.Nat.{ℕ, zero, suc, ◌+◌, ◌%◌}
use native.Mathlib.Nat.{add_assoc}
use mathlib.Core.Path.{◌≡◌, refl, ap, ◌∙◌}
use mathlib.Core.Bool.{Bool, true, false, cond}
use mathlib.Core.List.{List, [], ◌∷◌, ◌++◌}
use lib.ListN.{length, drop}
use lib.Seq.{drop-append-add}
use lib.Dec.{ltb, leb, eqb}
use lib.Ieee.{Format}
use Rattle.std.specs.Prelude.{Result, Ok, Err}
use Rattle.casefile.specs.declared.numbers.Got.{Got}
use Rattle.casefile.specs.declared.numbers.NumberError.{NumberError}
use Rattle.casefile.specs.declared.records.CaseError.{CaseError}
use Rattle.casefile.specs.declared.records.CaseError.TheVariants.{Malformed, Ended}
use Rattle.casefile.specs.Numbers.{got, read, joined, later_in, first_of, decode_number}
use Rattle.casefile.specs.Records.{then, number_of, number_at, small_at, numbers_at, size_of, shape_words_at, words_at, read_case}

-- ---- the same answer, its places k further on

abbrev moved_number : ℕ → Result (Got ℕ) NumberError → Result (Got ℕ) NumberError
moved_number k (Ok g) = read g.value (k + g.next)
moved_number k (Err e) = Err e

abbrev pub moved : {A : Type 0} → ℕ → Result (Got A) CaseError → Result (Got A) CaseError
moved k (Ok g) = Ok (got g.value (k + g.next))
moved k (Err (Malformed p)) = Err (Malformed (k + p))
moved k (Err Ended) = Err Ended

-- ---- a number

moved-joined : (k low : ℕ) (x : Result (Got ℕ) NumberError) → joined low (moved_number k x) ≡ moved_number k (joined low x)
moved-joined k low (Ok g) = refl
moved-joined k low (Err e) = refl

-- a group's end is a place further on
after-group : (k at v : ℕ) → read v (k + at + 1) ≡ read v (k + (at + 1))
after-group k at v = ap (read v) (add_assoc k at 1)

-- by the tests on a group that another may follow
moved-group : (p q : Bool) (k at v low : ℕ) (x y : Result (Got ℕ) NumberError) → x ≡ moved_number k y
    → cond p (Err NumberError.Malformed) (cond q (read v (k + at + 1)) (joined low x)) ≡ moved_number k (cond p (Err NumberError.Malformed) (cond q (read v (at + 1)) (joined low y)))
moved-group true q k at v low x y e = refl
moved-group false true k at v low x y e = after-group k at v
moved-group false false k at v low x y e = ap (joined low) e ∙ moved-joined k low y

-- and on the last
moved-last : (p q : Bool) (k at v : ℕ)
    → cond p (Err NumberError.Malformed) (cond q (read v (k + at + 1)) (Err NumberError.Malformed)) ≡ moved_number k (cond p (Err NumberError.Malformed) (cond q (read v (at + 1)) (Err NumberError.Malformed)))
moved-last true q k at v = refl
moved-last false true k at v = after-group k at v
moved-last false false k at v = refl

moved_later : (k n : ℕ) (s : List ℕ) (at : ℕ) → later_in n s (k + at) ≡ moved_number k (later_in n s at)
unfolding later_in
moved_later k zero [] at = refl
moved_later k (suc n) [] at = refl
moved_later k zero (b ∷ s) at = moved-last (eqb b 0) (leb b 15) k at b
moved_later k (suc n) (b ∷ s) at = moved-group (eqb b 0) (ltb b 128) k at b (b % 128) (later_in n s (k + at + 1)) (later_in n s (at + 1)) (ap (later_in n s) (add_assoc k at 1) ∙ moved_later k n s (at + 1))

moved-first : (k : ℕ) (s : List ℕ) (at : ℕ) → first_of s (k + at) ≡ moved_number k (first_of s at)
unfolding first_of
moved-first k [] at = refl
moved-first k (b ∷ s) at = moved-group false (ltb b 128) k at b (b % 128) (later_in 3 s (k + at + 1)) (later_in 3 s (at + 1)) (ap (later_in 3 s) (add_assoc k at 1) ∙ moved_later k 3 s (at + 1))

module _ (front s : List ℕ) where
  abbrev k : ℕ
  k = length front

  abbrev whole : List ℕ
  whole = front ++ s

  moved-decode : (at : ℕ) → decode_number whole (k + at) ≡ moved_number k (decode_number s at)
  unfolding decode_number
  moved-decode at = ap (λ (t : List ℕ). first_of t (k + at)) (drop-append-add front s at) ∙ moved-first k (drop at s) at

  -- ---- a record

  moved-number-of : (p : ℕ) (x : Result (Got ℕ) NumberError) → number_of (k + p) (moved_number k x) ≡ moved k (number_of p x)
  moved-number-of p (Ok g) = refl
  moved-number-of p (Err NumberError.Malformed) = refl
  moved-number-of p (Err NumberError.Ended) = refl

  moved-number : (p : ℕ) → number_at whole (k + p) ≡ moved k (number_at s p)
  unfolding number_at
  moved-number p = ap (number_of (k + p)) (moved-decode p) ∙ moved-number-of p (decode_number s p)

  then-moved : {A B : Type 0} (x : Result (Got A) CaseError) (f' f : A → ℕ → Result (Got B) CaseError) → ((v : A) (q : ℕ) → f' v (k + q) ≡ moved k (f v q)) → then (moved k x) f' ≡ moved k (then x f)
  then-moved (Ok g) f' f h = h g.value g.next
  then-moved (Err (Malformed p)) f' f h = refl
  then-moved (Err Ended) f' f h = refl

  moved-pick : (t : Bool) (v q p : ℕ) → cond t (Ok (got v (k + q))) (Err (Malformed (k + p))) ≡ moved k (cond t (Ok (got v q)) (Err (Malformed p)))
  moved-pick true v q p = refl
  moved-pick false v q p = refl

  moved-small : (top p : ℕ) → small_at top whole (k + p) ≡ moved k (small_at top s p)
  unfolding small_at
  moved-small top p = rw (moved-number p) (then-moved (number_at s p) _ _ (λ v q. moved-pick (leb v top) v q p))

  moved-numbers : (n p : ℕ) → numbers_at n whole (k + p) ≡ moved k (numbers_at n s p)
  unfolding numbers_at
  moved-numbers zero p = refl
  moved-numbers (suc n) p = rw (moved-number p) (then-moved (number_at s p) _ _ (λ v q. rw (moved-numbers n q) (then-moved (numbers_at n s q) _ _ (λ w r. refl))))

  moved-shape : (p : ℕ) → shape_words_at whole (k + p) ≡ moved k (shape_words_at s p)
  unfolding shape_words_at
  moved-shape p = rw (moved-small 3 p) (then-moved (small_at 3 s p) _ _ (λ v q. rw (moved-numbers (size_of v) q) (then-moved (numbers_at (size_of v) s q) _ _ (λ w r. refl))))

  moved-words : (p : ℕ) → words_at whole (k + p) ≡ moved k (words_at s p)
  unfolding words_at
  moved-words p =
      rw (moved-shape p) (then-moved (shape_words_at s p) _ _
      (λ a q. rw (moved-shape q) (then-moved (shape_words_at s q) _ _
      (λ b r. rw (moved-numbers 11 r) (then-moved (numbers_at 11 s r) _ _
      (λ w t. rw (moved-small 1 t) (then-moved (small_at 1 s t) _ _ (λ e u. refl))))))))

pub shifted-case : (f : Format) (front s : List ℕ) (at : ℕ) → read_case f (front ++ s) (length front + at) ≡ moved (length front) (read_case f s at)
unfolding read_case
shifted-case f front s at = rw (moved-words front s at) (then-moved front s (words_at s at) _ _ (λ w q. refl))
