-- A record read from a part of a file: what the bytes at hand decide, more bytes do not change (`longer`), and 160 bytes always decide (`enough`): so a program reads
-- a file through a buffer of 160 bytes. By the numbers of a record, of at most five bytes each. Assumes nothing.
use Prim.Native.Nat.{ℕ, zero, suc, ◌+◌, ◌*◌, ◌%◌, ◌<◌, ◌≤◌}
use mathlib.Core.Path.{◌≡◌, refl, ap}
use mathlib.Core.Bool.{Bool, true, false, cond}
use mathlib.Core.List.{List, [], ◌∷◌, ◌++◌}
use native.Mathlib.Omega.{arith}
use lib.ListN.{length, drop, length-drop}
use lib.Seq.{drop-append-le}
use lib.Dec.{ltb, leb, eqb}
use lib.Ieee.{Format}
use borrow.Author.Tests.{ltb-true, ltb-false}
use Rattle.std.specs.Prelude.{Result, Ok, Err}
use Rattle.casefile.specs.declared.numbers.Got.{Got}
use Rattle.casefile.specs.declared.numbers.NumberError.{NumberError}
use Rattle.casefile.specs.declared.records.CaseError.{CaseError}
use Rattle.casefile.specs.declared.records.CaseError.TheVariants.{Malformed, Ended}
use Rattle.casefile.specs.Numbers.{got, joined, later_in, first_of, decode_number}
use Rattle.casefile.specs.Records.{then, number_of, number_at, small_at, numbers_at, size_of, shape_words_at, words_at, case_of, read_case}
use Rattle.casefile.proofs.Groups.{first_ended}

-- ---- more bytes: numbers

abbrev Goes : Result (Got ℕ) NumberError → Type 0
Goes x = x ≡ Err NumberError.Ended → ⊥

-- by the tests on a group
longer-at : (p q : Bool) (l : ℕ) (r x y : Result (Got ℕ) NumberError) → (Goes y → x ≡ y) → Goes (cond p (Err NumberError.Malformed) (cond q r (joined l y))) → cond p (Err NumberError.Malformed) (cond q r (joined l x)) ≡ cond p (Err NumberError.Malformed) (cond q r (joined l y))
longer-at true q l r x y f h = refl
longer-at false true l r x y f h = refl
longer-at false false l r x y f h = ap (joined l) (f (λ e. h (ap (joined l) e)))

later-longer : (n : ℕ) (s t : List ℕ) (at : ℕ) → Goes (later_in n s at) → later_in n (s ++ t) at ≡ later_in n s at
unfolding later_in
later-longer zero [] t at h = absurd (h refl)
later-longer zero (b ∷ s) t at h = refl
later-longer (suc n) [] t at h = absurd (h refl)
later-longer (suc n) (b ∷ s) t at h = longer-at (eqb b 0) (ltb b 128) (b % 128) _ _ _ (later-longer n s t (at + 1)) h

first-longer : (s t : List ℕ) (at : ℕ) → Goes (first_of s at) → first_of (s ++ t) at ≡ first_of s at
unfolding first_of
first-longer [] t at h = absurd (h refl)
first-longer (b ∷ s) t at h = longer-at false (ltb b 128) (b % 128) _ _ _ (later-longer 3 s t (at + 1)) h

decode-longer-at : (s t : List ℕ) (at : ℕ) (d : Bool) → ltb at (length s) ≡ d → Goes (decode_number s at) → decode_number (s ++ t) at ≡ decode_number s at
unfolding decode_number
decode-longer-at s t at true e h =
    let l = ltb-true at (length s) e in
    let k : at ≤ length s = omega arith in
    rw (drop-append-le at s t k) (first-longer (drop at s) t at h)
decode-longer-at s t at false e h = absurd (h (first_ended s at (ltb-false at (length s) e)))

decode-longer : (s t : List ℕ) (at : ℕ) → Goes (decode_number s at) → decode_number (s ++ t) at ≡ decode_number s at
decode-longer s t at h = decode-longer-at s t at (ltb at (length s)) refl h

-- ---- more bytes: records

abbrev NoEnd : {A : Type 0} → Result (Got A) CaseError → Type 0
NoEnd x = x ≡ Err Ended → ⊥

then-longer : {A B : Type 0} (x' x : Result (Got A) CaseError) (f' f : A → ℕ → Result (Got B) CaseError) → (NoEnd x → x' ≡ x) → ((v : A) (q : ℕ) → NoEnd (f v q) → f' v q ≡ f v q) → NoEnd (then x f) → then x' f' ≡ then x f
then-longer x' (Ok g) f' f h k n = rw (h (λ e. cc)) (k g.value g.next n)
then-longer x' (Err e) f' f h k n = rw (h (λ z. n (cc)))

number-longer : (s t : List ℕ) (p : ℕ) → NoEnd (number_at s p) → number_at (s ++ t) p ≡ number_at s p
unfolding number_at
number-longer s t p h = ap (number_of p) (decode-longer s t p (λ e. h (ap (number_of p) e)))

small-longer : (top : ℕ) (s t : List ℕ) (p : ℕ) → NoEnd (small_at top s p) → small_at top (s ++ t) p ≡ small_at top s p
unfolding small_at
small-longer top s t p h = then-longer _ _ _ _ (number-longer s t p) (λ v q n. refl) h

numbers-longer : (n : ℕ) (s t : List ℕ) (p : ℕ) → NoEnd (numbers_at n s p) → numbers_at n (s ++ t) p ≡ numbers_at n s p
unfolding numbers_at
numbers-longer zero s t p h = refl
numbers-longer (suc n) s t p h = then-longer _ _ _ _ (number-longer s t p) (λ v q k. then-longer _ _ _ _ (numbers-longer n s t q) (λ w r z. refl) k) h

shape-longer : (s t : List ℕ) (p : ℕ) → NoEnd (shape_words_at s p) → shape_words_at (s ++ t) p ≡ shape_words_at s p
unfolding shape_words_at
shape-longer s t p h = then-longer _ _ _ _ (small-longer 3 s t p) (λ k q n. then-longer _ _ _ _ (numbers-longer (size_of k) s t q) (λ w r z. refl) n) h

words-longer : (s t : List ℕ) (p : ℕ) → NoEnd (words_at s p) → words_at (s ++ t) p ≡ words_at s p
unfolding words_at
words-longer s t p h =
    then-longer _ _ _ _ (shape-longer s t p)
    (λ a q n. then-longer _ _ _ _ (shape-longer s t q)
    (λ b r n. then-longer _ _ _ _ (numbers-longer 11 s t r)
    (λ w u n. then-longer _ _ _ _ (small-longer 1 s t u) (λ e v n. refl) n) n) n) h

-- what is decided stays decided, whatever bytes follow
pub longer : (f : Format) (s t : List ℕ) (at : ℕ) → (read_case f s at ≡ Err Ended → ⊥) → read_case f (s ++ t) at ≡ read_case f s at
unfolding read_case
longer f s t at h = then-longer _ _ _ _ (words-longer s t at) (λ w q n. refl) h

-- ---- enough bytes: numbers

-- a number that was read ends at the place m or before it
abbrev Ends : Result (Got ℕ) NumberError → ℕ → Type 0
Ends (Ok g) m = g.next ≤ m
Ends (Err NumberError.Malformed) m = Unit
Ends (Err NumberError.Ended) m = ⊥

ends-pick : (t : Bool) (x y : Result (Got ℕ) NumberError) (m : ℕ) → Ends x m → Ends y m → Ends (cond t x y) m
ends-pick true x y m h k = h
ends-pick false x y m h k = k

ends-joined : (l : ℕ) (x : Result (Got ℕ) NumberError) (m : ℕ) → Ends x m → Ends (joined l x) m
ends-joined l (Ok g) m h = h
ends-joined l (Err NumberError.Malformed) m h = tt
ends-joined l (Err NumberError.Ended) m h = h

later-enough : (n : ℕ) (s : List ℕ) (at m : ℕ) → n < length s → at + n < m → Ends (later_in n s at) m
unfolding later_in
later-enough zero [] at m h k = omega arith
later-enough zero (b ∷ s) at m h k = ends-pick (eqb b 0) _ _ m tt (ends-pick (leb b 15) _ _ m (omega arith) tt)
later-enough (suc n) [] at m h k = omega arith
later-enough (suc n) (b ∷ s) at m h k =
    ends-pick (eqb b 0) _ _ m tt
    (ends-pick (ltb b 128) _ _ m (omega arith) (ends-joined (b % 128) (later_in n s (at + 1)) m (later-enough n s (at + 1) m (omega arith) (omega arith))))

first-enough : (s : List ℕ) (at m : ℕ) → 4 < length s → at + 4 < m → Ends (first_of s at) m
unfolding first_of
first-enough [] at m h k = omega arith
first-enough (b ∷ s) at m h k =
    ends-pick (ltb b 128) _ _ m (omega arith) (ends-joined (b % 128) (later_in 3 s (at + 1)) m (later-enough 3 s (at + 1) m (omega arith) (omega arith)))

decode-enough : (s : List ℕ) (at : ℕ) → at + 5 ≤ length s → Ends (decode_number s at) (at + 5)
unfolding decode_number
decode-enough s at h = first-enough (drop at s) at (at + 5) (rw (length-drop at s) (omega arith)) (omega arith)

-- ---- enough bytes: records

-- what was read ends at the place m or before it, or a number is malformed
abbrev Upto : {A : Type 0} → Result (Got A) CaseError → ℕ → Type 0
Upto (Ok g) m = g.next ≤ m
Upto (Err (Malformed p)) m = Unit
Upto (Err Ended) m = ⊥

then-upto : {A B : Type 0} (x : Result (Got A) CaseError) (f : A → ℕ → Result (Got B) CaseError) (m k : ℕ) → Upto x m → ((v : A) (q : ℕ) → q ≤ m → Upto (f v q) k) → Upto (then x f) k
then-upto (Ok g) f m k u h = h g.value g.next u
then-upto (Err (Malformed p)) f m k u h = tt
then-upto (Err Ended) f m k u h = u

upto-number : (p : ℕ) (x : Result (Got ℕ) NumberError) (m k : ℕ) → m ≤ k → Ends x m → Upto (number_of p x) k
upto-number p (Ok g) m k l h = omega arith
upto-number p (Err NumberError.Malformed) m k l h = tt
upto-number p (Err NumberError.Ended) m k l h = h

number-enough : (s : List ℕ) (p m : ℕ) → m + 5 ≤ length s → p ≤ m → Upto (number_at s p) (m + 5)
unfolding number_at
number-enough s p m h u = upto-number p (decode_number s p) (p + 5) (m + 5) (omega arith) (decode-enough s p (omega arith))

upto-pick : (t : Bool) (v q p m : ℕ) → q ≤ m → Upto (cond t (Ok (got v q)) (Err (Malformed p))) m
upto-pick true v q p m h = h
upto-pick false v q p m h = tt

small-enough : (top : ℕ) (s : List ℕ) (p m : ℕ) → m + 5 ≤ length s → p ≤ m → Upto (small_at top s p) (m + 5)
unfolding small_at
small-enough top s p m h u = then-upto (number_at s p) _ (m + 5) (m + 5) (number-enough s p m h u) (λ v q l. upto-pick (leb v top) v q p (m + 5) l)

numbers-enough : (n : ℕ) (s : List ℕ) (p m : ℕ) → m + 5 * n ≤ length s → p ≤ m → Upto (numbers_at n s p) (m + 5 * n)
unfolding numbers_at
numbers-enough zero s p m h u = omega arith
numbers-enough (suc n) s p m h u =
    then-upto (number_at s p) _ (m + 5) (m + 5 * suc n) (number-enough s p m (omega arith) u)
    (λ v q l. then-upto (numbers_at n s q) _ (m + 5 + 5 * n) (m + 5 * suc n) (numbers-enough n s q (m + 5) (omega arith) l) (λ w r k. omega arith))

most : (k : ℕ) → size_of k ≤ 9
most zero = omega arith
most (suc zero) = omega arith
most (suc (suc zero)) = omega arith
most (suc (suc (suc k))) = omega arith

shape-enough : (s : List ℕ) (p m : ℕ) → m + 50 ≤ length s → p ≤ m → Upto (shape_words_at s p) (m + 50)
unfolding shape_words_at
shape-enough s p m h u =
    then-upto (small_at 3 s p) _ (m + 5) (m + 50) (small-enough 3 s p m (omega arith) u)
    (λ k q l.
    let e : size_of k ≤ 9 = most k in
    then-upto (numbers_at (size_of k) s q) _ (m + 5 + 5 * size_of k) (m + 50) (numbers-enough (size_of k) s q (m + 5) (omega arith) l) (λ w r d. omega arith))

words-enough : (s : List ℕ) (p m : ℕ) → m + 160 ≤ length s → p ≤ m → Upto (words_at s p) (m + 160)
unfolding words_at
words-enough s p m h u =
    then-upto (shape_words_at s p) _ (m + 50) (m + 160) (shape-enough s p m (omega arith) u)
    (λ a q l. then-upto (shape_words_at s q) _ (m + 50 + 50) (m + 160) (shape-enough s q (m + 50) (omega arith) l)
    (λ b r k. then-upto (numbers_at 11 s r) _ (m + 50 + 50 + 5 * 11) (m + 160) (numbers-enough 11 s r (m + 50 + 50) (omega arith) k)
    (λ w t d. then-upto (small_at 1 s t) _ (m + 50 + 50 + 5 * 11 + 5) (m + 160) (small-enough 1 s t (m + 50 + 50 + 5 * 11) (omega arith) d) (λ e v z. omega arith))))

undecided : {A : Type 0} (x : Result (Got A) CaseError) (m : ℕ) → Upto x m → x ≡ Err Ended → ⊥
undecided (Ok g) m u e = cc
undecided (Err (Malformed p)) m u e = cc
undecided (Err Ended) m u e = u

-- 160 bytes always decide
pub enough : (f : Format) (s : List ℕ) (at : ℕ) → at + 160 ≤ length s → read_case f s at ≡ Err Ended → ⊥
unfolding read_case
enough f s at h e = undecided _ (at + 160) (then-upto (words_at s at) (λ w q. Ok (got (case_of f w) q)) (at + 160) (at + 160) (words-enough s at at h (omega arith)) (λ w q l. l)) e
