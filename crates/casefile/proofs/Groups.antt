-- Steps of reading and writing a number, as the code takes them, and how large a number of so many groups is: a group for each step, by the tests on its byte. Assumes nothing.
use Prim.Native.Nat.{ℕ, zero, suc, ◌+◌, ◌-◌, ◌*◌, ◌/◌, ◌%◌, ◌<◌, ◌≤◌}
use mathlib.Core.Path.{◌≡◌, refl}
use mathlib.Core.Bool.{Bool, true, false, cond}
use mathlib.Core.List.{List, [], ◌∷◌}
use native.Mathlib.Nat.{add_assoc, mul-add, mul_assoc, mul-suc, mul-le-mul_left}
use native.Mathlib.Numerals.{add-one}
use native.Mathlib.Omega.{arith}
use lib.ListN.{length, drop, get_or, drop_of_length-le}
use lib.Seq.{drop-cons}
use lib.Dec.{ltb, leb, eqb}
use borrow.Author.Tests.{eq-eqb, ne_eqb, lt-ltb, le-ltb, le-leb, lt-leb, ltb-true, leb-true}
use Rattle.std.specs.Prelude.{Result, Ok, Err}
use Rattle.casefile.specs.declared.numbers.Got.{Got}
use Rattle.casefile.specs.declared.numbers.NumberError.{NumberError}
use Rattle.casefile.specs.declared.numbers.NumberError.TheVariants.{Malformed, Ended}
use Rattle.casefile.specs.Numbers.{read, joined, later_in, first_of, decode_number, encode_in, encode, limit}

-- ---- steps

module _ (s : List ℕ) (at : ℕ) where
  pub later-ended : (n : ℕ) → length s ≤ at → later_in n (drop at s) at ≡ Err Ended
  unfolding later_in
  later-ended n h = rw (drop_of_length-le s h)

  pub first_ended : length s ≤ at → decode_number s at ≡ Err Ended
  unfolding decode_number first_of
  first_ended h = rw (drop_of_length-le s h)

module _ (s : List ℕ) (at b : ℕ) (here : at < length s) (is : b ≡ get_or s at 0) where
  row : drop at s ≡ b ∷ drop (at + 1) s
  row = rw (is, add-one) (drop-cons s at 0 here)

  pub later-none : (n : ℕ) → b ≡ 0 → later_in n (drop at s) at ≡ Err Malformed
  unfolding later_in
  later-none zero z = rw (row, eq-eqb b 0 z)
  later-none (suc n) z = rw (row, eq-eqb b 0 z)

  pub later-over : (n : ℕ) → n ≡ 0 → (b ≡ 0 → ⊥) → 15 < b → later_in n (drop at s) at ≡ Err Malformed
  unfolding later_in
  later-over n e z h = rw (row, e, ne_eqb b 0 z, lt-leb b 15 h)

  pub later-fifth : (n : ℕ) → n ≡ 0 → (b ≡ 0 → ⊥) → b ≤ 15 → later_in n (drop at s) at ≡ read b (at + 1)
  unfolding later_in
  later-fifth n e z h = rw (row, e, ne_eqb b 0 z, le-leb b 15 h)

  pub later_last : (n m : ℕ) → n ≡ suc m → (b ≡ 0 → ⊥) → b < 128 → later_in n (drop at s) at ≡ read b (at + 1)
  unfolding later_in
  later_last n m e z h = rw (row, e, ne_eqb b 0 z, lt-ltb b 128 h)

  pub later_more : (n m : ℕ) → n ≡ suc m → (b ≡ 0 → ⊥) → 128 ≤ b → later_in n (drop at s) at ≡ joined (b % 128) (later_in m (drop (at + 1) s) (at + 1))
  unfolding later_in
  later_more n m e z h = rw (row, e, ne_eqb b 0 z, le-ltb b 128 h)

  pub first-last : b < 128 → decode_number s at ≡ read b (at + 1)
  unfolding decode_number first_of
  first-last h = rw (row, lt-ltb b 128 h)

  pub first_more : 128 ≤ b → decode_number s at ≡ joined (b % 128) (later_in 3 (drop (at + 1) s) (at + 1))
  unfolding decode_number first_of
  first_more h = rw (row, le-ltb b 128 h)

-- ---- how large

-- a number that is read is below m
abbrev pub Below : ℕ → Result (Got ℕ) NumberError → Type 0
Below m (Ok g) = g.value < m
Below m (Err e) = Unit

pub some : (n : ℕ) → 0 < limit n
some zero = omega arith
some (suc n) = omega (arith, some n)

pick : (m : ℕ) (t : Bool) (x y : Result (Got ℕ) NumberError) → (t ≡ true → Below m x) → (t ≡ false → Below m y) → Below m (cond t x y)
pick m true x y f g = f refl
pick m false x y f g = g refl

joined_small : (m l : ℕ) (x : Result (Got ℕ) NumberError) → l < 128 → Below m x → Below (128 * m) (joined l x)
joined_small m l (Ok g) h k = omega arith
joined_small m l (Err e) h k = tt

pub later-small : (n : ℕ) (s : List ℕ) (at : ℕ) → Below (limit n) (later_in n s at)
unfolding later_in
later-small zero [] at = tt
later-small (suc n) [] at = tt
later-small zero (b ∷ s) at = pick _ (eqb b 0) _ _ (λ e. tt) (λ e. pick _ (leb b 15) _ _ (λ d. omega (arith, leb-true b 15 d)) (λ d. tt))
later-small (suc n) (b ∷ s) at =
    pick _ (eqb b 0) _ _ (λ e. tt)
    (λ e. pick _ (ltb b 128) _ _ (λ d. omega (arith, ltb-true b 128 d, some n)) (λ d. joined_small (limit n) (b % 128) (later_in n s (at + 1)) (omega arith) (later-small n s (at + 1))))

-- ---- the groups before a later one: they give `value`, and the next counts `weight`

abbrev pub held : ℕ → ℕ → Result (Got ℕ) NumberError → Result (Got ℕ) NumberError
held value weight (Ok g) = read (value + weight * g.value) g.next
held value weight (Err e) = Err e

-- the first group alone
pub held_first : (low : ℕ) (x : Result (Got ℕ) NumberError) → held low 128 x ≡ joined low x
held_first low (Ok g) = refl
held_first low (Err e) = refl

-- one group more
pub held_more : (value weight low : ℕ) (x : Result (Got ℕ) NumberError) → held value weight (joined low x) ≡ held (value + weight * low) (weight * 128) x
held_more value weight low (Ok g) =
    let v = g.value in
    rw (mul-add weight low (128 * v), mul_assoc weight 128 v, add_assoc value (weight * low) (weight * (128 * v))) refl
held_more value weight low (Err e) = refl

-- a group below k, beside what is below its weight
pub room : (value weight k : ℕ) (low : ℕ) → value < weight → low < k → value + weight * low < weight * k
room value weight k low h l = omega (arith, mul-le-mul_left weight l, mul-suc weight low)

-- a group that another may follow holds all seven bits
pub seven : (n : ℕ) → (n ≡ 0 → ⊥) → 128 < limit n
seven zero z = absurd (z refl)
seven (suc zero) z = omega arith
seven (suc (suc n)) z = omega (arith, some n)

-- with the next group's weight, one group fewer may follow
pub limit-next : (n m weight : ℕ) → n ≡ suc m → weight * 128 * limit m ≡ weight * limit n
limit-next n m weight e = rw (e, mul_assoc weight 128 (limit m)) refl

-- ---- writing, as the code does it

pub encode-cut : (n v : ℕ) → n ≡ 0 → encode_in n v ≡ v ∷ []
unfolding encode_in
encode-cut n v e = rw e

pub encode_one : (n v : ℕ) → (n ≡ 0 → ⊥) → v < 128 → encode_in n v ≡ v ∷ []
unfolding encode_in
encode_one zero v z h = absurd (z refl)
encode_one (suc n) v z h = rw (lt-ltb v 128 h)

pub encode-more : (n v : ℕ) → (n ≡ 0 → ⊥) → 128 ≤ v → encode_in n v ≡ (128 + v % 128) ∷ encode_in (n - 1) (v / 128)
unfolding encode_in
encode-more zero v z h = absurd (z refl)
encode-more (suc n) v z h =
    let e : suc n - 1 ≡ n = omega arith in
    rw (le-ltb v 128 h, e)

pub cut_small : (n v : ℕ) → n ≡ 0 → v < limit n → v < 16
cut_small n v e h = rw e at h

pub rest-small : (n v : ℕ) → (n ≡ 0 → ⊥) → v < limit n → v / 128 < limit (n - 1)
rest-small zero v z h = absurd (z refl)
rest-small (suc n) v z h =
    let e : suc n - 1 ≡ n = omega arith in
    rw e (omega arith)

cond-length : (m : ℕ) (t : Bool) (x y : List ℕ) → length x ≤ m → length y ≤ m → length (cond t x y) ≤ m
cond-length m true x y h k = h
cond-length m false x y h k = k

pub groups-length : (n v : ℕ) → length (encode_in n v) ≤ n + 1
unfolding encode_in
groups-length zero v = omega arith
groups-length (suc n) v =
    cond-length (suc n + 1) (ltb v 128) (v ∷ []) ((128 + v % 128) ∷ encode_in n (v / 128)) (omega arith) (omega (arith, groups-length n (v / 128)))

pub encode-length : (v : ℕ) → length (encode v) ≤ 5
unfolding encode
encode-length v = groups-length 4 v
