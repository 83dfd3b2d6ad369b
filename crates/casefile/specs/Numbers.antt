-- Numbers of a case file (document 01, "Case file and vote"), as lists of bytes. Definitions only.
-- A number is groups of seven bits, lowest first; a byte from 128 on says that another follows. At most five groups; the fifth is at most 15; a last
-- group of zero is allowed only alone.
use Rattle.std.specs.Prelude.{ℕ, zero, suc, ◌+◌, ◌*◌, ◌/◌, ◌%◌, cond, List, [], ◌∷◌, drop, length, ltb, leb, eqb, Result, Ok, Err}
use Rattle.casefile.specs.declared.numbers.Got.{Got}
use Rattle.casefile.specs.declared.numbers.NumberError.{NumberError}
use Rattle.casefile.specs.declared.numbers.NumberError.TheVariants.{Malformed, Ended}

-- ---- reading

-- what is read, and the place after it
abbrev pub got : {A : Type 0} → A → ℕ → Got A
got v next = record { value = v; next = next }

-- a number, and the place after it
abbrev pub read : ℕ → ℕ → Result (Got ℕ) NumberError
read v next = Ok (got v next)

-- a group, and what the groups after it give
abbrev pub joined : ℕ → Result (Got ℕ) NumberError → Result (Got ℕ) NumberError
joined low (Ok g) = read (low + 128 * g.value) g.next
joined low (Err e) = Err e

-- What bytes give that stand at the place `at` and start with a group that is not a number's first, where n more may follow that group
unfoldable pub later_in : ℕ → List ℕ → ℕ → Result (Got ℕ) NumberError
later_in n [] at = Err Ended
later_in zero (b ∷ s) at = cond (eqb b 0) (Err Malformed) (cond (leb b 15) (read b (at + 1)) (Err Malformed))
later_in (suc n) (b ∷ s) at = cond (eqb b 0) (Err Malformed) (cond (ltb b 128) (read b (at + 1)) (joined (b % 128) (later_in n s (at + 1))))

-- what bytes that stand at the place `at` start with
unfoldable pub first_of : List ℕ → ℕ → Result (Got ℕ) NumberError
first_of [] at = Err Ended
first_of (b ∷ s) at = cond (ltb b 128) (read b (at + 1)) (joined (b % 128) (later_in 3 s (at + 1)))

-- the number that starts at the place `at`, and the place after it
unfoldable pub decode_number : List ℕ → ℕ → Result (Got ℕ) NumberError
decode_number bytes at = first_of (drop at bytes) at

-- ---- document 01's number of what stands at the place `at` of s, 0 or refusal 4, and its values: the number and the place after it; of the refusal the offset, the length of s where that ends inside
unfoldable pub number_outcome : Result (Got ℕ) NumberError → ℕ
number_outcome (Ok g) = 0
number_outcome (Err e) = 4

pub record Values : Type 0 where
  pub value : ℕ
  pub place : ℕ

unfoldable pub number_values : List ℕ → ℕ → Result (Got ℕ) NumberError → Values
number_values s at (Ok g) = record { value = g.value; place = g.next }
number_values s at (Err Malformed) = record { value = 0; place = at }
number_values s at (Err Ended) = record { value = 0; place = length s }

-- ---- writing

-- a number's groups, of which n may follow the first
unfoldable pub encode_in : ℕ → ℕ → List ℕ
encode_in zero v = v ∷ []
encode_in (suc n) v = cond (ltb v 128) (v ∷ []) ((128 + v % 128) ∷ encode_in n (v / 128))

-- a number below 2 ^ 32 has at most five groups
unfoldable pub encode : ℕ → List ℕ
encode v = encode_in 4 v

-- ---- for the private functions

-- what a group and n after it hold, the fifth of a number's with four bits
abbrev pub limit : ℕ → ℕ
limit zero = 16
limit (suc n) = 128 * limit n
