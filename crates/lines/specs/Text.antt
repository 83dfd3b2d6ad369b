-- Text as lists of bytes: how it goes into a lent slice, and numbers as hexadecimal and decimal digits. Definitions only.
use Rattle.std.specs.Prelude.{ℕ, zero, suc, ◌+◌, ◌/◌, ◌%◌, cond, List, [], ◌∷◌, ◌++◌, length, ltb, leb, Result, Ok, Err}
use Rattle.std.proofs.lemmas.List.Edits.{sets}
use Rattle.refusal.specs.Refusal.{no_room}
use Rattle.refusal.specs.declared.NoRoom.{NoRoom}

-- ---- into a slice

-- what a call leaves in the slice, and its answer
pub record After : Type 0 where
  pub bytes : List ℕ
  pub answer : Result ℕ NoRoom

abbrev pub after : List ℕ → Result ℕ NoRoom → After
after o p = record { bytes = o; answer = p }

-- The bytes l go to the places from `at` on, where all of them have a place; elsewhere nothing is written
unfoldable pub place_of : List ℕ → ℕ → List ℕ → After
place_of o at l = cond (leb (at + length l) (length o)) (after (sets o at l) (Ok (at + length l))) (after o (Err no_room))

-- ---- hexadecimal, in upper case

-- n's last digit
unfoldable pub hex_digit : ℕ → ℕ
hex_digit n = cond (ltb (n % 16) 10) (48 + n % 16) (55 + n % 16)

-- its last two
unfoldable pub hex_pair : ℕ → List ℕ
hex_pair n = hex_digit (n / 16) ∷ hex_digit n ∷ []

-- its last eight
unfoldable pub hex_of : ℕ → List ℕ
hex_of n = hex_pair (n / 0x100_0000) ++ hex_pair (n / 0x1_0000) ++ hex_pair (n / 0x100) ++ hex_pair n

-- ---- decimal, without leading zeros

-- n's last digit
unfoldable pub digit : ℕ → ℕ
digit n = 48 + n % 10

-- n by at most k + 1 digits
unfoldable pub decimal_in : ℕ → ℕ → List ℕ
decimal_in zero n = digit n ∷ []
decimal_in (suc k) n = cond (ltb n 10) (digit n ∷ []) (decimal_in k (n / 10) ++ digit n ∷ [])

-- a number below 2 ^ 64 has at most twenty digits
unfoldable pub decimal_of : ℕ → List ℕ
decimal_of n = decimal_in 19 n
