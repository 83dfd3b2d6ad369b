-- Digits read back: eight hexadecimal digits give a number below 2 ^ 32 again, and decimal digits one below 10 ^ 20, with no leading zero. By the digits. Assumes nothing.
use Prim.Native.Nat.{ℕ, zero, suc, ◌+◌, ◌-◌, ◌*◌, ◌/◌, ◌%◌, ◌^◌, ◌<◌}
use mathlib.Core.Path.{◌≡◌, refl, sym, ◌∙◌}
use mathlib.Core.Bool.{Bool, true, false, cond}
use mathlib.Core.List.{List, [], ◌∷◌, ◌++◌}
use native.Mathlib.Omega.{arith}
use lib.ListN.{length, get_or, length-append, get_or-append}
use lib.Dec.{ltb}
use borrow.Author.Tests.{lt-ltb, le-ltb, ltb-true, ltb-false}
use Rattle.lines.specs.Text.{hex_digit, hex_pair, hex_of, digit, decimal_in, decimal_of}

-- ---- hexadecimal

-- what a digit stands for, and what digits do, the highest first, after those that gave n
abbrev pub hex_value : ℕ → ℕ
hex_value d = cond (ltb d 65) (d - 48) (d - 55)

abbrev pub hex_number : ℕ → List ℕ → ℕ
hex_number n [] = n
hex_number n (d ∷ l) = hex_number (16 * n + hex_value d) l

hex-value-at : (n : ℕ) (t : Bool) → ltb (n % 16) 10 ≡ t → hex_value (cond t (48 + n % 16) (55 + n % 16)) ≡ n % 16
hex-value-at n true e = let l = ltb-true (n % 16) 10 e in rw (lt-ltb (48 + n % 16) 65 (omega arith)) (omega arith)
hex-value-at n false e = let l = ltb-false (n % 16) 10 e in rw (le-ltb (55 + n % 16) 65 (omega arith)) (omega arith)

hex-value : (n : ℕ) → hex_value (hex_digit n) ≡ n % 16
unfolding hex_digit
hex-value n = hex-value-at n (ltb (n % 16) 10) refl

hex-pair : (m n : ℕ) → hex_number m (hex_pair n) ≡ 256 * m + n % 256
unfolding hex_pair
hex-pair m n =
    let a = hex-value (n / 16) in
    let b = hex-value n in
    omega (arith, a, b)

hex-append : (n : ℕ) (a b : List ℕ) → hex_number n (a ++ b) ≡ hex_number (hex_number n a) b
hex-append n [] b = refl
hex-append n (d ∷ a) b = hex-append (16 * n + hex_value d) a b

-- a byte after those above it
next-byte : (h n : ℕ) → h ≡ n / 256 → 256 * h + n % 256 ≡ n
next-byte h n e = omega arith

pub hex-read : (n : ℕ) → n < 2 ^ 32 → hex_number 0 (hex_of n) ≡ n
unfolding hex_of
hex-read n h =
    let top : 256 * 0 + n / 0x100_0000 % 256 ≡ n / 0x100_0000 = omega arith in
    let second = next-byte (n / 0x100_0000) (n / 0x1_0000) (omega arith) in
    let third = next-byte (n / 0x1_0000) (n / 0x100) (omega arith) in
    let fourth = next-byte (n / 0x100) n (omega arith) in
    simp (hex-append, hex-pair, top, second, third, fourth)

-- ---- decimal

abbrev pub decimal_number : ℕ → List ℕ → ℕ
decimal_number n [] = n
decimal_number n (d ∷ l) = decimal_number (10 * n + (d - 48)) l

-- 10 ^ (k + 1)
abbrev tens : ℕ → ℕ
tens zero = 10
tens (suc k) = 10 * tens k

decimal-append : (n : ℕ) (a b : List ℕ) → decimal_number n (a ++ b) ≡ decimal_number (decimal_number n a) b
decimal-append n [] b = refl
decimal-append n (d ∷ a) b = decimal-append (10 * n + (d - 48)) a b

last-digit : (m n : ℕ) → decimal_number m (digit n ∷ []) ≡ 10 * m + n % 10
unfolding digit
last-digit m n = omega arith

read_at : (k n : ℕ) (t : Bool) → ltb n 10 ≡ t → decimal_number 0 (decimal_in k (n / 10)) ≡ n / 10 → decimal_number 0 (cond t (digit n ∷ []) (decimal_in k (n / 10) ++ digit n ∷ [])) ≡ n
read_at k n true e i = let l = ltb-true n 10 e in last-digit 0 n ∙ omega arith
read_at k n false e i = decimal-append 0 (decimal_in k (n / 10)) (digit n ∷ []) ∙ rw i (last-digit (n / 10) n ∙ omega arith)

read-in : (k n : ℕ) → n < tens k → decimal_number 0 (decimal_in k n) ≡ n
unfolding decimal_in
read-in zero n h = last-digit 0 n ∙ omega arith
read-in (suc k) n h = read_at k n (ltb n 10) refl (read-in k (n / 10) (omega arith))

pub decimal-read : (n : ℕ) → n < 10 ^ 20 → decimal_number 0 (decimal_of n) ≡ n
unfolding decimal_of
decimal-read n h = read-in 19 n h

-- the first of several digits is no zero

some_at : (t : Bool) (x y : List ℕ) → 0 < length x → 0 < length y → 0 < length (cond t x y)
some_at true x y h k = h
some_at false x y h k = k

some : (k n : ℕ) → 0 < length (decimal_in k n)
unfolding decimal_in
some zero n = omega arith
some (suc k) n = some_at (ltb n 10) _ _ (omega arith) (omega (arith, length-append (decimal_in k (n / 10)) (digit n ∷ []), some k (n / 10)))

zero-digit : (n : ℕ) → n < 10 → digit n ≡ 48 → n ≡ 0
unfolding digit
zero-digit n h e = omega arith

first-at : (k n : ℕ) (t : Bool) → ltb n 10 ≡ t → (get_or (decimal_in k (n / 10)) 0 0 ≡ 48 → n / 10 ≡ 0) → get_or (cond t (digit n ∷ []) (decimal_in k (n / 10) ++ digit n ∷ [])) 0 0 ≡ 48 → n ≡ 0
first-at k n true e i h = zero-digit n (ltb-true n 10 e) h
first-at k n false e i h =
    let l = ltb-false n 10 e in
    let g = sym (get_or-append (decimal_in k (n / 10)) (digit n ∷ []) 0 0 (some k (n / 10))) ∙ h in
    omega (arith, i g)

first-in : (k n : ℕ) → n < tens k → get_or (decimal_in k n) 0 0 ≡ 48 → n ≡ 0
unfolding decimal_in
first-in zero n h e = zero-digit n h e
first-in (suc k) n h e = first-at k n (ltb n 10) refl (first-in k (n / 10) (omega arith)) e

pub no-leading-zero : (n : ℕ) → n < 10 ^ 20 → get_or (decimal_of n) 0 0 ≡ 48 → n ≡ 0
unfolding decimal_of
no-leading-zero n h e = first-in 19 n h e
