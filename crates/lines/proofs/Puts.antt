-- Where a text has room in a slice and where not, how long texts are, and a decimal number's digits as the code takes them. Assumes nothing.
use Prim.Native.Nat.{ℕ, zero, suc, ◌+◌, ◌-◌, ◌/◌, ◌≤◌, ◌<◌}
use mathlib.Core.Path.{◌≡◌, refl}
use mathlib.Core.Bool.{Bool, true, false, cond}
use mathlib.Core.List.{List, [], ◌∷◌, ◌++◌}
use native.Mathlib.Omega.{arith}
use lib.ListN.{length, take, drop, length-append}
use lib.Seq.{sets-eq}
use lib.Dec.{ltb}
use borrow.Author.Tests.{le-leb, lt-leb, lt-ltb, le-ltb}
use Rattle.std.specs.Prelude.{Ok, Err}
use Rattle.std.proofs.Common.{append_assoc}
use Rattle.std.proofs.lemmas.List.{drop-drop}
use Rattle.refusal.specs.Refusal.{no_room as refused}
use Rattle.lines.specs.Text.{after, place_of, hex_pair, hex_of, digit, decimal_in}

-- ---- where there is room, and where not

pub there : (o l : List ℕ) (at : ℕ) → at + length l ≤ length o → after (take at o ++ (l ++ drop (length l) (drop at o))) (Ok (at + length l)) ≡ place_of o at l
unfolding place_of
there o l at h = rw (le-leb (at + length l) (length o) h, sets-eq l o at h, append_assoc, drop-drop)

pub no_room : (o l : List ℕ) (at : ℕ) → length o < at + length l → after o (Err refused) ≡ place_of o at l
unfolding place_of
no_room o l at h = rw (lt-leb (at + length l) (length o) h)

-- ---- how long the texts are

pub pair-length : (n : ℕ) → length (hex_pair n) ≡ 2
unfolding hex_pair
pair-length n = refl

pub hex-length : (n : ℕ) → length (hex_of n) ≡ 8
unfolding hex_of hex_pair
hex-length n = refl

-- a choice of two lists is no longer than both may be
cond-length : (m : ℕ) (t : Bool) (x y : List ℕ) → length x ≤ m → length y ≤ m → length (cond t x y) ≤ m
cond-length m true x y h k = h
cond-length m false x y h k = k

pub decimal-length : (k n : ℕ) → length (decimal_in k n) ≤ k + 1
unfolding decimal_in
decimal-length zero n = omega arith
decimal-length (suc k) n =
    cond-length (suc k + 1) (ltb n 10) (digit n ∷ []) (decimal_in k (n / 10) ++ digit n ∷ []) (omega arith)
    (omega (arith, length-append (decimal_in k (n / 10)) (digit n ∷ []), decimal-length k (n / 10)))

-- ---- a decimal number's digits, as the code takes them

pub decimal-cut : (k n : ℕ) → k ≡ 0 → decimal_in k n ≡ digit n ∷ []
unfolding decimal_in
decimal-cut k n e = rw e

pub decimal-one : (k n : ℕ) → (k ≡ 0 → ⊥) → n < 10 → decimal_in k n ≡ digit n ∷ []
unfolding decimal_in
decimal-one zero n z h = absurd (z refl)
decimal-one (suc k) n z h = rw (lt-ltb n 10 h)

pub decimal-more : (k n : ℕ) → (k ≡ 0 → ⊥) → 10 ≤ n → decimal_in k n ≡ decimal_in (k - 1) (n / 10) ++ digit n ∷ []
unfolding decimal_in
decimal-more zero n z h = absurd (z refl)
decimal-more (suc k) n z h =
    let e : suc k - 1 ≡ k = omega arith in
    rw (le-ltb n 10 h, e)

pub ruleset decimals = (append_assoc, length-append, decimal-length, decimal-cut, decimal-one, decimal-more)
