-- One face more is live, or is not. Assumes nothing.
use mathlib.Core.Path.{◌≡◌, refl}
use mathlib.Core.List.{List}
use Prim.Native.Nat.{ℕ, zero, suc, ◌+◌, ◌≤◌}
use native.Mathlib.Numerals.{add-one}
use native.Mathlib.Omega.{arith}
use lib.ListN.{get_or}
use Rattle.epa_polytope.specs.Stores.{one_if_zero, live_to}

one-most : (x : ℕ) → one_if_zero x ≤ 1
one-most zero = omega arith
one-most (suc x) = omega arith

pub live_most : (n : ℕ) (d : List ℕ) → live_to n d ≤ n
unfolding live_to
live_most zero d = omega arith
live_most (suc n) d = omega (arith, live_most n d, one-most (get_or d n 1))

one-zero : (x : ℕ) → x ≡ 0 → one_if_zero x ≡ 1
one-zero x e = rw e

one-other : (x : ℕ) → (x ≡ 0 → ⊥) → one_if_zero x ≡ 0
one-other zero h = absurd (h refl)
one-other (suc x) h = refl

pub live_more : (i : ℕ) (d : List ℕ) (n : ℕ) {m : ℕ} → get_or d i 1 ≡ 0 → n ≡ live_to i d → m ≡ n + 1 → m ≡ live_to (i + 1) d
unfolding live_to
live_more i d n z e q = rw (add-one i) (omega (arith, one-zero _ z))

pub live_same : (i : ℕ) (d : List ℕ) (n : ℕ) {m : ℕ} → (get_or d i 1 ≡ 0 → ⊥) → n ≡ live_to i d → m ≡ n → m ≡ live_to (i + 1) d
unfolding live_to
live_same i d n z e q = rw (add-one i) (omega (arith, one-other _ z))
