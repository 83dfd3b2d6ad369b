-- The numbers of demand 3. Assumes nothing.
use mathlib.Core.Path.{◌≡◌}
use Prim.Native.Nat.{ℕ, suc, ◌+◌, ◌*◌, ◌≤◌}
use native.Mathlib.Nat.{mul-le-mul, suc-mul, mul-suc}
use native.Mathlib.Omega.{arith}
use Rattle.epa_polytope.specs.Bounds.{bound}

pub bound-zero : (f : ℕ) → bound f 0 ≡ f
unfolding bound
bound-zero f = omega arith

pub bound-suc : (f k : ℕ) → bound f (suc k) ≡ bound f k + (f + 2 * suc k)
unfolding bound
bound-suc f k = omega (arith, suc-mul k f, suc-mul k (suc k + 1), mul-suc k (k + 1))

pub bound-most : (f k : ℕ) → f ≤ 4 → k ≤ 101 → bound f k ≤ 10710
unfolding bound
bound-most f k hf hk =
    let a : k * f ≤ 101 * 4 = mul-le-mul hk hf in
    let c : k + 1 ≤ 102 = omega arith in
    let b : k * (k + 1) ≤ 101 * 102 = mul-le-mul hk c in
    omega arith
