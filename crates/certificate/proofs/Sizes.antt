-- How large sums and products of whole numbers are, and so that the product of two vectors on the grid fits 64 bits. Assumes nothing.
use Prim.Native.Nat.{ℕ, zero, suc, ◌+◌, ◌*◌, ◌-◌, ◌^◌, ◌≤◌, ◌<◌}
use mathlib.Core.Path.{◌≡◌, refl, sym, ◌∙◌}
use mathlib.Core.Bool.{Bool, true, false, cond, ◌&&◌, and-true}
use native.Mathlib.Nat.{le_refl, mul-le-mul}
use native.Mathlib.Omega.{arith}
use borrow.Author.Tests.{leb-true, ltb-true}
use lib.Dec.{leb, ltb, leb-suc-suc}
use lib.IntN.{ℤ, pos, negsuc, neg_ℤ, nat_abs, sub_ℕ, ◌+ℤ◌, ◌*ℤ◌}
use lib.Signed.{mag, le_z}
use mir.Syntax.{w32, w64}
use mir.Val.{SFits, to_z, of_z}
use mir.Facts.{to_z-of_z}
use Rattle.certificate.specs.declared.GridVector.{GridVector}
use Rattle.certificate.specs.Certificate.{on_grid, vector_on_grid}
use Rattle.certificate.proofs.Tests.{split}

-- the two comparisons of the code are the test of the definition
pub range-tested : (n : ℤ) → le_z (negsuc 1_048_575) n && le_z n (pos 1_048_576) ≡ on_grid n
unfolding on_grid
range-tested (pos n) = refl
range-tested (negsuc n) = and-true (leb n 1_048_575) ∙ sym (leb-suc-suc n 1_048_575)

size-of-minus : (n : ℕ) → nat_abs (neg_ℤ (pos n)) ≡ n
size-of-minus zero = refl
size-of-minus (suc n) = refl

pub size-of-product : (a b : ℤ) → nat_abs (a *ℤ b) ≡ nat_abs a * nat_abs b
size-of-product (pos a) (pos b) = refl
size-of-product (pos a) (negsuc b) = size-of-minus (a * suc b)
size-of-product (negsuc a) (pos b) = size-of-minus (suc a * b)
size-of-product (negsuc a) (negsuc b) = refl

size-of-difference : (a b : ℕ) → nat_abs (sub_ℕ a b) ≤ a + b
size-of-difference a b = by (ltb a b) refl
  where
    by : (t : Bool) → ltb a b ≡ t → nat_abs (cond t (negsuc (b - suc a)) (pos (a - b))) ≤ a + b
    by true e = omega (arith, ltb-true a b e)
    by false e = omega arith

pub size-of-sum : (a b : ℤ) → nat_abs (a +ℤ b) ≤ nat_abs a + nat_abs b
size-of-sum (pos a) (pos b) = le_refl (a + b)
size-of-sum (pos a) (negsuc b) = size-of-difference a (suc b)
size-of-sum (negsuc a) (pos b) = let h : nat_abs (sub_ℕ b (suc a)) ≤ b + suc a = size-of-difference b (suc a) in omega arith
size-of-sum (negsuc a) (negsuc b) = omega arith

mag-below : (z : ℤ) → mag z ≤ nat_abs z
mag-below (pos n) = le_refl n
mag-below (negsuc n) = omega arith

pub small-fits : (z : ℤ) → nat_abs z < 2 ^ 63 → SFits w64 z
small-fits z h = let k : mag z ≤ nat_abs z = mag-below z in record { sfits = omega arith }

-- ---- on the grid
grid-size : (n : ℤ) → on_grid n ≡ true → nat_abs n ≤ 1_048_576
unfolding on_grid
grid-size n h = leb-true (nat_abs n) 1_048_576 h

pub grid-fits : (n : ℤ) → on_grid n ≡ true → SFits w32 n
grid-fits n h =
    let k : nat_abs n ≤ 1_048_576 = grid-size n h in
    let m : mag n ≤ nat_abs n = mag-below n in
    record { sfits = omega arith }

grid-product : (a b : ℤ) → on_grid a ≡ true → on_grid b ≡ true → nat_abs (a *ℤ b) ≤ 2 ^ 40
grid-product a b f g =
    let e : nat_abs (a *ℤ b) ≡ nat_abs a * nat_abs b = size-of-product a b in
    let h : nat_abs a * nat_abs b ≤ 1_048_576 * 1_048_576 = mul-le-mul (grid-size a f) (grid-size b g) in
    omega arith

-- each part of a product of two vectors on the grid, and its sums, fit 64 bits
pub record Fitting (d c : GridVector) : Type 0 where
  pub first : SFits w64 (d.x *ℤ c.x)
  pub second : SFits w64 (d.y *ℤ c.y)
  pub third : SFits w64 (d.z *ℤ c.z)
  pub two : SFits w64 (d.x *ℤ c.x +ℤ d.y *ℤ c.y)
  pub three : SFits w64 (d.x *ℤ c.x +ℤ d.y *ℤ c.y +ℤ d.z *ℤ c.z)

sums-fit : (p q r : ℤ) → nat_abs p ≤ 2 ^ 40 → nat_abs q ≤ 2 ^ 40 → nat_abs r ≤ 2 ^ 40 → SFits w64 (p +ℤ q) × SFits w64 (p +ℤ q +ℤ r)
sums-fit p q r f g h =
    let two : nat_abs (p +ℤ q) ≤ nat_abs p + nat_abs q = size-of-sum p q in
    let three : nat_abs (p +ℤ q +ℤ r) ≤ nat_abs (p +ℤ q) + nat_abs r = size-of-sum (p +ℤ q) r in
    (small-fits (p +ℤ q) (omega arith), small-fits (p +ℤ q +ℤ r) (omega arith))

pub on-grid-fits : (d c : GridVector) → vector_on_grid d ≡ true → vector_on_grid c ≡ true → Fitting d c
unfolding vector_on_grid
on-grid-fits d c h k =
    let hz = split (on_grid d.x && on_grid d.y) (on_grid d.z) h in
    let hx = split (on_grid d.x) (on_grid d.y) hz.0 in
    let kz = split (on_grid c.x && on_grid c.y) (on_grid c.z) k in
    let kx = split (on_grid c.x) (on_grid c.y) kz.0 in
    let p : nat_abs (d.x *ℤ c.x) ≤ 2 ^ 40 = grid-product d.x c.x hx.0 kx.0 in
    let q : nat_abs (d.y *ℤ c.y) ≤ 2 ^ 40 = grid-product d.y c.y hx.1 kx.1 in
    let r : nat_abs (d.z *ℤ c.z) ≤ 2 ^ 40 = grid-product d.z c.z hz.1 kz.1 in
    let sums = sums-fit (d.x *ℤ c.x) (d.y *ℤ c.y) (d.z *ℤ c.z) p q r in
    record {
      first = small-fits (d.x *ℤ c.x) (omega arith);
      second = small-fits (d.y *ℤ c.y) (omega arith);
      third = small-fits (d.z *ℤ c.z) (omega arith);
      two = sums.0;
      three = sums.1;
    }

-- a number is read back from its bits
pub back-32 : (z : ℤ) → mag z < 2 ^ 31 → to_z w32 (of_z w32 z) ≡ z
back-32 z h = to_z-of_z {w = w32} (record { sfits = h })

pub back-64 : (z : ℤ) → mag z < 2 ^ 63 → to_z w64 (of_z w64 z) ≡ z
back-64 z h = to_z-of_z {w = w64} (record { sfits = h })
