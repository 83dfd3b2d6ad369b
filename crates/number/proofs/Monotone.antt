-- THE ROOT KEEPS THE ORDER, for any format: of two numbers above zero the larger has the larger root, or the same (`root-mono`). So the larger of two roots is the root of the larger (`larger-root`),
-- for all values of the format: a negative number's root is a NaN, which `larger` passes over, and a zero is its own root. Assumes nothing.
-- That both are values of the format is asked: the root of `fin false 0 (pos 1)`, a zero not written in the one way, is itself, and that of a number far below the format's smallest is +0.
use mathlib.Core.Path.{◌≡◌, refl, sym}
use mathlib.Core.Logic.{inl, inr}
use mathlib.Core.Bool.{Bool, true, false, cond}
use Prim.Native.Nat.{ℕ, zero, suc, ◌+◌, ◌*◌, ◌^◌, ◌≤◌, ◌<◌}
use native.Mathlib.Nat.{le_of_lt, not-le_of_lt, le_antisymm, mul-pos, mul-le-mul_right, le_of_mul-le-mul_right, zero-lt-suc}
use native.Mathlib.Omega.{arith}
use lib.Dec.{T, lt→ltb}
use lib.IntN.{ℤ}
use lib.Pow.{pow_pos}
use lib.Ieee.{Float, nan, inf, fin, Format, low, up, down, lt, is_nan, fits}
use lib.Ieee.Fits.{up_pos, down_pos}
use lib.Ieee.Order.{transfer}
use lib.Ieee.Positive.{positive, positive-finite, num, den, den_pos, value→cross}
use borrow.Author.Tests.{ltb-false, ltb-true, lt-ltb}
use Rattle.number.specs.Root.{count, square, root}
use Rattle.number.specs.Small.{minus_sign, larger}
use Rattle.number.proofs.Schoolbook.{lt-or-le}
use Rattle.number.proofs.Values.{positive-plus}
use Rattle.number.proofs.Patterns.{count-exact}
use Rattle.number.proofs.Laws.{positive-same, root_is}
use Rattle.number.proofs.Order.{less-not-nan, lt-asym}

-- ---- which of the two `larger` takes
pub larger-right : (x y : Float) → lt x y ≡ true → larger x y ≡ y
unfolding larger
larger-right x y h = let n = less-not-nan x y h in rw (n.0, n.1, h)

pub larger-left : (x y : Float) → lt y x ≡ true → larger x y ≡ x
unfolding larger
larger-left x y h = let n = less-not-nan y x h in rw (n.1, n.0, lt-asym y x h, h)

pub larger-same : (x : Float) → larger x x ≡ x
unfolding larger
larger-same x = by (is_nan x) (lt x x) (minus_sign x)
  where
    by : (a b c : Bool) → cond a x (cond a x (cond b x (cond b x (cond c x x)))) ≡ x
    by true b c = refl
    by false true c = refl
    by false false true = refl
    by false false false = refl

-- a NaN is passed over, and nothing is above +∞
nan_left : (y : Float) → larger nan y ≡ y
unfolding larger is_nan
nan_left y = refl

nan_right : (x : Float) → larger x nan ≡ x
unfolding larger is_nan
nan_right nan = refl
nan_right (inf s) = refl
nan_right (fin s m e) = refl

infinity-left : (y : Float) → larger (inf false) y ≡ inf false
unfolding larger is_nan lt
infinity-left nan = refl
infinity-left (inf true) = refl
infinity-left (inf false) = refl
infinity-left (fin t n d) = refl

infinity-right : (x : Float) → larger x (inf false) ≡ inf false
unfolding larger is_nan lt
infinity-right nan = refl
infinity-right (inf true) = refl
infinity-right (inf false) = refl
infinity-right (fin s m e) = refl

-- ---- the order of numbers above zero is that of their counts
cross : (f : Format) (x : Float) → T (positive x) → T (fits f x) → num x * 2 ^ low f ≡ count f x * den x
cross f x p t = value→cross x (count f x) (2 ^ low f) (rw (positive-plus x p) at (count-exact f x t (positive-finite x p)))

lt-cross : (x y : Float) → T (positive x) → T (positive y) → (lt x y ≡ true → num x * den y ≤ num y * den x) × (lt x y ≡ false → num y * den x ≤ num x * den y)
unfolding lt
lt-cross nan y p q = absurd p
lt-cross (inf s) y p q = absurd p
lt-cross (fin true m e) y p q = absurd p
lt-cross (fin false m e) nan p q = absurd q
lt-cross (fin false m e) (inf t) p q = absurd q
lt-cross (fin false m e) (fin true n d) p q = absurd q
lt-cross (fin false m e) (fin false n d) p q = (λ h. le_of_lt (ltb-true (m * up e * down d) (n * up d * down e) h), λ h. ltb-false (m * up e * down d) (n * up d * down e) h)

count_by : (f : Format) (x y : Float) → T (positive x) → T (positive y) → T (fits f x) → T (fits f y) → num x * den y ≤ num y * den x → count f x ≤ count f y
count_by f x y p q s t h =
    le_of_mul-le-mul_right
    (transfer (count f x) (count f y) (2 ^ low f) (2 ^ low f) (num x) (num y) (den x) (den y) (den_pos x) (den_pos y) (sym (cross f x p s)) (sym (cross f y q t)) h)
    (pow_pos (low f))

pub count_less : (f : Format) (x y : Float) → T (positive x) → T (positive y) → T (fits f x) → T (fits f y) → lt x y ≡ true → count f x ≤ count f y
count_less f x y p q s t h = count_by f x y p q s t ((lt-cross x y p q).0 h)

pub count-not-less : (f : Format) (x y : Float) → T (positive x) → T (positive y) → T (fits f x) → T (fits f y) → lt x y ≡ false → count f y ≤ count f x
count-not-less f x y p q s t h = count_by f y x q p t s ((lt-cross x y p q).1 h)

pub less-by-count : (f : Format) (x y : Float) → T (positive x) → T (positive y) → T (fits f x) → T (fits f y) → count f x < count f y → lt x y ≡ true
less-by-count f x y p q s t h = by (lt x y) refl
  where
    by : (b : Bool) → lt x y ≡ b → b ≡ true
    by true e = refl
    by false e = absurd (not-le_of_lt h (count-not-less f x y p q s t e))

-- ---- the root keeps the order
-- were x's root y above z, the root of a w that is no less: √x is above their middle, and √w below
pub root-mono : (f : Format) (x w : Float) → T (positive x) → T (positive w) → T (fits f x) → T (fits f w) → count f x ≤ count f w → count f (root f x) ≤ count f (root f w)
unfolding square
root-mono f x w p q s t h =
    let y = root_is f x p s in
    let z = root_is f w q t in
    elim (lt-or-le (count f (root f w)) (count f (root f x))) [
      | inl l ↦ absurd (omega (arith, y.under (root f w) z.held l, z.over (root f x) y.held l, mul-le-mul_right (2 ^ low f) h))
      | inr g ↦ g
    ]

-- of two numbers above zero of a format the larger is known by the counts
larger-by-count : (f : Format) (x y : Float) → T (positive x) → T (positive y) → T (fits f x) → T (fits f y) → count f x ≤ count f y → (larger x y ≡ y) × (larger y x ≡ y)
larger-by-count f x y p q s t h = elim (lt-or-le (count f x) (count f y)) [
  | inl l ↦ let e = less-by-count f x y p q s t l in (larger-right x y e, larger-left y x e)
  | inr g ↦ rw (positive-same f x y p q s t (le_antisymm h g)) (larger-same y, larger-same y)
]

roots : (f : Format) (x w : Float) → T (positive x) → T (positive w) → T (fits f x) → T (fits f w) → count f x ≤ count f w → (larger (root f x) (root f w) ≡ root f w) × (larger (root f w) (root f x) ≡ root f w)
roots f x w p q s t h =
    let y = root_is f x p s in
    let z = root_is f w q t in
    larger-by-count f (root f x) (root f w) y.above_zero z.above_zero y.held z.held (root-mono f x w p q s t h)

-- both above zero
above : (f : Format) (a b : Float) → T (positive a) → T (positive b) → T (fits f a) → T (fits f b) → larger (root f a) (root f b) ≡ root f (larger a b)
above f a b p q s t = by (lt a b) refl
  where
    by : (l : Bool) → lt a b ≡ l → larger (root f a) (root f b) ≡ root f (larger a b)
    by true e = rw (larger-right a b e) (roots f a b p q s t (count_less f a b p q s t e)).0
    by false e = let h = count-not-less f a b p q s t e in rw (larger-by-count f b a q p t s h).1 (roots f b a q p t s h).1

-- ---- a negative number, of which the root is a NaN, is below the zeros and what is above zero; and a zero is below what is above zero
some : (m : ℕ) (e d : ℤ) → 0 < suc m * up e * down d
some m e d = mul-pos (mul-pos (zero-lt-suc m) (up_pos e)) (down_pos d)

none : (e d : ℤ) → 0 * up e * down d ≡ 0
none e d = omega arith

minus_plus : (m n : ℕ) (e d : ℤ) → lt (fin true (suc m) e) (fin false n d) ≡ true
unfolding lt
minus_plus m n e d = lt-ltb 0 (suc m * up e * down d + n * up d * down e) (omega (arith, some m e d))

minus-zero : (m : ℕ) (t : Bool) (e d : ℤ) → lt (fin true (suc m) e) (fin t 0 d) ≡ true
unfolding lt
minus-zero m true e d = lt-ltb (0 * up d * down e) (suc m * up e * down d) (omega (arith, some m e d, none d e))
minus-zero m false e d = minus_plus m 0 e d

zero-plus : (s : Bool) (n : ℕ) (e d : ℤ) → lt (fin s 0 e) (fin false (suc n) d) ≡ true
unfolding lt
zero-plus true n e d = lt-ltb 0 (0 * up e * down d + suc n * up d * down e) (omega (arith, some n d e))
zero-plus false n e d = lt-ltb (0 * up e * down d) (suc n * up d * down e) (omega (arith, some n d e, none e d))

-- a zero is below any number above zero
zero-below : (s : Bool) (e : ℤ) (y : Float) → T (positive y) → lt (fin s 0 e) y ≡ true
zero-below s e nan p = absurd p
zero-below s e (inf t) p = absurd p
zero-below s e (fin true n d) p = absurd p
zero-below s e (fin false zero d) p = absurd p
zero-below s e (fin false (suc n) d) p = zero-plus s n e d

-- what holds of both holds of the larger
larger-one : (P : Float → Type 0) (x y : Float) → P x → P y → P (larger x y)
unfolding larger
larger-one P x y p q = by (is_nan x) (is_nan y) (lt x y) (lt y x) (minus_sign x)
  where
    by : (a b c d e : Bool) → P (cond a y (cond b x (cond c y (cond d x (cond e y x)))))
    by true b c d e = q
    by false true c d e = p
    by false false true d e = q
    by false false false true e = p
    by false false false false true = q
    by false false false false false = p

-- ---- the root of each kind of value
plus : (m : ℕ) (e : ℤ) → T (positive (fin false (suc m) e))
plus m e = lt→ltb 0 (suc m) (zero-lt-suc m)

root-zero : (f : Format) (s : Bool) (e : ℤ) → root f (fin s 0 e) ≡ fin s 0 e
unfolding root
root-zero f s e = refl

root-minus : (f : Format) (m : ℕ) (e : ℤ) → root f (fin true (suc m) e) ≡ nan
unfolding root
root-minus f m e = refl

-- ---- two finite numbers: what is below zero has a NaN for a root, and what is above zero a root above zero
finite : (f : Format) (m n : ℕ) (s t : Bool) (e d : ℤ) → T (fits f (fin s m e)) → T (fits f (fin t n d)) → larger (root f (fin s m e)) (root f (fin t n d)) ≡ root f (larger (fin s m e) (fin t n d))
finite f zero zero s t e d p q =
    rw (root-zero f s e, root-zero f t d) (sym (larger-one (λ (z : Float). root f z ≡ z) (fin s 0 e) (fin t 0 d) (root-zero f s e) (root-zero f t d)))
finite f zero (suc n) s true e d p q = rw (root-minus f n d, larger-left (fin s 0 e) (fin true (suc n) d) (minus-zero n s d e)) (nan_right (root f (fin s 0 e)))
finite f zero (suc n) s false e d p q =
    let b = fin false (suc n) d in
    rw (root-zero f s e, larger-right (fin s 0 e) b (zero-plus s n e d)) (larger-right (fin s 0 e) (root f b) (zero-below s e (root f b) (root_is f b (plus n d) q).above_zero))
finite f (suc m) zero true t e d p q = rw (root-minus f m e, larger-right (fin true (suc m) e) (fin t 0 d) (minus-zero m t e d)) (nan_left (root f (fin t 0 d)))
finite f (suc m) zero false t e d p q =
    let a = fin false (suc m) e in
    rw (root-zero f t d, larger-left a (fin t 0 d) (zero-plus t m d e)) (larger-left (root f a) (fin t 0 d) (zero-below t d (root f a) (root_is f a (plus m e) p).above_zero))
finite f (suc m) (suc n) true true e d p q =
    rw (root-minus f m e, root-minus f n d, nan_left nan) (sym (larger-one (λ (z : Float). root f z ≡ nan) (fin true (suc m) e) (fin true (suc n) d) (root-minus f m e) (root-minus f n d)))
finite f (suc m) (suc n) true false e d p q = rw (root-minus f m e, larger-right (fin true (suc m) e) (fin false (suc n) d) (minus_plus m (suc n) e d)) (nan_left (root f (fin false (suc n) d)))
finite f (suc m) (suc n) false true e d p q = rw (root-minus f n d, larger-left (fin false (suc m) e) (fin true (suc n) d) (minus_plus n (suc m) d e)) (nan_right (root f (fin false (suc m) e)))
finite f (suc m) (suc n) false false e d p q = above f (fin false (suc m) e) (fin false (suc n) d) (plus m e) (plus n d) p q

-- THE LARGER OF TWO ROOTS IS THE ROOT OF THE LARGER
pub larger-root : (f : Format) (a b : Float) → T (fits f a) → T (fits f b) → larger (root f a) (root f b) ≡ root f (larger a b)
unfolding root larger is_nan lt
larger-root f nan b p q = refl
larger-root f (inf true) nan p q = refl
larger-root f (inf true) (inf true) p q = refl
larger-root f (inf true) (inf false) p q = refl
larger-root f (inf true) (fin t n d) p q = refl
larger-root f (inf false) nan p q = refl
larger-root f (inf false) (inf true) p q = refl
larger-root f (inf false) (inf false) p q = refl
larger-root f (inf false) (fin t n d) p q = infinity-left (root f (fin t n d))
larger-root f (fin s m e) nan p q = nan_right (root f (fin s m e))
larger-root f (fin s m e) (inf true) p q = nan_right (root f (fin s m e))
larger-root f (fin s m e) (inf false) p q = infinity-right (root f (fin s m e))
larger-root f (fin s m e) (fin t n d) p q = finite f m n s t e d p q

-- what the law asks holds of the larger of two again, and of a root; and of every sum, difference, product and quotient (`add-fits` and its like, of `lib.Ieee.Fits`)
pub larger-fits : (f : Format) (a b : Float) → T (fits f a) → T (fits f b) → T (fits f (larger a b))
larger-fits f a b p q = larger-one (λ (z : Float). T (fits f z)) a b p q

pub root-fits : (f : Format) (x : Float) → T (fits f x) → T (fits f (root f x))
unfolding root fits
root-fits f nan p = tt
root-fits f (inf true) p = tt
root-fits f (inf false) p = tt
root-fits f (fin s zero e) p = p
root-fits f (fin true (suc m) e) p = tt
root-fits f (fin false (suc m) e) p = (root_is f (fin false (suc m) e) (plus m e) p).held
