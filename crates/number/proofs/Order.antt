-- `lt` ON THE FLOATS THAT ARE NOT NaN IS A STRICT WEAK ORDER: asymmetric (`lt-asym`), transitive (`lt_trans`), and being alike, where neither is less, is transitive too (`alike-trans`).
-- Infinities and both zeros count, and a value need not fit a format, so it is one law for every format. What an order of keys needs is `not-less-trans`: 'is not less' is transitive through
-- a float that is not NaN. There `le` is total (`le-of-not-less`), and a sign turns the order round (`lt-neg`, `lt-neg-neg`). Assumes nothing.
use mathlib.Core.Path.{◌≡◌, refl, sym, ◌∙◌}
use mathlib.Core.Bool.{Bool, true, false, not, ◌&&◌, ◌||◌, true≢false}
use Prim.Native.Nat.{ℕ, zero, suc, ◌+◌, ◌*◌, ◌<◌, ◌≤◌}
use native.Mathlib.Nat.{le_trans, le_of_eq, mul_right_comm, mul-le-mul_right, le_of_mul-le-mul_right, mul-pos}
use native.Mathlib.Omega.{arith}
use lib.Dec.{ltb, eqb}
use borrow.Author.Tests.{ltb-true, ltb-false, le-ltb, eqb-false}
use lib.Ieee.{Float, nan, inf, fin, up, down, below, level, lt, le, eq, neg, is_nan}
use lib.Ieee.Fits.{down_pos}

-- ---- sizes: x / p, y / q and z / r, by cross products

-- x / p is at most y / q, and y / q at most z / r
cross : (x p y q z r : ℕ) → 0 < q → x * q ≤ y * p → y * r ≤ z * q → x * r ≤ z * p
cross x p y q z r some a b =
    le_of_mul-le-mul_right
    (le_trans (le_of_eq (mul_right_comm x r q))
    (le_trans (mul-le-mul_right r a)
    (le_trans (le_of_eq (mul_right_comm y p r))
    (le_trans (mul-le-mul_right p b) (le_of_eq (mul_right_comm z q p))))))
    some

-- a product with a factor above zero is zero only where the other factor is
no-factor : (x q : ℕ) → 0 < q → x * q ≤ 0 → x ≡ 0
no-factor zero q some h = refl
no-factor (suc x) q some h = let z : ⊥ = omega (arith, mul-pos {m = suc x} {n = q} (omega arith) some) in absurd z

no-product : (x q : ℕ) → x ≡ 0 → x * q ≡ 0
no-product x q e = rw e (omega arith)

-- ---- signed sizes

-- 'is not below' is transitive
below-through : (s t u : Bool) (x p y q z r : ℕ) → 0 < p → 0 < q → 0 < r → below s (x * q) t (y * p) ≡ false → below t (y * r) u (z * q) ≡ false → below s (x * r) u (z * p) ≡ false
below-through false t true x p y q z r hp hq hr a b = refl
below-through false false false x p y q z r hp hq hr a b = le-ltb (x * r) (z * p) (cross z r y q x p hq (ltb-false _ _ b) (ltb-false _ _ a))
below-through false true false x p y q z r hp hq hr a b =
    let none : y * r + z * q ≤ 0 = ltb-false 0 (y * r + z * q) b in
    let z0 : z ≡ 0 = no-factor z q hq (omega arith) in
    le-ltb (x * r) (z * p) (omega (arith, no-product z p z0))
below-through true false false x p y q z r hp hq hr a b =
    let none : x * q + y * p ≤ 0 = ltb-false 0 (x * q + y * p) a in
    let x0 : x ≡ 0 = no-factor x q hq (omega arith) in
    let y0 : y ≡ 0 = no-factor y p hp (omega arith) in
    let z0 : z ≡ 0 = no-factor z q hq (omega (arith, ltb-false (y * r) (z * q) b, no-product y r y0)) in
    le-ltb 0 (x * r + z * p) (omega (arith, no-product x r x0, no-product z p z0))
below-through true true false x p y q z r hp hq hr a b =
    let none : y * r + z * q ≤ 0 = ltb-false 0 (y * r + z * q) b in
    let z0 : z ≡ 0 = no-factor z q hq (omega arith) in
    let y0 : y ≡ 0 = no-factor y r hr (omega arith) in
    let x0 : x ≡ 0 = no-factor x q hq (omega (arith, ltb-false (y * p) (x * q) a, no-product y p y0)) in
    le-ltb 0 (x * r + z * p) (omega (arith, no-product x r x0, no-product z p z0))
below-through true false true x p y q z r hp hq hr a b =
    let none : x * q + y * p ≤ 0 = ltb-false 0 (x * q + y * p) a in
    let x0 : x ≡ 0 = no-factor x q hq (omega arith) in
    le-ltb (z * p) (x * r) (omega (arith, no-product x r x0))
below-through true true true x p y q z r hp hq hr a b = le-ltb (z * p) (x * r) (cross x p y q z r hq (ltb-false _ _ a) (ltb-false _ _ b))

below-asym : (s t : Bool) (a b : ℕ) → below s a t b ≡ true → below t b s a ≡ false
below-asym false false a b h = le-ltb b a (omega (arith, ltb-true a b h))
below-asym false true a b h = absurd (true≢false (sym h))
below-asym true false a b h = refl
below-asym true true a b h = le-ltb a b (omega (arith, ltb-true b a h))

-- of two that neither is below the other the sizes are level
below-level : (s t : Bool) (a b : ℕ) → below t b s a ≡ false → (below s a t b || level s a t b) ≡ true
below-level false false a b h = by (ltb a b) (eqb a b) refl refl
  where
    by : (p q : Bool) → ltb a b ≡ p → eqb a b ≡ q → (p || (q && true)) ≡ true
    by true q x y = refl
    by false true x y = refl
    by false false x y = absurd (eqb-false a b y (let l = ltb-false b a h in let m = ltb-false a b x in omega arith))
below-level false true a b h =
    let none : b + a ≤ 0 = ltb-false 0 (b + a) h in
    let a0 : a ≡ 0 = omega arith in
    let b0 : b ≡ 0 = omega arith in
    rw (a0, b0)
below-level true false a b h = by (ltb 0 (a + b)) refl
  where
    by : (p : Bool) → ltb 0 (a + b) ≡ p → (p || level true a false b) ≡ true
    by true x = refl
    by false x =
        let none : a + b ≤ 0 = ltb-false 0 (a + b) x in
        let a0 : a ≡ 0 = omega arith in
        let b0 : b ≡ 0 = omega arith in
        rw (a0, b0)
below-level true true a b h = by (ltb b a) (eqb a b) refl refl
  where
    by : (p q : Bool) → ltb b a ≡ p → eqb a b ≡ q → (p || (q && true)) ≡ true
    by true q x y = refl
    by false true x y = refl
    by false false x y = absurd (eqb-false a b y (let l = ltb-false a b h in let m = ltb-false b a x in omega arith))

-- ---- floats

-- a float that is less, or greater, than another is not NaN
pub less-not-nan : (x y : Float) → lt x y ≡ true → (is_nan x ≡ false) × (is_nan y ≡ false)
unfolding lt is_nan
less-not-nan nan y h = absurd (true≢false (sym h))
less-not-nan (inf s) nan h = absurd (true≢false (sym h))
less-not-nan (inf s) (inf t) h = (refl, refl)
less-not-nan (inf s) (fin t n d) h = (refl, refl)
less-not-nan (fin s m e) nan h = absurd (true≢false (sym h))
less-not-nan (fin s m e) (inf t) h = (refl, refl)
less-not-nan (fin s m e) (fin t n d) h = (refl, refl)

-- ASYMMETRIC, NaN or not
pub lt-asym : (x y : Float) → lt x y ≡ true → lt y x ≡ false
unfolding lt
lt-asym nan y h = absurd (true≢false (sym h))
lt-asym (inf s) nan h = absurd (true≢false (sym h))
lt-asym (inf true) (inf false) h = refl
lt-asym (inf true) (inf true) h = absurd (true≢false (sym h))
lt-asym (inf false) (inf t) h = absurd (true≢false (sym h))
lt-asym (inf true) (fin t n d) h = refl
lt-asym (inf false) (fin t n d) h = absurd (true≢false (sym h))
lt-asym (fin s m e) nan h = absurd (true≢false (sym h))
lt-asym (fin s m e) (inf true) h = absurd (true≢false (sym h))
lt-asym (fin s m e) (inf false) h = refl
lt-asym (fin s m e) (fin t n d) h = below-asym s t (m * up e * down d) (n * up d * down e) h

-- 'IS NOT LESS' IS TRANSITIVE through a float that is not NaN
pub not-less-trans : (x y z : Float) → is_nan y ≡ false → lt x y ≡ false → lt y z ≡ false → lt x z ≡ false
unfolding lt is_nan
not-less-trans nan y z r a b = refl
not-less-trans (inf s) nan z r a b = absurd (true≢false r)
not-less-trans (inf false) (inf t) nan r a b = refl
not-less-trans (inf false) (inf t) (inf u) r a b = refl
not-less-trans (inf false) (inf t) (fin u k g) r a b = refl
not-less-trans (inf false) (fin t n d) nan r a b = refl
not-less-trans (inf false) (fin t n d) (inf u) r a b = refl
not-less-trans (inf false) (fin t n d) (fin u k g) r a b = refl
not-less-trans (inf true) (inf false) z r a b = absurd (true≢false a)
not-less-trans (inf true) (inf true) nan r a b = refl
not-less-trans (inf true) (inf true) (inf true) r a b = refl
not-less-trans (inf true) (inf true) (inf false) r a b = absurd (true≢false b)
not-less-trans (inf true) (inf true) (fin u k g) r a b = absurd (true≢false b)
not-less-trans (inf true) (fin t n d) z r a b = absurd (true≢false a)
not-less-trans (fin s m e) nan z r a b = absurd (true≢false r)
not-less-trans (fin s m e) (inf false) z r a b = absurd (true≢false a)
not-less-trans (fin s m e) (inf true) nan r a b = refl
not-less-trans (fin s m e) (inf true) (inf true) r a b = refl
not-less-trans (fin s m e) (inf true) (inf false) r a b = absurd (true≢false b)
not-less-trans (fin s m e) (inf true) (fin u k g) r a b = absurd (true≢false b)
not-less-trans (fin s m e) (fin t n d) nan r a b = refl
not-less-trans (fin s m e) (fin t n d) (inf true) r a b = refl
not-less-trans (fin s m e) (fin t n d) (inf false) r a b = absurd (true≢false b)
not-less-trans (fin s m e) (fin t n d) (fin u k g) r a b =
    below-through s t u (m * up e) (down e) (n * up d) (down d) (k * up g) (down g) (down_pos e) (down_pos d) (down_pos g) a b

-- TRANSITIVE, NaN or not
pub lt_trans : (x y z : Float) → lt x y ≡ true → lt y z ≡ true → lt x z ≡ true
lt_trans x y z a b = by (lt x z) refl
  where
    by : (p : Bool) → lt x z ≡ p → p ≡ true
    by true e = refl
    by false e = absurd (true≢false (sym a ∙ not-less-trans x z y (less-not-nan y z b).1 e (lt-asym y z b)))

-- neither is less than the other
abbrev pub Alike : Float → Float → Type 0
Alike x y = (lt x y ≡ false) × (lt y x ≡ false)

-- ALIKE IS TRANSITIVE through a float that is not NaN
pub alike-trans : (x y z : Float) → is_nan y ≡ false → Alike x y → Alike y z → Alike x z
alike-trans x y z r a b = (not-less-trans x y z r a.0 b.0, not-less-trans z y x r b.1 a.1)

-- no float is less than itself
pub lt_irrefl : (x : Float) → lt x x ≡ false
lt_irrefl x = by (lt x x) refl
  where
    by : (p : Bool) → lt x x ≡ p → p ≡ false
    by true e = sym e ∙ lt-asym x x e
    by false e = refl

-- LESS OR EQUAL IS TOTAL where there is no NaN
pub le-of-not-less : (x y : Float) → is_nan x ≡ false → is_nan y ≡ false → lt y x ≡ false → le x y ≡ true
unfolding le lt eq is_nan
le-of-not-less nan y r q h = absurd (true≢false r)
le-of-not-less (inf s) nan r q h = absurd (true≢false q)
le-of-not-less (inf true) (inf true) r q h = refl
le-of-not-less (inf true) (inf false) r q h = refl
le-of-not-less (inf false) (inf true) r q h = absurd (true≢false h)
le-of-not-less (inf false) (inf false) r q h = refl
le-of-not-less (inf true) (fin t n d) r q h = refl
le-of-not-less (inf false) (fin t n d) r q h = absurd (true≢false h)
le-of-not-less (fin s m e) nan r q h = absurd (true≢false q)
le-of-not-less (fin s m e) (inf true) r q h = absurd (true≢false h)
le-of-not-less (fin s m e) (inf false) r q h = refl
le-of-not-less (fin s m e) (fin t n d) r q h = below-level s t (m * up e * down d) (n * up d * down e) h

-- ---- the sign

below-neg : (s t : Bool) (a b : ℕ) → below s a (not t) b ≡ below t b (not s) a
below-neg false false a b = refl
below-neg false true a b = refl
below-neg true false a b = refl
below-neg true true a b = rw (native.Mathlib.Nat.add_comm a b)

-- x is less than -y exactly where y is less than -x
pub lt-neg : (x y : Float) → lt x (neg y) ≡ lt y (neg x)
unfolding lt neg
lt-neg nan nan = refl
lt-neg nan (inf t) = refl
lt-neg nan (fin t n d) = refl
lt-neg (inf s) nan = refl
lt-neg (inf true) (inf true) = refl
lt-neg (inf true) (inf false) = refl
lt-neg (inf false) (inf true) = refl
lt-neg (inf false) (inf false) = refl
lt-neg (inf true) (fin t n d) = refl
lt-neg (inf false) (fin t n d) = refl
lt-neg (fin s m e) nan = refl
lt-neg (fin s m e) (inf true) = refl
lt-neg (fin s m e) (inf false) = refl
lt-neg (fin s m e) (fin t n d) = below-neg s t (m * up e * down d) (n * up d * down e)

neg-neg : (x : Float) → neg (neg x) ≡ x
unfolding neg
neg-neg nan = refl
neg-neg (inf true) = refl
neg-neg (inf false) = refl
neg-neg (fin true m e) = refl
neg-neg (fin false m e) = refl

-- both signs turned
pub lt-neg-neg : (x y : Float) → lt (neg x) (neg y) ≡ lt y x
lt-neg-neg x y = lt-neg (neg x) y ∙ rw (neg-neg x)

-- the sign makes no NaN
pub neg-not-nan : (x : Float) → is_nan (neg x) ≡ is_nan x
unfolding neg is_nan
neg-not-nan nan = refl
neg-not-nan (inf s) = refl
neg-not-nan (fin s m e) = refl
