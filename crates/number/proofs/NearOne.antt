-- NEXT TO 1 A ROOT IS READ OFF THE PATTERN, for any format: k steps from 1 the root lies half as many from it, rounded down in the pattern (`above-one`, `below_one`). Assumes nothing.
-- Why: next to the root of a * (a + k) lies the middle of the two, a + k / 2, whose square is another by (k / 2) * (k / 2), less a where k is odd. While that is below a, the root is rounded to the
-- middle (`middle`). With a for 2 ^ (prec - 1), 1's own significand, that is the root of a number above 1; with a + k for 2 ^ prec it is the root of one below 1.
use mathlib.Core.Path.{◌≡◌, refl, sym, ap, ◌∙◌, subst}
use mathlib.Core.Logic.{◌⊎◌, inl, inr}
use Prim.Native.Nat.{ℕ, suc, ◌+◌, ◌-◌, ◌*◌, ◌/◌, ◌^◌, ◌≤◌, ◌<◌}
use native.Mathlib.Nat.{lt_of_lt_of_le, lt_of_le_of_lt, mul_comm, mul-pos, mul-le-mul, pow-succ'}
use native.Mathlib.Omega.{arith}
use lib.Dec.{T, lit≤}
use lib.Pow.{pow_pos}
use lib.Ieee.{Format, binary32, binary64, of_bits, prec, emax, low, hid, ones}
use lib.Ieee.Fits.{two}
use lib.Ieee.Positive.{positive, positive_of_value}
use Rattle.number.specs.Root.{square, IsRoot}
use Rattle.number.specs.Digits.{Rounded, RootAt}
use Rattle.number.proofs.Schoolbook.{lt-or-le}
use Rattle.number.proofs.Patterns.{hid-pos, twice_hid, high_value}
use Rattle.number.proofs.Width.{taken, halved, put, high-square}

-- ---- whole numbers: the root of a * (a + k), with a c for k / 2
middle-even : (a c : ℕ) → c * c < a → Rounded (a * (a + 2 * c)) (a + c)
middle-even a c h = record { from = omega arith; upto = omega arith }

middle-odd : (a c : ℕ) → c * c < a → Rounded (a * (a + (2 * c + 1))) (a + c)
middle-odd a c h = record { from = omega arith; upto = omega arith }

parity : (k : ℕ) → (k ≡ 2 * (k / 2)) ⊎ (k ≡ 2 * (k / 2) + 1)
parity k = elim (lt-or-le (2 * (k / 2)) k) [ inl l ↦ inr (omega arith) | inr g ↦ inl (omega arith) ]

pub middle : (a k : ℕ) → k / 2 * (k / 2) < a → Rounded (a * (a + k)) (a + k / 2)
middle a k h = elim (parity k) [
  | inl e ↦ subst (λ (i : ℕ). Rounded (a * (a + i)) (a + k / 2)) (sym e) (middle-even a (k / 2) h)
  | inr e ↦ subst (λ (i : ℕ). Rounded (a * (a + i)) (a + k / 2)) (sym e) (middle-odd a (k / 2) h)
]

-- ---- patterns: the root of t * 2 ^ (prec - 1 + j), by the root q of what is left of it without a 4 ^ i
-- a number of an even exponent, 2 * i, and one of an odd
even-root : (f : Format) (t i q : ℕ) → hid f ≤ t → t < 2 ^ prec f → suc i < ones f → Rounded (t * hid f) q → RootAt f (t * 2 ^ (prec f - 1 + 2 * i)) (of_bits f (i * hid f + q))
even-root f t i q lo hi g r =
    let half : 2 * i / 2 ≡ i = omega arith in
    let none : prec f - 1 + (2 * i - 2 * (2 * i / 2)) ≡ prec f - 1 = omega arith in
    λ x s.
    (put f (t * hid f) i q g (rw none at (taken f t (2 * i) lo hi)) r).1 x
    (s ∙ halved t (prec f - 1) (2 * i) ∙ rw (none, half))

odd-root : (f : Format) (t i q : ℕ) → hid f ≤ t → t < 2 ^ prec f → suc i < ones f → Rounded (t * (2 * hid f)) q → RootAt f (t * 2 ^ (prec f - 1 + (2 * i + 1))) (of_bits f (i * hid f + q))
odd-root f t i q lo hi g r =
    let half : (2 * i + 1) / 2 ≡ i = omega arith in
    let one : prec f - 1 + (2 * i + 1 - 2 * ((2 * i + 1) / 2)) ≡ suc (prec f - 1) = omega arith in
    λ x s.
    (put f (t * (2 * hid f)) i q g (rw (one, pow-succ' 2 (prec f - 1)) at (taken f t (2 * i + 1) lo hi)) r).1 x
    (s ∙ halved t (prec f - 1) (2 * i + 1) ∙ rw (one, half, pow-succ' 2 (prec f - 1)))

-- of a format this asks that 1 / 2 is among its values with a leading digit
far : (f : Format) → 2 ≤ emax f
far binary32 = lit≤ tt
far binary64 = lit≤ tt

-- ---- a value with a leading digit, by its significand t and its exponent i
record Normal (f : Format) (i t : ℕ) : Type 0 where
  plus : T (positive (of_bits f (i * hid f + t)))
  counted : square f (of_bits f (i * hid f + t)) ≡ t * 2 ^ (i + low f)

normal : (f : Format) (i t : ℕ) → hid f ≤ t → t < 2 ^ prec f → suc i < ones f → Normal f i t
normal f i t lo hi g =
    let d = t - hid f in
    let less : d < hid f = omega (arith, twice_hid f) in
    let whole : hid f + d ≡ t = omega arith in
    let apart : suc i * hid f + d ≡ i * hid f + t = join i (hid f) d t whole in
    record {
      plus = rw apart at (positive_of_value (of_bits f (suc i * hid f + d)) ((hid f + d) * 2 ^ i) (2 ^ low f) (high_value f i d less g) (mul-pos (lt_of_lt_of_le (hid-pos f) (omega arith)) (pow_pos i)));
      counted = rw (apart, whole) at (high-square f i d (i + low f) less g refl);
    }
  where
    join : (k h d q : ℕ) → h + d ≡ q → suc k * h + d ≡ k * h + q
    join k h d q e = omega arith

-- ---- the root next to 1, whose pattern is emax * hid
pub record Near (f : Format) (b : ℕ) : Type 0 where
  pub plus : T (positive (of_bits f b))
  pub is-root : IsRoot f (of_bits f b) (of_bits f ((b + emax f * hid f) / 2))

rejoin : (m d h : ℕ) → d ≤ m → (m - d) * h + d * h ≡ m * h
rejoin m d h l = both (m - d) ∙ ap (λ (z : ℕ). z * h) (omega arith)
  where
    both : (c : ℕ) → c * h + d * h ≡ (c + d) * h
    both c = omega arith

above-one : (f : Format) (k : ℕ) → k < hid f → k / 2 * (k / 2) < hid f → Near f (emax f * hid f + k)
above-one f k h s =
    let i = emax f - 1 in
    let H = hid f in
    let hi : H + k < 2 ^ prec f = omega (arith, twice_hid f) in
    let g : suc i < ones f = omega (arith, far f) in
    let n = normal f i (H + k) (omega arith) hi g in
    let places : i + low f ≡ prec f - 1 + 2 * i = omega (arith, far f, two f) in
    let r : Rounded ((H + k) * H) (H + k / 2) = rw (mul_comm (H + k) H) (middle H k s) in
    let one : i * H + 1 * H ≡ emax f * H = rejoin (emax f) 1 H (omega (arith, far f)) in
    let b : i * H + (H + k) ≡ emax f * H + k = omega arith in
    let y : i * H + (H + k / 2) ≡ (emax f * H + k + emax f * H) / 2 = omega arith in
    record {
      plus = rw b at n.plus;
      is-root = rw (b, y) at (even-root f (H + k) i (H + k / 2) (omega arith) hi g r (of_bits f (i * H + (H + k))) (n.counted ∙ ap (λ (p : ℕ). (H + k) * 2 ^ p) places));
    }

below_one : (f : Format) (b k : ℕ) → b + k ≡ emax f * hid f → 0 < k → k < hid f → k / 2 * (k / 2) < hid f → Near f b
below_one f b k e p h s =
    let i = emax f - 2 in
    let H = hid f in
    let t = 2 * H - k in
    let hi : t < 2 ^ prec f = omega (arith, twice_hid f) in
    let g : suc i < ones f = omega (arith, far f) in
    let n = normal f i t (omega arith) hi g in
    let places : i + low f ≡ prec f - 1 + (2 * i + 1) = omega (arith, far f, two f) in
    let whole : t + k ≡ 2 * H = omega arith in
    let r : Rounded (t * (2 * H)) (t + k / 2) = subst (λ (z : ℕ). Rounded (t * z) (t + k / 2)) whole (middle t k (omega arith)) in
    let one : i * H + 2 * H ≡ emax f * H = rejoin (emax f) 2 H (far f) in
    let x : i * H + t ≡ b = omega arith in
    let y : i * H + (t + k / 2) ≡ (b + emax f * H) / 2 = omega arith in
    record {
      plus = rw x at n.plus;
      is-root = rw (x, y) at (odd-root f t i (t + k / 2) (omega arith) hi g r (of_bits f (i * H + t)) (n.counted ∙ ap (λ (p : ℕ). t * 2 ^ p) places));
    }

-- no more than 2 * w + 1 patterns from 1's, with a w whose square is less than 1's significand
pub near-one : (f : Format) (b w : ℕ) → w * w < hid f → 2 * w + 1 < hid f → emax f * hid f ≤ b + (2 * w + 1) → b ≤ emax f * hid f + (2 * w + 1) → Near f b
near-one f b w s h lo hi = elim (lt-or-le b (emax f * hid f)) [
  | inl l ↦
      let k = emax f * hid f - b in
      let c : k / 2 ≤ w = omega arith in
      below_one f b k (omega arith) (omega arith) (omega arith) (lt_of_le_of_lt (mul-le-mul c c) s)
  | inr g ↦
      let k = b - emax f * hid f in
      let c : k / 2 ≤ w = omega arith in
      let e : emax f * hid f + k ≡ b = omega arith in
      subst (Near f) e (above-one f k (omega arith) (lt_of_le_of_lt (mul-le-mul c c) s))
]
