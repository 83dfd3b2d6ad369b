-- What `digits::root_bits` and `digits::root_of` compute, on plain numbers, for any format and any word of w digits that holds its significands. Assumes nothing.
use mathlib.Core.Path.{◌≡◌, sym, ap, ◌∙◌}
use mathlib.Core.Bool.{false}
use Prim.Native.Nat.{ℕ, suc, ◌+◌, ◌-◌, ◌*◌, ◌/◌, ◌^◌, ◌≤◌, ◌<◌}
use native.Mathlib.Nat.{le_trans, le_of_eq, lt_of_lt_of_le, lt_of_not-le, not-le_of_lt, mul-le-mul, mul-le-mul_left, mul-le-mul_right, mul-lt-mul_of_pos_right, mul-pos, mul_assoc}
use native.Mathlib.Omega.{arith}
use lib.Pow.{pow-add, pow_pos, pow_mono}
use lib.Count.{count_leading_zeros, leading_top}
use lib.Ieee.{Format, of_bits, prec, low, hid, ones}
use lib.Ieee.Bits.{of_bits-fits}
use lib.Ieee.Exact.{HasValue}
use lib.Ieee.Positive.{positive_of_value}
use Rattle.number.specs.Root.{square}
use Rattle.number.specs.Digits.{Rounded, RootAt}
use Rattle.number.proofs.Schoolbook.{rounded-low, rounded-high}
use Rattle.number.proofs.Values.{count_of}
use Rattle.number.proofs.Patterns.{hid-pos, twice_hid, low_value, high_value, high_bits}
use Rattle.number.proofs.Laws.{nearest}

-- ---- the zeros that lead a significand below the normal ones, in a word of w digits: so many places but w - prec bring its leading digit to the place `prec`
pub record Lead (f : Format) (w t z : ℕ) : Type 0 where
  pub enough : w - prec f ≤ z
  pub most : z < w
  pub low_end : hid f ≤ t * 2 ^ (z - (w - prec f))
  pub high_end : t * 2 ^ (z - (w - prec f)) < 2 ^ prec f

lead-by : (f : Format) (w t z j : ℕ) → prec f ≤ w → t < 2 ^ prec f → z + suc j ≡ w → 2 ^ j ≤ t → t < 2 ^ suc j → Lead f w t z
lead-by f w t z j v s e lo hi =
    let l : j < prec f = lt_of_not-le (λ (g : prec f ≤ j). not-le_of_lt s (le_trans (pow_mono g) lo)) in
    let whole-low : prec f - 1 ≡ j + (z - (w - prec f)) = omega arith in
    let whole-high : prec f ≡ suc j + (z - (w - prec f)) = omega arith in
    record {
      enough = omega arith;
      most = omega arith;
      low_end = le_trans (le_of_eq (ap (λ (k : ℕ). 2 ^ k) whole-low ∙ pow-add 2 j (z - (w - prec f)))) (mul-le-mul_right (2 ^ (z - (w - prec f))) lo);
      high_end = lt_of_lt_of_le (mul-lt-mul_of_pos_right hi (pow_pos (z - (w - prec f)))) (le_of_eq (sym (ap (λ (k : ℕ). 2 ^ k) whole-high ∙ pow-add 2 (suc j) (z - (w - prec f)))));
    }

pub lead : (f : Format) (w t : ℕ) → prec f ≤ w → 0 < t → t < hid f → Lead f w t (count_leading_zeros w t)
lead f w t v p s =
    let l : t < 2 ^ prec f = omega (arith, twice_hid f) in
    let h = leading_top w t p (lt_of_lt_of_le l (pow_mono v)) in
    lead-by f w t (count_leading_zeros w t) h.0 v l h.1 h.2 h.3

-- ---- what the square of a number's root counts, by its pattern: the significand moved up by y places and by i
pub low-square : (f : Format) (b y i : ℕ) → b < hid f → y + i ≡ low f → square f (of_bits f b) ≡ b * 2 ^ y * 2 ^ i
unfolding square
low-square f b y i h s = ap (λ (c : ℕ). c * 2 ^ low f) (count_of f (of_bits f b) false b (low_value f b h)) ∙ ap (λ (c : ℕ). b * c) (ap (λ (c : ℕ). 2 ^ c) (sym s) ∙ pow-add 2 y i) ∙ sym (mul_assoc b (2 ^ y) (2 ^ i))

pub high-square : (f : Format) (e d i : ℕ) → d < hid f → suc e < ones f → e + low f ≡ i → square f (of_bits f (suc e * hid f + d)) ≡ (hid f + d) * 2 ^ i
unfolding square
high-square f e d i h g s = ap (λ (c : ℕ). c * 2 ^ low f) (count_of f (of_bits f (suc e * hid f + d)) false ((hid f + d) * 2 ^ e) (high_value f e d h g)) ∙ mul_assoc (hid f + d) (2 ^ e) (2 ^ low f) ∙ ap (λ (c : ℕ). (hid f + d) * c) (sym (pow-add 2 e (low f)) ∙ ap (λ (c : ℕ). 2 ^ c) s)

-- ---- the number n whose root is taken: t of `prec` digits moved up by prec - 1 places, and by one more where j is odd
pub record Taken (f : Format) (n : ℕ) : Type 0 where
  pub many : hid f * hid f ≤ n
  pub few : n + 2 ^ prec f ≤ 2 ^ prec f * 2 ^ prec f

pub taken : (f : Format) (t j : ℕ) → hid f ≤ t → t < 2 ^ prec f → Taken f (t * 2 ^ (prec f - 1 + (j - 2 * (j / 2))))
taken f t j lo hi =
    let a = j - 2 * (j / 2) in
    rw (pow-add 2 (prec f - 1) a)
    (record {
      many = mul-le-mul lo (from_one (hid f) (2 ^ a) (pow_pos a));
      few = rw (twice_hid f) (bound t (hid f) (2 ^ a) (pow_mono (parity j)) (rw (← twice_hid f) hi));
    })
  where
    parity : (d : ℕ) → d - 2 * (d / 2) ≤ 1
    parity d = omega arith

    from_one : (h a : ℕ) → 1 ≤ a → h ≤ h * a
    from_one h a l = le_trans (omega arith) (mul-le-mul_left h l)

    bound : (m h a : ℕ) → a ≤ 2 → m < 2 * h → m * (h * a) + 2 * h ≤ 2 * h * (2 * h)
    bound m h a l u =
        let s : m * (h * a) ≤ m * (h * 2) = mul-le-mul_left m (mul-le-mul_left h l) in
        let v : suc m * (2 * h) ≤ 2 * h * (2 * h) = mul-le-mul_right (2 * h) u in
        omega arith

-- what is left is a 4 ^ k
pub halved : (t p j : ℕ) → t * 2 ^ (p + j) ≡ t * 2 ^ (p + (j - 2 * (j / 2))) * (2 ^ (j / 2) * 2 ^ (j / 2))
halved t p j = ap (λ (i : ℕ). t * i) (ap (λ (i : ℕ). 2 ^ i) (sums p j) ∙ pow-add 2 (p + (j - 2 * (j / 2))) (j / 2 + j / 2) ∙ ap (λ (i : ℕ). 2 ^ (p + (j - 2 * (j / 2))) * i) (pow-add 2 (j / 2) (j / 2))) ∙ sym (mul_assoc t (2 ^ (p + (j - 2 * (j / 2)))) (2 ^ (j / 2) * 2 ^ (j / 2)))
  where
    sums : (p j : ℕ) → p + j ≡ p + (j - 2 * (j / 2)) + (j / 2 + j / 2)
    sums p j = omega arith

-- ---- the pattern that is put together
pub record Put (f : Format) (q : ℕ) : Type 0 where
  pub low_end : hid f ≤ q
  pub high_end : q < 2 ^ prec f

pub digits : (f : Format) (n q : ℕ) → Taken f n → Rounded n q → Put f q
digits f n q g r = record { low_end = rounded-low (hid f) n q g.many r; high_end = rounded-high (2 ^ prec f) n q (pow_pos (prec f)) g.few r }

pub put : (f : Format) (n k q : ℕ) → suc k < ones f → Taken f n → Rounded n q → (k * hid f + q < ones f * hid f) × RootAt f (n * (2 ^ k * 2 ^ k)) (of_bits f (k * hid f + q))
put f n k q h g r =
    let p = digits f n q g r in
    let d = q - hid f in
    let less : d < hid f = omega (arith, twice_hid f, p.high_end, p.low_end) in
    let whole : hid f + d ≡ q = omega (arith, p.low_end) in
    let apart : suc k * hid f + d ≡ k * hid f + q = join k (hid f) d q whole in
    let y = of_bits f (k * hid f + q) in
    let v : HasValue y false (q * 2 ^ k) (2 ^ low f) = rw (whole, apart) at (high_value f k d less h) in (
      rw apart at (high_bits f k d less h),
      λ x s.
          nearest f x y n q k (of_bits-fits f (k * hid f + q))
          (positive_of_value y (q * 2 ^ k) (2 ^ low f) v (mul-pos (lt_of_lt_of_le (hid-pos f) p.low_end) (pow_pos k)))
          s (count_of f y false (q * 2 ^ k) v) g.many r,
    )
  where
    join : (k h d q : ℕ) → h + d ≡ q → suc k * h + d ≡ k * h + q
    join k h d q e = omega arith
