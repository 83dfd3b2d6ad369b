-- `number::digits::scale` meets its contract: t is the significand, with its leading digit at the 24th place, and j the places that are left. Assumes nothing.
use mathlib.Core.Path.{◌≡◌, sym, ap, ◌∙◌}
use Prim.Native.Nat.{ℕ, suc, ◌+◌, ◌-◌, ◌*◌, ◌/◌, ◌%◌, ◌^◌, ◌≤◌, ◌<◌}
use native.Mathlib.Nat.{mod-eq_of_lt, lt_of_lt_of_le}
use native.Mathlib.Omega.{arith}
use borrow.Author.Rules.{rules}
use lib.Dec.{lit≤}
use lib.Count.{count_leading_zeros}
use lib.Ieee.{binary32, of_bits}
use Rattle.number.specs.Root.{square}
use Rattle.number.proofs.Width.{Lead, lead, low-square, high-square}
use Rattle.number.proofs.digits.scale.Goals as goal
use Rattle.number.proofs.digits.scale.Goals.{Then-b-lt8388608}

-- ---- below the normal numbers
leads : (c : Then-b-lt8388608) → Lead binary32 32 c.before.args.b (count_leading_zeros 32 c.before.args.b)
leads c = lead binary32 32 c.before.args.b (lit≤ tt) c.before.requires.0 c.if-b-lt8388608.true

-- the shift drops nothing
whole : (c : Then-b-lt8388608) → let t = c.before.args.b * 2 ^ (count_leading_zeros 32 c.before.args.b - 8) in t % 2 ^ 32 ≡ t
whole c = mod-eq_of_lt (lt_of_lt_of_le (leads c).high_end (lit≤ tt))

low-number : (c : Then-b-lt8388608) → let b = c.before.args.b in let z = count_leading_zeros 32 b - 8 in square binary32 (of_bits binary32 b) ≡ b * 2 ^ z * 2 ^ (23 + (126 - z))
low-number c =
    let b = c.before.args.b in
    let z = count_leading_zeros 32 b - 8 in
    low-square binary32 b z (23 + (126 - z)) c.if-b-lt8388608.true (sums z (omega (arith, (leads c).most)))
  where
    sums : (z : ℕ) → z ≤ 126 → z + (23 + (126 - z)) ≡ 149
    sums z h = omega arith

-- ---- the normal numbers
high-number : (b : ℕ) → 8388608 ≤ b → b < 2139095040 → let e = b / 8388608 - 1 in square binary32 (of_bits binary32 b) ≡ (b - e * 8388608) * 2 ^ (23 + (e + 126))
high-number b h l =
    let e = b / 8388608 - 1 in
    let d = b % 8388608 in
    let pattern : suc e * 8388608 + d ≡ b = omega arith in
    let digits : 8388608 + d ≡ b - e * 8388608 = omega arith in
    ap (λ (m : ℕ). square binary32 (of_bits binary32 m)) (sym pattern)
    ∙ high-square binary32 e d (23 + (e + 126)) (omega arith) (omega arith) (omega arith)
    ∙ ap (λ (m : ℕ). m * 2 ^ (23 + (e + 126))) digits

pub overflow_sub-z : goal.overflow_sub-z
overflow_sub-z c = (leads c).enough

pub overflow_shl-result : goal.overflow_shl-result
overflow_shl-result c = omega (arith, (leads c).most)

pub overflow_sub-result : goal.overflow_sub-result
overflow_sub-result c = omega (arith, (leads c).most)

pub returns-then-b-lt8388608 : goal.returns-then-b-lt8388608
returns-then-b-lt8388608 c = rw (whole c) ((leads c).low_end, (leads c).high_end, omega arith, low-number c)

pub returns-else-b-lt8388608 : goal.returns-else-b-lt8388608
returns-else-b-lt8388608 c = (search rules, search rules, search rules, high-number c.args.b c.if-b-lt8388608.false c.requires.1)
