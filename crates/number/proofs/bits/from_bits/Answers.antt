-- `number::from_bits` meets its contract: above the infinities' patterns, the sign left off, are the NaNs' and no others. Assumes nothing.
use mathlib.Core.Path.{◌≡◌, refl, sym, ◌∙◌}
use mathlib.Core.Bool.{true, not, true≢false}
use Prim.Native.Nat.{ℕ, ◌%◌, ◌≤◌, ◌<◌}
use borrow.Author.Tests.{lt-ltb, le-ltb}
use lib.Dec.{T}
use lib.Ieee.{Float, nan, inf, fin, binary32, div, is_nan, nan_bits, of_bits}
use lib.Ieee.Bits.{nan_bits_is, nan_bits_above}
use Rattle.number.proofs.bits.from_bits.Goals as goal

no_nan : (b : ℕ) → b % 2147483648 ≤ 2139095040 → T (not (nan_bits binary32 b))
no_nan b h = rw (nan_bits_above binary32 b, le-ltb 2139095040 (b % 2147483648) h) tt

only_nan : (x : Float) → is_nan x ≡ true → nan ≡ x
unfolding is_nan
only_nan nan h = refl
only_nan (inf s) h = absurd (true≢false (sym h))
only_nan (fin s m e) h = absurd (true≢false (sym h))

a-nan : (b : ℕ) → 2139095040 < b % 2147483648 → nan ≡ of_bits binary32 b
a-nan b h = only_nan (of_bits binary32 b) (sym (nan_bits_is binary32 b) ∙ nan_bits_above binary32 b ∙ lt-ltb 2139095040 (b % 2147483648) h)

-- 0.0 / 0.0, as the code writes a NaN
no_number : div binary32 (of_bits binary32 0) (of_bits binary32 0) ≡ nan
unfolding div of_bits
no_number = refl

pub float_from_bits-result : goal.float_from_bits-result
float_from_bits-result c = no_nan c.args.bits c.if-bits-le2139095040.true

pub returns-else-bits-le2139095040 : goal.returns-else-bits-le2139095040
returns-else-bits-le2139095040 c = no_number ∙ a-nan c.args.bits c.if-bits-le2139095040.false
