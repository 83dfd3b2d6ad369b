-- `number::length::length_of` meets its contract: next to 1 the root is read off the pattern (`near-one`), and any other is what `sqrt` ensures. Assumes nothing.
use Prim.Native.Nat.{ℕ}
use borrow.Author.Tests.{ltb-true}
use native.Mathlib.Omega.{arith}
use lib.Dec.{T, lit<}
use lib.Ieee.{binary32, ne, fits, to_bits}
use lib.Ieee.Bits.{of_bits-to_bits}
use Rattle.number.proofs.Values.{no_nan}
use Rattle.number.proofs.Cases.{root-no-nan, at-number}
use Rattle.number.proofs.NearOne.{Near, near-one}
use Rattle.number.proofs.length.length_of.Goals as goal
use Rattle.number.proofs.length.length_of.Goals.{Start, Then-b-lt1065355264}

held : (c : Start) → T (fits binary32 c.args.square)
held c = rw c.well_formed.0.1 tt

abbrev pattern : Then-b-lt1065355264 → ℕ
pattern c = to_bits binary32 c.before.before.before.args.square

-- past the tests it lies no more than 2 * 2047 + 1 from 1's
near : (c : Then-b-lt1065355264) → Near binary32 (pattern c)
near c = near-one binary32 (pattern c) 2047 (lit< tt) (lit< tt) (omega arith) (omega (arith, ltb-true))

pub float_to_bits-b : goal.float_to_bits-b
unfolding ne
float_to_bits-b c = rw (no_nan c.args.square (rw c.if-square.true)) tt

pub overflow_add-result : goal.overflow_add-result
overflow_add-result c = omega (arith, ltb-true)

pub float_from_bits-result : goal.float_from_bits-result
float_from_bits-result c = root-no-nan binary32 _ _ (near c).is-root

pub returns-then-b-lt1065355264 : goal.returns-then-b-lt1065355264
returns-then-b-lt1065355264 c =
    let s = c in
    let x = s.args.square in
    at-number binary32 x _ (rw (of_bits-to_bits binary32 x (held (goal.at.returns-then-b-lt1065355264 s).Start)) at (near c).plus) (held (goal.at.returns-then-b-lt1065355264 s).Start) (near c).is-root
