-- `number::sqrt` meets its contract, by the cases of `Cases.antt`; a number above zero by what `digits::root_bits` ensures. Assumes nothing.
use lib.Dec.{T}
use lib.Ieee.{binary32, div, fits, of_bits}
use Rattle.number.proofs.Values.{no_nan, zero-f, AboveZero, above_zero}
use Rattle.number.proofs.Cases.{at-nan, at_zero, at-minus, number, at-infinity, some_bits, root-no-nan, at-number, both}
use Rattle.number.proofs.sqrt.Goals as goal
use Rattle.number.proofs.sqrt.Goals.{Else-x-3, Start}

-- x is a value of the format, and past the three tests it is +∞ or a number above zero
held : (c : Start) → T (fits binary32 c.args.x)
held c = rw c.well_formed.0.1 tt

past : (c : Else-x-3) → AboveZero c.before.before.before.args.x
unfolding of_bits
past c = above_zero c.before.before.before.args.x c.before.before.if-x.false c.before.if-x-2.false c.if-x-3.false

pub returns-then-x-clause-value : goal.returns-then-x-clause-value
returns-then-x-clause-value c = (let x = c.args.x in both binary32 x x (held (goal.at.returns-then-x-clause-value c).Start) (at-nan binary32 x c.if-x.true)).0

pub returns-then-x-clause-nearest : goal.returns-then-x-clause-nearest
returns-then-x-clause-nearest c = (let x = c.args.x in both binary32 x x (held (goal.at.returns-then-x-clause-nearest c).Start) (at-nan binary32 x c.if-x.true)).1

pub returns-then-x-2-clause-value : goal.returns-then-x-2-clause-value
unfolding of_bits
returns-then-x-2-clause-value c = (let s = c in
    let x = s.args.x in
    both binary32 x x (held (goal.at.returns-then-x-2-clause-value s).Start) (at_zero binary32 x (held (goal.at.returns-then-x-2-clause-value s).Start) c.if-x-2.true)).0

pub returns-then-x-2-clause-nearest : goal.returns-then-x-2-clause-nearest
unfolding of_bits
returns-then-x-2-clause-nearest c = (let s = c in
    let x = s.args.x in
    both binary32 x x (held (goal.at.returns-then-x-2-clause-nearest s).Start) (at_zero binary32 x (held (goal.at.returns-then-x-2-clause-nearest s).Start) c.if-x-2.true)).1

pub returns-then-x-3-clause-value : goal.returns-then-x-3-clause-value
unfolding of_bits
returns-then-x-3-clause-value c = (let s = c in
    let x = s.args.x in
    both binary32 x (div binary32 zero-f zero-f) (held (goal.at.returns-then-x-3-clause-value s).Start) (at-minus binary32 x c.if-x-3.true)).0

pub returns-then-x-3-clause-nearest : goal.returns-then-x-3-clause-nearest
unfolding of_bits
returns-then-x-3-clause-nearest c = (let s = c in
    let x = s.args.x in
    both binary32 x (div binary32 zero-f zero-f) (held (goal.at.returns-then-x-3-clause-nearest s).Start) (at-minus binary32 x c.if-x-3.true)).1

pub float_to_bits-b : goal.float_to_bits-b
float_to_bits-b c = rw (no_nan c.args.x c.if-x.false) tt

pub root_bits-requires : goal.root_bits-requires
root_bits-requires c =
    let s = c in
    let x = s.args.x in
    (some_bits binary32 x (number binary32 x (past (goal.at.root_bits-requires c).Else-x-3) c.if-b-lt2139095040.true) (held (goal.at.root_bits-requires s).Start), c.if-b-lt2139095040.true)

pub float_from_bits-result : goal.float_from_bits-result
float_from_bits-result c = root-no-nan binary32 _ c.root_bits.result c.root_bits.ensures.1

pub returns-then-b-lt2139095040-clause-value : goal.returns-then-b-lt2139095040-clause-value
returns-then-b-lt2139095040-clause-value c = (let s = c in
    let x = s.args.x in
    let r = c.root_bits.result in
    both binary32 x (of_bits binary32 r) (held (goal.at.returns-then-b-lt2139095040-clause-value s).Start) (at-number binary32 x r (number binary32 x (past (goal.at.returns-then-b-lt2139095040-clause-value c).Else-x-3) c.if-b-lt2139095040.true) (held (goal.at.returns-then-b-lt2139095040-clause-value s).Start) c.root_bits.ensures.1)).0

pub returns-then-b-lt2139095040-clause-nearest : goal.returns-then-b-lt2139095040-clause-nearest
returns-then-b-lt2139095040-clause-nearest c = (let s = c in
    let x = s.args.x in
    let r = c.root_bits.result in
    both binary32 x (of_bits binary32 r) (held (goal.at.returns-then-b-lt2139095040-clause-nearest s).Start) (at-number binary32 x r (number binary32 x (past (goal.at.returns-then-b-lt2139095040-clause-nearest c).Else-x-3) c.if-b-lt2139095040.true) (held (goal.at.returns-then-b-lt2139095040-clause-nearest s).Start) c.root_bits.ensures.1)).1

pub returns-else-b-lt2139095040-clause-value : goal.returns-else-b-lt2139095040-clause-value
returns-else-b-lt2139095040-clause-value c = (let s = c in
    let x = s.args.x in
    both binary32 x x (held (goal.at.returns-else-b-lt2139095040-clause-value s).Start) (at-infinity binary32 x (past (goal.at.returns-else-b-lt2139095040-clause-value c).Else-x-3) (held (goal.at.returns-else-b-lt2139095040-clause-value s).Start) c.if-b-lt2139095040.false)).0

pub returns-else-b-lt2139095040-clause-nearest : goal.returns-else-b-lt2139095040-clause-nearest
returns-else-b-lt2139095040-clause-nearest c = (let s = c in
    let x = s.args.x in
    both binary32 x x (held (goal.at.returns-else-b-lt2139095040-clause-nearest s).Start) (at-infinity binary32 x (past (goal.at.returns-else-b-lt2139095040-clause-nearest c).Else-x-3) (held (goal.at.returns-else-b-lt2139095040-clause-nearest s).Start) c.if-b-lt2139095040.false)).1
