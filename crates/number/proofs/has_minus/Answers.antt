-- `number::has_minus` meets its contract: a NaN counts as positive, and of any other value the highest bit is the sign (`sign_bit`). Assumes nothing.
use mathlib.Core.Path.{sym}
use lib.Ieee.{binary32}
use Rattle.number.proofs.Values.{is-nan, no_nan}
use Rattle.number.proofs.Patterns.{sign_bit}
use Rattle.number.proofs.has_minus.Goals as goal

pub returns-then-x : goal.returns-then-x
returns-then-x c = rw (is-nan c.args.x c.if-x.true)

pub float_to_bits-result : goal.float_to_bits-result
float_to_bits-result c = rw (no_nan c.args.x c.if-x.false) tt

pub returns : goal.returns
returns c =
    let x = c.args.x in
    sym (sign_bit binary32 x (rw c.well_formed.0.1 tt) (rw (no_nan x c.if-x.false) tt))
