-- `number::to_bits` meets its contract: only a NaN differs from itself, and its pattern is the one that `to_bits` writes. Assumes nothing.
use lib.Ieee.{to_bits}
use Rattle.number.proofs.Values.{is-nan, no_nan}
use Rattle.number.proofs.bits.to_bits.Goals as goal

pub float_to_bits-result : goal.float_to_bits-result
float_to_bits-result c = rw (no_nan c.args.x c.if-x.false) tt

pub returns-then-x : goal.returns-then-x
unfolding to_bits
returns-then-x c = rw (is-nan c.args.x c.if-x.true)
