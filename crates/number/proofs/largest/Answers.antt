-- `number::largest` meets its contract: the pattern is that of the largest finite number. Assumes nothing.
use mathlib.Core.Path.{refl}
use lib.Ieee.{nan_bits, of_bits}
use Rattle.number.specs.Constants.{largest}
use Rattle.number.proofs.largest.Goals as goal

pub float_from_bits-result : goal.float_from_bits-result
unfolding nan_bits
float_from_bits-result c = tt

pub returns : goal.returns
unfolding largest of_bits
returns c = refl
