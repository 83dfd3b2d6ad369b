-- `number::epsilon` meets its contract: the literal is read as 2 ^ -23. Assumes nothing.
use mathlib.Core.Path.{refl}
use lib.Ieee.{of_bits}
use Rattle.number.specs.Constants.{epsilon}
use Rattle.number.proofs.epsilon.Goals as goal

pub returns : goal.returns
unfolding epsilon of_bits
returns c = refl
