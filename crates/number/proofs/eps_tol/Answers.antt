-- `number::eps_tol` meets its contract: `epsilon` times 10, one rounding. Assumes nothing.
use lib.Ieee.{of_bits}
use Rattle.number.specs.Constants.{eps_tol}
use Rattle.number.proofs.eps_tol.Goals as goal

pub returns : goal.returns
unfolding eps_tol of_bits
returns c = rw c.epsilon.ensures
