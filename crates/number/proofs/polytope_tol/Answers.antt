-- `number::polytope_tol` meets its contract: `epsilon` times 100, one rounding. Assumes nothing.
use lib.Ieee.{of_bits}
use Rattle.number.specs.Constants.{polytope_tol}
use Rattle.number.proofs.polytope_tol.Goals as goal

pub returns : goal.returns
unfolding polytope_tol of_bits
returns c = rw c.epsilon.ensures
