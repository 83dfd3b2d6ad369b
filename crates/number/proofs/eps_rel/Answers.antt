-- `number::eps_rel` meets its contract: the literal is read as the root of `eps_tol`, by computation. Assumes nothing.
use mathlib.Core.Path.{refl}
use lib.Ieee.{mul, of_bits}
use Rattle.number.specs.Root.{root}
use Rattle.number.specs.Constants.{epsilon, eps_tol}
use Rattle.number.proofs.eps_rel.Goals as goal

pub returns : goal.returns
unfolding root eps_tol epsilon mul of_bits
returns c = refl
