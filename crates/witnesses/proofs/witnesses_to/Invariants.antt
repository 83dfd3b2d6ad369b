-- What the loop of `witnesses_to` keeps: `sum` is that of the first i vertices.
use mathlib.Core.Path.{◌≡◌}
use lib.Ieee.{binary32}
use Rattle.std.specs.Prelude.{Ok}
use Rattle.witnesses.specs.Witnesses.{witnesses_to}
use Rattle.witnesses.proofs.witnesses_to.Given as goal

abbrev pub invariant-loop-i : goal.invariant-loop-i
invariant-loop-i l = Ok l.sum ≡ witnesses_to binary32 l.simplex l.prev l.i
