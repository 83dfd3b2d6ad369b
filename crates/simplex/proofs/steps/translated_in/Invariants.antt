-- What the loop of `translated_in` keeps: the first i vertices of `t` are translated.
use mathlib.Core.Path.{◌≡◌}
use lib.Ieee.{binary32}
use Rattle.simplex.specs.Simplex.{translated_in}
use Rattle.simplex.proofs.steps.translated_in.Given as goal

abbrev pub invariant-loop-i : goal.invariant-loop-i
invariant-loop-i l = l.t ≡ translated_in binary32 l.initial.t l.dir l.i
