-- What the loop of `clear_pairs` keeps.
use mathlib.Core.Path.{◌≡◌}
use Rattle.epa_polytope.specs.Expansion.{blank}
use Rattle.epa_expansion.proofs.ring.clear_pairs.Given as goal

abbrev pub invariant-loop-i : goal.invariant-loop-i
invariant-loop-i l = l.l ≡ blank l.i l.initial.l
