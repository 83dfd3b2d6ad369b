-- What the loop of `live_to` keeps: so many of the first i are live.
use mathlib.Core.Path.{◌≡◌}
use Rattle.epa_polytope.specs.Stores.{live_to}
use Rattle.epa_stores.proofs.live_to.Given as goal

abbrev pub invariant-loop-i : goal.invariant-loop-i
invariant-loop-i l = l.live ≡ live_to l.i l.deleted
