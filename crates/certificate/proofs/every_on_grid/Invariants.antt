-- What the loop of `every_on_grid` keeps, and the number that falls at each turn.
use Prim.Native.Nat.{◌≤◌}
use mathlib.Core.Path.{◌≡◌}
use lib.ListN.{length, drop}
use Rattle.certificate.specs.Certificate.{every, on_grid}
use Rattle.certificate.proofs.every_on_grid.Given as goal

abbrev pub invariant-loop-n : goal.invariant-loop-n
invariant-loop-n l = (l.n-index ≤ length l.hull) × (every on_grid (drop l.n-index l.hull) ≡ every on_grid l.hull)
