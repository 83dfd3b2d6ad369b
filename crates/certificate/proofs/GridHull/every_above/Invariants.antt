-- What the loop of `every_above` keeps, and the number that falls at each turn.
use mathlib.Core.Path.{◌≡◌}
use lib.ListN.{length}
use Rattle.certificate.specs.Certificate.{every, above, corners}
use Rattle.certificate.proofs.GridHull.every_above.Given as goal

-- the corners that are left decide
abbrev pub invariant-loop-split : goal.invariant-loop-split
invariant-loop-split l = every (above l.direction.vector l.n) (corners l.left.numbers.now) ≡ every (above l.direction.vector l.n) (corners l.self.numbers.now)

abbrev pub decreases-loop-split : goal.decreases-loop-split
decreases-loop-split l = length l.left.numbers.now
