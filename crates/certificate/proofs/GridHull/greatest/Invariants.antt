-- What the loop of `greatest` keeps, and the number that falls at each turn.
use mathlib.Core.Path.{◌≡◌}
use mathlib.Core.Bool.{◌&&◌}
use mathlib.Core.List.{List}
use lib.ListN.{length}
use Rattle.certificate.specs.declared.GridVector.{GridVector}
use Rattle.certificate.specs.Certificate.{every, above, corners, separated}
use Rattle.certificate.proofs.GridHull.greatest.Given as goal

-- what is above `top`, and above each corner that is left, is above every corner
abbrev pub invariant-loop-split : goal.invariant-loop-split
invariant-loop-split l =
    (second : List GridVector)
    → every (above l.direction.vector l.top) second && separated l.direction.vector (corners l.left.numbers.now) second ≡ separated l.direction.vector (corners l.self.numbers.now) second

abbrev pub decreases-loop-split : goal.decreases-loop-split
decreases-loop-split l = length l.left.numbers.now
