-- `answer_of` returns the definition's `answer_of`, outcome by outcome. Assumes nothing.
use lib.Ieee.{of_bits}
use Rattle.vector.specs.Vector.{zero_v}
use Rattle.answers.specs.Answers.{answer_of}
use Rattle.answers.proofs.answer_of.Goals as goal

pub returns-in-ClosestPoints : goal.returns-in-ClosestPoints
unfolding answer_of zero_v of_bits
returns-in-ClosestPoints c = simp (← c.answer_with.ensures, c.in-ClosestPoints.is)

pub returns-in-Proximity : goal.returns-in-Proximity
unfolding answer_of zero_v of_bits
returns-in-Proximity c = simp (← c.answer_with-in-Proximity.ensures, c.in-Proximity.is)

pub returns-in-NoIntersection : goal.returns-in-NoIntersection
unfolding answer_of zero_v of_bits
returns-in-NoIntersection c = simp (← c.answer_with-in-NoIntersection.ensures, c.in-NoIntersection.is)

pub returns-in-Penetration : goal.returns-in-Penetration
unfolding answer_of zero_v of_bits
returns-in-Penetration c = simp (← c.answer_with-in-Penetration.ensures, c.in-Penetration.is)

pub returns-in-NoAnswer : goal.returns-in-NoAnswer
unfolding answer_of zero_v of_bits
returns-in-NoAnswer c = simp (← c.answer_with-in-NoAnswer.ensures, c.in-NoAnswer.is)

pub returns-in-Panic : goal.returns-in-Panic
unfolding answer_of zero_v of_bits
returns-in-Panic c = simp (← c.answer_with-in-Panic.ensures, c.in-Panic.is)

pub returns-in-NoPlace : goal.returns-in-NoPlace
unfolding answer_of zero_v of_bits
returns-in-NoPlace c = simp (← c.answer_with-in-NoPlace.ensures, c.in-NoPlace.is)
