-- `start_of` returns the definition's `start_of`: the two operations in turn are the reduction.
use lib.Ieee.{of_bits}
use Rattle.number.specs.Root.{root}
use Rattle.reduction.proofs.Fits.{both-in-turn}
use Rattle.gjk.specs.Gjk.{first_round, start_of}
use Rattle.gjk.specs.Carried.{result_by}
use Rattle.gjk.proofs.rounds.start_of.Goals as goal

pub returns-in_default : goal.returns-in_default
unfolding start_of first_round result_by of_bits
returns-in_default c = simp (both-in-turn, ← c.project_origin.ensures.answer, c.ended.ensures, c.in_default.is)

pub returns-in_default-try_normalize : goal.returns-in_default-try_normalize
unfolding start_of first_round result_by of_bits
returns-in_default-try_normalize c = simp (both-in-turn, ← c.project_origin.ensures.answer, ← c.apply_location-applied.ensures.answer, ← c.try_normalize.ensures, c.ended-in_default-try_normalize.ensures, c.in_default-try_normalize.is, c.in-Ok.is)

pub returns : goal.returns
unfolding start_of first_round result_by of_bits root
returns c = simp (both-in-turn, ← c.project_origin.ensures.answer, ← c.apply_location-applied.ensures.answer, ← c.try_normalize.ensures, ← c.largest-largest.ensures, ← c.neg.ensures, c.onward.ensures, c.in-Some.is, c.in-Ok.is)
