-- `start_of` returns the definition's `start_of`.
use lib.Ieee.{of_bits}
use Rattle.cast.specs.Cast.{start_of}
use Rattle.reduction.proofs.Fits.{both-in-turn}
use Rattle.cast.proofs.rounds.start_of.Goals as goal

pub returns-in_default : goal.returns-in_default
unfolding start_of of_bits
returns-in_default c = simp (both-in-turn, ← c.div-along.ensures, ← c.neg-dir.ensures, ← c.from_shapes-support_point.ensures, ← c.new.ensures, ← c.neg.ensures, ← c.translate.ensures, ← c.reset-begun.ensures.answer, ← c.project_origin.ensures.answer, ← c.ended.ensures, c.in_default.is)

pub returns : goal.returns
unfolding start_of of_bits
returns c = simp (both-in-turn, ← c.div-along.ensures, ← c.neg-dir.ensures, ← c.from_shapes-support_point.ensures, ← c.new.ensures, ← c.neg.ensures, ← c.translate.ensures, ← c.reset-begun.ensures.answer, ← c.project_origin.ensures.answer, ← c.apply_location-applied.ensures.answer, ← c.largest.ensures, ← c.onward.ensures, c.in-Ok.is)
