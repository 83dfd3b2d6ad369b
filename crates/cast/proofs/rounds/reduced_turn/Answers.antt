-- `reduced_turn` returns `reduced`.
use borrow.Author.Tests.{eq-eqb, ne_eqb}
use Rattle.cast.specs.Cast.{reduced}
use Rattle.reduction.proofs.Fits.{both-in-turn}
use Rattle.cast.proofs.rounds.reduced_turn.Goals as goal

pub returns-in_default : goal.returns-in_default
unfolding reduced
returns-in_default c = simp (both-in-turn, ← c.project_origin.ensures.answer, ← c.ended.ensures, c.in_default.is)

pub returns-then-smaller-eq3 : goal.returns-then-smaller-eq3
unfolding reduced
returns-then-smaller-eq3 c = simp (both-in-turn, ← c.project_origin.ensures.answer, ← c.apply_location-applied.ensures.answer, ← c.solid_at.ensures, ← c.ended-then-smaller-eq3.ensures, eq-eqb _ _ c.if-smaller-eq3.true, c.in-Ok.is)

pub returns : goal.returns
unfolding reduced
returns c = simp (both-in-turn, ← c.project_origin.ensures.answer, ← c.apply_location-applied.ensures.answer, ← c.onward.ensures, ne_eqb _ _ c.if-smaller-eq3.false, c.in-Ok.is)
