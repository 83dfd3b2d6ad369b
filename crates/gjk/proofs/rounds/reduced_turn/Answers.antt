-- `reduced_turn` returns `reduced`, test by test: the two operations in turn are the reduction.
use borrow.Author.Tests.{eq-eqb, ne_eqb}
use lib.Ieee.{of_bits}
use Rattle.vector.specs.Vector.{x_v}
use Rattle.reduction.proofs.Fits.{both-in-turn}
use Rattle.gjk.specs.Gjk.{round_after, reduced}
use Rattle.gjk.specs.Carried.{result_by}
use Rattle.gjk.proofs.rounds.reduced_turn.Goals as goal

pub returns-in_default : goal.returns-in_default
unfolding reduced round_after result_by x_v of_bits
returns-in_default c = simp (both-in-turn, ← c.project_origin.ensures.answer, c.ended.ensures, c.in_default.is)

pub returns-then-sight-eps_tol : goal.returns-then-sight-eps_tol
unfolding reduced round_after result_by x_v of_bits
returns-then-sight-eps_tol c = simp (both-in-turn, ← c.project_origin.ensures.answer, ← c.apply_location-applied.ensures.answer, ← c.eps_tol.ensures, c.ended-then-sight-eps_tol.ensures, c.apart_by.ensures, c.if-sight-eps_tol.true, eq-eqb _ _ c.if-smaller-eq3.true, c.in-Ok.is)

pub returns-then-smaller-eq3 : goal.returns-then-smaller-eq3
unfolding reduced round_after result_by x_v of_bits
returns-then-smaller-eq3 c = simp (both-in-turn, ← c.project_origin.ensures.answer, ← c.apply_location-applied.ensures.answer, ← c.eps_tol.ensures, c.ended-then-smaller-eq3.ensures, c.if-sight-eps_tol.false, eq-eqb _ _ c.if-smaller-eq3.true, c.in-Ok.is)

pub returns-then-niter-eq100 : goal.returns-then-niter-eq100
unfolding reduced round_after result_by x_v of_bits
returns-then-niter-eq100 c = simp (both-in-turn, ← c.project_origin.ensures.answer, ← c.apply_location-applied.ensures.answer, c.ended-then-niter-eq100.ensures, eq-eqb _ _ c.if-niter-eq100.true, ne_eqb _ _ c.if-smaller-eq3.false, c.in-Ok.is)

pub returns : goal.returns
unfolding reduced round_after result_by x_v of_bits
returns c = simp (both-in-turn, ← c.project_origin.ensures.answer, ← c.apply_location-applied.ensures.answer, c.onward.ensures, ne_eqb _ _ c.if-niter-eq100.false, ne_eqb _ _ c.if-smaller-eq3.false, c.in-Ok.is)
