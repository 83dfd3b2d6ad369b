-- `witnesses_to` returns the definition's `witnesses_to`: a refusal at a vertex is the answer of all the loop.
use mathlib.Core.Path.{refl, sym, ◌∙◌}
use native.Mathlib.Numerals.{add-one}
use native.Mathlib.Omega.{arith}
use lib.Ieee.{binary32, of_bits}
use Rattle.std.proofs.lemmas.Result.{err_from_is_err_and}
use Rattle.vector.specs.Vector.{zero_v}
use Rattle.witnesses.specs.Witnesses.{witnesses_to}
use Rattle.witnesses.proofs.Stays.{stays}
use Rattle.witnesses.proofs.witnesses_to.Goals as goal

pub loop-i-init : goal.loop-i-init
unfolding witnesses_to zero_v of_bits
loop-i-init c = refl

pub loop-i-preserved : goal.loop-i-preserved
unfolding witnesses_to
loop-i-preserved c = simp (add-one, ← c.loop-i.invariant, ← c.with_vertex.ensures, c.in_ok-sum.was)

pub returns-in_err-sum : goal.returns-in_err-sum
returns-in_err-sum c =
    let p = err_from_is_err_and c.from_residual.result c.from_residual.ensures.1 in
    rw (p.1, p.2) (sym (stays binary32 _ _ _ c.loop-i.i _ (omega arith) (rw (← c.loop-i.invariant) (sym c.with_vertex.ensures ∙ c.in_err-sum.was))))
