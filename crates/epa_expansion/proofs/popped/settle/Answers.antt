-- `settle` does what the run's `settle` does, for any support function: the bound is within the tolerance, the run is stuck, or the polytope grows. Assumes nothing.
use mathlib.Core.Path.{sym, ◌∙◌}
use Rattle.epa_polytope.proofs.Doing.{hands-on}
use Rattle.epa_polytope.proofs.Visiting.{converges, gets-stuck, settle-ended, settled}
use Rattle.epa_stores.specs.Lent.{held}
use Rattle.epa_expansion.proofs.popped.settle.Goals as goal

pub returns-then-has_converged-clause-leaves : goal.returns-then-has_converged-clause-leaves
returns-then-has_converged-clause-leaves g c supp =
    converges _ _ _ _ _ _ _ _ c.better-best1.ensures
    (sym c.has_converged.ensures ∙ c.if-has_converged.true) (c.answer_of-end.ensures (held c.args.stores.now))

pub returns-then-is_stuck-clause-leaves : goal.returns-then-is_stuck-clause-leaves
returns-then-is_stuck-clause-leaves g c supp =
    gets-stuck _ _ _ _ _ _ _ _ c.better-best1.ensures
    (sym c.has_converged.ensures ∙ c.if-has_converged.false)
    (sym c.is_stuck.ensures ∙ c.if-is_stuck.true) (c.answer_of-end-then-is_stuck.ensures (held c.args.stores.now))

pub returns-in_err-next-clause-leaves : goal.returns-in_err-next-clause-leaves
returns-in_err-next-clause-leaves g c supp =
    hands-on c.from_residual.ensures.1
    (settle-ended _ _ _ _ _ _ _ _ c.better-best1.ensures
    (sym c.has_converged.ensures ∙ c.if-has_converged.false)
    (sym c.is_stuck.ensures ∙ c.if-is_stuck.false) c.expand.ensures.leaves c.in_err-next.was)

pub returns-clause-leaves : goal.returns-clause-leaves
returns-clause-leaves g c supp =
    settled _ _ _ _ _ _ _ _ c.better-best1.ensures
    (sym c.has_converged.ensures ∙ c.if-has_converged.false)
    (sym c.is_stuck.ensures ∙ c.if-is_stuck.false) c.expand.ensures.leaves c.in_ok-next.was
