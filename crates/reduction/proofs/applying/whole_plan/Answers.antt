-- `whole_plan` plans `apply_location`: the value and the location are tested, then the location is planned.
use mathlib.Core.Path.{sym, ap}
use Rattle.simplex.proofs.Laws.{small}
use Rattle.reduction.specs.Reduction.{place_in, taken_with, apply_location}
use Rattle.reduction.proofs.applying.whole_plan.Goals as goal

pub plan_of-requires : goal.plan_of-requires
plan_of-requires c = ((small _ (sym c.if-not-is_simplex.ensures)).dimension, sym c.if-not-has_location.ensures)

pub returns : goal.returns
unfolding apply_location place_in
returns c =
    let plan = c.plan_of.ensures c.args.s in
    simp (← c.if-not-is_simplex.ensures, ← c.if-not-has_location.ensures) (plan.there, ap taken_with plan.gives)
