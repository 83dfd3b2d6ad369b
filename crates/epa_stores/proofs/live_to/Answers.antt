-- What `live_to` returns: as many as are live among those passed. Assumes nothing.
use native.Mathlib.Omega.{arith}
use mathlib.Core.Path.{refl, sym, ◌∙◌}
use Rattle.epa_polytope.specs.Stores.{live_to}
use Rattle.epa_stores.proofs.Live.{live_most, live_more, live_same}
use Rattle.epa_stores.proofs.live_to.Goals as goal
use Rattle.epa_stores.proofs.live_to.Goals.{then-deleted_at-eq0, else-deleted_at-eq0}

pub loop-i-init : goal.loop-i-init
unfolding live_to
loop-i-init c = refl

pub overflow_add-live : goal.overflow_add-live
overflow_add-live c = omega (arith, live_most c.loop-i.i c.args.deleted.now)

pub loop-i-preserved : goal.loop-i-preserved
loop-i-preserved c =
    elim c.if-deleted_at-eq0.branch [
      | then-deleted_at-eq0 w ↦ live_more _ _ _ (sym c.deleted_at.ensures ∙ w.if-deleted_at-eq0.true) c.loop-i.invariant w.live-is
      | else-deleted_at-eq0 w ↦ live_same _ _ _ (λ z. w.if-deleted_at-eq0.false (c.deleted_at.ensures ∙ z)) c.loop-i.invariant w.live-is
    ]
