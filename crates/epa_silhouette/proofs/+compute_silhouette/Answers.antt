-- The walk meets its contract: each way out is the walk's definition unfolded once. How many faces are live falls at both calls. Assumes nothing.
use mathlib.Core.Path.{sym, ◌∙◌}
use Prim.Native.Nat.{◌<◌}
use Rattle.epa_polytope.specs.Silhouette.{zeros, walked_by}
use Rattle.epa_polytope.proofs.Doing.{nothing-else}
use Rattle.epa_polytope.proofs.Walks.{walk-full, walk-dead, walk-edge, walk-both, fall-first, fall-second}
use Rattle.epa_silhouette.proofs.+compute_silhouette.Goals as goal

pub returns-in_default : goal.returns-in_default
returns-in_default t c k = walk-full _ _ _ c.in_default.is

pub returns-then-deleted_at-ne0 : goal.returns-then-deleted_at-ne0
returns-then-deleted_at-ne0 t c k = walk-dead _ _ _ c.in-Ok.is (λ z. c.if-deleted_at-ne0.true (c.deleted_at.ensures ∙ z))

-- the face was live, and fewer are where it is deleted
pub compute_silhouette-r-requires : goal.compute_silhouette-r-requires
compute_silhouette-r-requires t c =
    (fall-first c.args.deleted.now c.set_deleted.new.deleted c.args.q.face t c.decreases (sym c.deleted_at.ensures ∙ c.if-deleted_at-ne0.false) c.set_deleted.ensures, tt)

pub compute_silhouette-requires : goal.compute_silhouette-requires
compute_silhouette-requires t c =
    let fewer : zeros c.set_deleted.new.deleted < t
    = fall-first c.args.deleted.now c.set_deleted.new.deleted c.args.q.face t c.decreases (sym c.deleted_at.ensures ∙ c.if-deleted_at-ne0.false) c.set_deleted.ensures in (
      fall-second _ c.set_deleted.new.deleted t _ _ _ _ (walked_by c.compute_silhouette-r.new.deleted c.compute_silhouette-r.new.edges c.compute_silhouette-r.result)
          fewer (c.compute_silhouette-r.ensures nothing-else),
      tt,
    )

pub returns-then-can_be_seen_by : goal.returns-then-can_be_seen_by
returns-then-can_be_seen_by t c k =
    walk-both _ _ _ c.in-Ok.is (sym c.deleted_at.ensures ∙ c.if-deleted_at-ne0.false)
    c.set_deleted.new.deleted _ _
    (sym (c.can_be_seen_by.ensures k) ∙ c.if-can_be_seen_by.true)
    c.set_deleted.ensures
    c.facing_at-first.ensures c.facing_at-second.ensures _ _
    (c.compute_silhouette-r.ensures k) (c.compute_silhouette.ensures k)

pub returns-else-can_be_seen_by : goal.returns-else-can_be_seen_by
returns-else-can_be_seen_by t c k =
    rw (← c.in-Ok.is) at c.note.ensures
    ∙ walk-edge _ _ _ c.in-Ok.is (sym c.deleted_at.ensures ∙ c.if-deleted_at-ne0.false)
    (sym (c.can_be_seen_by.ensures k) ∙ c.if-can_be_seen_by.false)
