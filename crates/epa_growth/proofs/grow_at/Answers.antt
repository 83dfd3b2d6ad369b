-- `grow_at` does what the run's `grow_at` does: the face is made, linked and pushed, and queued if it holds the projection. What is left after the
-- push is told once, of the place where `push_face` has returned; the three ways out are its cases. Assumes nothing.
use Rattle.std.proofs.Common.{◌^◌, ◌<◌, length, refl, rules}
use borrow.Author.Tests.{not-true, not-false}
use Rattle.std.proofs.lemmas.Result.{err_from_is_err_and}
use Rattle.epa_polytope.specs.Promises.{single}
use Rattle.epa_polytope.specs.Stores.{Lists, with_vertices}
use Rattle.epa_polytope.proofs.Growing.{FacePushed, face-pushed, grow-refused, grow-plain, grow-queued}
use Rattle.epa_stores.specs.Lent.{held}
use Rattle.epa_growth.specs.Growth.{faces_and_heap}
use Rattle.epa_growth.proofs.Beside.{face-beside}
use Rattle.epa_growth.proofs.grow_at.Goals as goal
use Rattle.epa_growth.proofs.grow_at.Goals.{After-push_face}

ids-fit : (c : After-push_face) → length c.set_neighbour.new.ids < 2 ^ 64
ids-fit c = search rules

pushes : (c : After-push_face) (k : Lists)
    → FacePushed single c.args.expansion c.args.face c.args.opp_pt_id (with_vertices c.args.vertices.now (faces_and_heap (held c.args.stores.now) k)) c.args.tally
    c.made_of-made.result (with_vertices c.args.vertices.now (faces_and_heap (held c.push_face.new.stores) k)) c.push_face.result
pushes c k =
    face-pushed single _ _ _ _ _ c.corner_at-a.ensures c.corner_at-b.ensures c.made_of-made.ensures
    c.set_neighbour.ensures refl c.before-2.ensures (ids-fit c) (face-beside (with_vertices c.args.vertices.now k) _ _ _ c.push_face.ensures.leaves)

pub returns-in_err-pushed-clause-leaves : goal.returns-in_err-pushed-clause-leaves
returns-in_err-pushed-clause-leaves c k =
    let p = err_from_is_err_and c.from_residual.result c.from_residual.ensures.1 in
    rw (p.1, p.2) (grow-refused (pushes (goal.at.returns-in_err-pushed-clause-leaves c).After-push_face k) c.in_err-pushed.was)

pub returns-then-not-made-clause-leaves : goal.returns-then-not-made-clause-leaves
returns-then-not-made-clause-leaves c k =
    grow-plain (pushes (goal.at.returns-then-not-made-clause-leaves c).After-push_face k) c.in_ok-pushed.was (not-true _ c.if-not-made.true)

pub returns-clause-leaves : goal.returns-clause-leaves
returns-clause-leaves c k =
    grow-queued (pushes (goal.at.returns-clause-leaves c).After-push_face k) c.in_ok-pushed.was (not-false _ c.if-not-made.false)
    (c.queue_new.ensures.leaves k)
