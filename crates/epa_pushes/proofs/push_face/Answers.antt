-- `push_face` does what the run's `push_face` does: it is refused, or the face is written. Assumes nothing.
use native.Mathlib.Omega.{arith}
use Rattle.epa_polytope.proofs.Pushing.{face-refused, face-written}
use Rattle.epa_pushes.proofs.push_face.Goals as goal

pub returns-then-face_room-n-clause-leaves : goal.returns-then-face_room-n-clause-leaves
returns-then-face_room-n-clause-leaves c = face-refused _ _ _ _ _ c.face_room.ensures c.if-face_room-n.true

pub put_face-requires : goal.put_face-requires
put_face-requires c = omega (arith, c.face_room.ensures, c.if-face_room-n.false)

pub returns-clause-leaves : goal.returns-clause-leaves
returns-clause-leaves c =
    face-written _ _ _ _ _ c.face_room.ensures c.if-face_room-n.false c.put_face.ensures
    c.put_made.ensures c.set_deleted.ensures
