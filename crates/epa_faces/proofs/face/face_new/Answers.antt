-- What `face_new` returns, its calls folded back in the order of the code. Assumes nothing.
use Rattle.epa_polytope.specs.Face.{face_new, face_normal}
use Rattle.epa_faces.specs.Weighed.{weighed}
use Rattle.epa_faces.proofs.face.face_new.Goals as goal

pub weigh-weighed-requires : goal.weigh-weighed-requires
weigh-weighed-requires c = (c.sub-ab.ensures, c.sub-ac.ensures, c.cross-n.ensures)

pub returns : goal.returns
unfolding face_new face_normal weighed
returns c =
    simp (
      ← c.sub-ab.ensures,
      ← c.sub-ac.ensures,
      ← c.cross-n.ensures,
      c.weigh-weighed.ensures,
      ← c.normalize_or_zero.ensures,
    )
