-- What `face_id_new` returns. Assumes nothing.
use Rattle.epa_polytope.specs.Steps.{face_id_new}
use Rattle.epa_pushes.proofs.face_id_new.Goals as goal

pub returns-then-neg_dist-tol : goal.returns-then-neg_dist-tol
unfolding face_id_new
returns-then-neg_dist-tol c = simp c.if-neg_dist-tol.true

pub returns : goal.returns
unfolding face_id_new
returns c = simp c.if-neg_dist-tol.false
