-- `Vec3::normalize` returns `normalize_v`.
use Rattle.vector.specs.Vector.{normalize_v}
use Rattle.vector.proofs.vec3.Vec3.normalize.Goals as goal

pub returns : goal.returns
unfolding normalize_v
returns c = simp (← c.length_recip.ensures, ← c.mul.ensures)
