-- `Vec3::length_squared` returns `length_squared_v`.
use Rattle.vector.specs.Vector.{length_squared_v}
use Rattle.vector.proofs.vec3.Vec3.length_squared.Goals as goal

pub returns : goal.returns
unfolding length_squared_v
returns c = c.dot.ensures
