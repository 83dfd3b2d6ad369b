-- `Vec3::length` returns `length_v`: the root of what `length_squared` returns.
use Rattle.vector.specs.Vector.{length_v}
use Rattle.vector.proofs.vec3.Vec3.length.Goals as goal

pub returns : goal.returns
unfolding length_v
returns c = simp (← c.length_squared.ensures, ← c.length_of.ensures)
