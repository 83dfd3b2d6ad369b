-- `Vec3::length_recip` returns `length_recip_v`.
use lib.Ieee.{of_bits}
use Rattle.vector.specs.Vector.{length_recip_v}
use Rattle.vector.proofs.vec3.Vec3.length_recip.Goals as goal

pub returns : goal.returns
unfolding length_recip_v of_bits
returns c = simp (← c.length.ensures)
