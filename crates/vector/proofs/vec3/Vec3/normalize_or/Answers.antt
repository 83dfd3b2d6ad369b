-- `Vec3::normalize_or` returns `normalize_or_v`, by the two arms of its test.
use Rattle.vector.specs.Vector.{normalize_or_v}
use Rattle.vector.proofs.vec3.Vec3.normalize_or.Goals as goal

pub returns-then-is_usable : goal.returns-then-is_usable
unfolding normalize_or_v
returns-then-is_usable c = simp (← c.length_recip-recip.ensures, ← c.is_usable.ensures, ← c.mul.ensures, c.if-is_usable.true)

pub returns-else-is_usable : goal.returns-else-is_usable
unfolding normalize_or_v
returns-else-is_usable c = simp (← c.length_recip-recip.ensures, ← c.is_usable.ensures, c.if-is_usable.false)
