-- `Shape::local_support_point_toward` returns the definition's `local_support_point_toward`, shape by shape.
use Rattle.shape.specs.Support.{local_support_point_toward}
use Rattle.shape.proofs.support.Shape.local_support_point_toward.Goals as goal

pub returns-in-Ball : goal.returns-in-Ball
unfolding local_support_point_toward
returns-in-Ball c = simp (← c.mul.ensures, c.in-Ball.is)

pub returns-in-Cuboid : goal.returns-in-Cuboid
unfolding local_support_point_toward
returns-in-Cuboid c = simp (← c.new.ensures, ← c.cuboid_local.ensures, c.in-Cuboid.is)

pub returns-in-Capsule : goal.returns-in-Capsule
unfolding local_support_point_toward
returns-in-Capsule c = simp (← c.new-in-Capsule.ensures, ← c.new-in-Capsule-2.ensures, ← c.capsule_toward.ensures, c.in-Capsule.is)

pub returns-in-Triangle : goal.returns-in-Triangle
unfolding local_support_point_toward
returns-in-Triangle c = simp (← c.new-a.ensures, ← c.new-b.ensures, ← c.new-c.ensures, ← c.triangle_local.ensures, c.in-Triangle.is)
