-- `Shape::unit_for` returns the definition's `unit_for`, shape by shape.
use lib.Ieee.{of_bits}
use Rattle.vector.specs.Vector.{y_v}
use Rattle.shape.specs.Support.{unit_for}
use Rattle.shape.proofs.support.Shape.unit_for.Goals as goal

pub returns-in-Ball : goal.returns-in-Ball
unfolding unit_for y_v of_bits
returns-in-Ball c = simp (← c.normalize.ensures, c.in-Ball.is)

pub returns-in-Cuboid : goal.returns-in-Cuboid
unfolding unit_for y_v of_bits
returns-in-Cuboid c = simp c.in-Cuboid.is

pub returns-in-Capsule : goal.returns-in-Capsule
unfolding unit_for y_v of_bits
returns-in-Capsule c = simp (← c.normalize_or.ensures, c.in-Capsule.is)

pub returns-in-Triangle : goal.returns-in-Triangle
unfolding unit_for y_v of_bits
returns-in-Triangle c = simp c.in-Triangle.is
