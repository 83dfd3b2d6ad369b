-- `Vec3::with_component` returns `with_component_v`, axis by axis.
use Rattle.vector.specs.Vector.{with_component_v}
use Rattle.vector.proofs.vec3.Vec3.with_component.Goals as goal

pub returns-in-X : goal.returns-in-X
unfolding with_component_v
returns-in-X c = simp c.in-X.is

pub returns-in-Y : goal.returns-in-Y
unfolding with_component_v
returns-in-Y c = simp c.in-Y.is

pub returns-in-Z : goal.returns-in-Z
unfolding with_component_v
returns-in-Z c = simp c.in-Z.is
