-- `Vec3::component` returns `component_v`, axis by axis.
use Rattle.vector.specs.Vector.{component_v}
use Rattle.vector.proofs.vec3.Vec3.component.Goals as goal

pub returns-in-X : goal.returns-in-X
unfolding component_v
returns-in-X c = simp c.in-X.is

pub returns-in-Y : goal.returns-in-Y
unfolding component_v
returns-in-Y c = simp c.in-Y.is

pub returns-in-Z : goal.returns-in-Z
unfolding component_v
returns-in-Z c = simp c.in-Z.is
