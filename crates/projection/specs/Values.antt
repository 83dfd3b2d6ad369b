-- The values of a projection: its point, and its location, of the kind L that its shape has. Definitions only.
use Rattle.vector.specs.declared.vec3.Vec3.{Vec3}

pub record Values (L : Type 0) : Type 0 where
  pub point : Vec3
  pub location : L
