-- A shape that is no ball keeps the trait's default. Assumes nothing.
use mathlib.Core.Path.{◌≡◌, refl}
use lib.Ieee.{Float}
use Rattle.vector.specs.declared.vec3.Vec3.{Vec3}
use Rattle.shape.specs.declared.support.Shape.{Shape}
use Rattle.shape.specs.declared.support.Shape.TheVariants.{Ball, Cuboid, Capsule, Triangle}
use Rattle.shape.specs.Support.{ball_or}

pub by_default : (g : Shape) (own : Float → Vec3) (default : Vec3) → ((r : Float) → g ≡ Ball r → ⊥) → default ≡ ball_or g own default
unfolding ball_or
by_default (Ball r) own default k = absurd (k r refl)
by_default (Cuboid x y z) own default k = refl
by_default (Capsule ax ay az bx by bz r) own default k = refl
by_default (Triangle ax ay az bx by bz cx cy cz) own default k = refl
