-- The inside flag of a projection, and `PointProjection::is_inside_eps`, of any format f. Definitions only.
-- Carries `relative_eq_vector` of src/utils/relative_eq.rs, by which `point_segment.rs` and `point_triangle.rs` set the flag, and `is_inside_eps`. But for the first their text is not published with the crate's: docs/DECISIONS.md says what stands in for it.
use Rattle.std.specs.Prelude.{Bool, ◌&&◌, ◌||◌, Float}
use Rattle.std.specs.Float.{Format}
use Rattle.std.specs.Float.Ieee.{lt}
use Rattle.vector.specs.declared.vec3.Vec3.{Vec3}
use Rattle.vector.specs.Vector.{zero_v, sub_v, length_squared_v, ◌⊗◌}
use Rattle.number.specs.Constants.{epsilon}
use Rattle.projection.specs.Relative.{relative_eq}

module _ (f : Format) where
  -- `relative_eq!(x, y)`, with both tolerances at `DEFAULT_EPSILON`
  abbrev pub near : Float → Float → Bool
  near x y = relative_eq f x y (epsilon f) (epsilon f)

  -- the flag, `relative_eq_vector(point, pt)`: component by component
  unfoldable pub is_inside : Vec3 → Vec3 → Bool
  is_inside point pt = near point.x pt.x && near point.y pt.y && near point.z pt.z

  -- `(pt - point).length_squared() < d * d`
  unfoldable pub within : Vec3 → Vec3 → Float → Bool
  within point pt d = lt (length_squared_v f (sub_v f pt point)) (◌⊗◌ f d d)

  -- `is_inside_eps`, of a projection of pt with its flag
  unfoldable pub is_inside_eps : Bool → Vec3 → Vec3 → Float → Bool
  is_inside_eps flag point pt d = flag || within point pt d

  -- what is left of it at the origin and at the polytope's tolerance, where alone it is asked: there the flag adds nothing (`flag-adds-nothing` of proofs/Inside.antt)
  unfoldable pub within_origin : Vec3 → Float → Bool
  within_origin point d = within point zero_v d
