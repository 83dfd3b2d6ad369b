-- `ray_toi_with_halfspace` of query::details, of any format f. Definitions only.
-- Its text is not published with the crate's: docs/DECISIONS.md says what stands in for it.
use Rattle.std.specs.Prelude.{Bool, cond, Float, Option, Some, None}
use Rattle.std.specs.Float.{Format}
use Rattle.number.specs.Constants.{epsilon}
use Rattle.number.specs.Small.{ge}
use Rattle.projection.specs.Relative.{relative_eq}
use Rattle.vector.specs.declared.vec3.Vec3.{Vec3}
use Rattle.vector.specs.Vector.{zero_f, sub_v, dot_v, ◌⊘◌}
use Rattle.cast.specs.declared.ray.Ray.{Ray}

module _ (f : Format) where
  -- `relative_eq!(x, 0.0)`, with both tolerances at `DEFAULT_EPSILON`
  unfoldable pub is_zero : Float → Bool
  is_zero x = relative_eq f x zero_f (epsilon f) (epsilon f)

  unfoldable pub ray_toi_with_halfspace : Vec3 → Vec3 → Ray → Option Float
  ray_toi_with_halfspace center normal ray =
      let dpos = sub_v f center ray.origin in
      let denom = dot_v f normal ray.dir in
      let t = ◌⊘◌ f (dot_v f normal dpos) denom in
      cond (is_zero denom) None (cond (ge t zero_f) (Some t) None)
