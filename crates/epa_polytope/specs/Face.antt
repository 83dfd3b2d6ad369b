-- What a face is made of, by its three corners: `Face::new` and `Face::new_with_proj` of src/query/epa/epa3.rs, with `ccw_face_normal` of src/utils. Definitions only.
use Rattle.std.specs.Prelude.{Bool, true, false, Option, Some, None, Result, Ok, Err}
use Rattle.std.specs.Float.{Format}
use Rattle.number.specs.Constants.{polytope_tol}
use Rattle.vector.specs.declared.vec3.Vec3.{Vec3}
use Rattle.vector.specs.Vector.{zero_v, vec3, sub_v, cross_v, normalize_or_zero_v}
use Rattle.projection.specs.declared.triangle.TrianglePointLocation.{TrianglePointLocation}
use Rattle.projection.specs.declared.triangle.TrianglePointLocation.TheVariants.{OnVertex, OnEdge, OnFace, OnSolid}
use Rattle.projection.specs.declared.triangle.BarycentricCoordinates.{BarycentricCoordinates}
use Rattle.projection.specs.Triangle.{project_triangle, barycentric_coordinates}
use Rattle.projection.specs.Inside.{within_origin}
use Rattle.refusal.specs.declared.WouldPanic.{WouldPanic}
use Rattle.epa_polytope.specs.declared.types.Made.{Made}

-- `barycentric_coordinates().unwrap()`. It never panics (`never-unwraps-none` of the crate `projection`). Solid has zeros.
unfoldable pub weights_or : Result (Option BarycentricCoordinates) WouldPanic → Vec3
weights_or (Ok (Some b)) = vec3 b.u b.v b.w
weights_or (Ok None) = zero_v
weights_or (Err e) = zero_v

-- whether the face holds the projection: it does at a location inside, not where it is solid, and at a corner or on an edge if that lies at the origin
unfoldable pub holds_at : Bool → TrianglePointLocation → Bool
holds_at near (OnVertex i) = near
holds_at near (OnEdge i u v) = near
holds_at near (OnFace i u v w) = true
holds_at near OnSolid = false

-- `ccw_face_normal`, or zero where it has none
unfoldable pub face_normal : Format → Vec3 → Vec3 → Vec3 → Vec3
face_normal f a b c = normalize_or_zero_v f (cross_v f (sub_v f b a) (sub_v f c a))

-- `Face::new`
unfoldable pub face_new : Format → Vec3 → Vec3 → Vec3 → Made
face_new f a b c =
    let proj = project_triangle f (record { a = a; b = b; c = c }) zero_v in
    record {
      normal = face_normal f a b c;
      weights = weights_or (barycentric_coordinates proj.location);
      holds = holds_at (within_origin f proj.point (polytope_tol f)) proj.location;
    }
