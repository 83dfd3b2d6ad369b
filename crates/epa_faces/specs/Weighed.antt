-- What `Face::new` of src/query/epa/epa3.rs takes of the projection of the origin on its triangle, for the private functions that compute it.
-- Definitions only; who reads the public contracts need not read them.
use Rattle.std.specs.Prelude.{Float}
use Rattle.std.specs.Float.{Format}
use Rattle.number.specs.Constants.{polytope_tol}
use Rattle.vector.specs.declared.vec3.Vec3.{Vec3}
use Rattle.vector.specs.Vector.{vec3}
use Rattle.projection.specs.Triangle.{TriangleProjection, barycentric_coordinates}
use Rattle.projection.specs.Inside.{within_origin}
use Rattle.epa_polytope.specs.Face.{weights_or, holds_at}
use Rattle.epa_faces.specs.declared.face.Weighed.{Weighed}

module _ (f : Format) where
  -- the weights of the corners, and whether the face holds the projection
  unfoldable pub weighed : TriangleProjection → Weighed
  weighed proj =
      record {
        weights = weights_or (barycentric_coordinates proj.location);
        holds = holds_at (within_origin f proj.point (polytope_tol f)) proj.location;
      }

  -- what that is at a corner or on an edge
  unfoldable pub on_border : Float → Float → Float → Vec3 → Weighed
  on_border u v w point = record { weights = vec3 u v w; holds = within_origin f point (polytope_tol f) }
