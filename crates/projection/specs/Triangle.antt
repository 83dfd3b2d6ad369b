-- The projection of a point on a triangle in space, taken as solid, of any format f: `point_triangle.rs`, with the tests in its order, one rounding each; and of
-- `triangle.rs` `is_affinely_dependent` and `barycentric_coordinates`. Definitions only.
-- Those texts are not published with the crate's: docs/DECISIONS.md says what stands in for them.
use Rattle.std.specs.Prelude.{ℕ, Bool, true, false, cond, ◌&&◌, eqb, Float, Option, Some, None, Result, Ok, Err}
use Rattle.std.specs.Float.Ieee as Ieee
use Rattle.std.specs.Float.{Format}
use Rattle.std.specs.Float.Ieee.{lt, le, ne}
use Rattle.vector.specs.declared.vec3.Vec3.{Vec3}
use Rattle.vector.specs.Vector.{zero_f, one_f, vec3, zero_v, add_v, sub_v, scale_v, dot_v, cross_v, length_squared_v, ◌⊕◌, ◌⊖◌, ◌⊗◌, ◌⊘◌}
use Rattle.number.specs.Constants.{epsilon, hundred_f}
use Rattle.projection.specs.Relative.{relative_eq}
use Rattle.projection.specs.Signs.{at_least_zero, at_most_zero}
use Rattle.projection.specs.declared.triangle.Triangle.{Triangle}
use Rattle.projection.specs.declared.triangle.TrianglePointLocation.{TrianglePointLocation}
use Rattle.projection.specs.declared.triangle.TrianglePointLocation.TheVariants.{OnVertex, OnEdge, OnFace, OnSolid}
use Rattle.projection.specs.declared.point_query.Projection.{Projection}
use Rattle.projection.specs.declared.triangle.BarycentricCoordinates.{BarycentricCoordinates}
use Rattle.projection.specs.declared.triangle.Differences.{Differences}
use Rattle.projection.specs.declared.triangle.Dots.{Dots}
use Rattle.projection.specs.declared.triangle.ProjectionInfo.{ProjectionInfo}
use Rattle.refusal.specs.declared.WouldPanic.{WouldPanic}
use Rattle.refusal.specs.Refusal.{would_panic, number_or_panic}

-- a point of a triangle, and where on it the point lies
abbrev pub TriangleProjection : Type 0
TriangleProjection = Projection TrianglePointLocation

-- ---- the Voronoi regions of the corners
unfoldable pub on_vertex : ℕ → Vec3 → TriangleProjection
on_vertex i corner = record { point = corner; location = OnVertex i }

unfoldable pub vertex_region : Triangle → Dots → Option TriangleProjection
vertex_region t k =
    cond (at_most_zero k.ab_ap && at_most_zero k.ac_ap) (Some (on_vertex 0 t.a))
    (cond (at_least_zero k.ab_bp && le k.ac_bp k.ab_bp) (Some (on_vertex 1 t.b))
    (cond (at_least_zero k.ac_cp && le k.ab_cp k.ac_cp) (Some (on_vertex 2 t.c)) None))

-- what was found, or else the other
unfoldable pub or_else : Option TriangleProjection → TriangleProjection → TriangleProjection
or_else (Some found) other = found
or_else None other = other

-- the face's number: `if n.dot(ap) >= 0.0 { 0 } else { 1 }`
unfoldable pub face_side : Float → ℕ
face_side n_ap = cond (at_least_zero n_ap) 0 1

module _ (f : Format) where
  -- the edges, the way to pt from each corner, and their products
  unfoldable pub differences : Triangle → Vec3 → Differences
  differences t pt =
      record {
        ab = sub_v f t.b t.a;
        ac = sub_v f t.c t.a;
        bc = sub_v f t.c t.b;
        ap = sub_v f pt t.a;
        bp = sub_v f pt t.b;
        cp = sub_v f pt t.c;
      }

  unfoldable pub dots : Differences → Dots
  dots v =
      record {
        ab_ap = dot_v f v.ab v.ap;
        ac_ap = dot_v f v.ac v.ap;
        ab_bp = dot_v f v.ab v.bp;
        ac_bp = dot_v f v.ac v.bp;
        ab_cp = dot_v f v.ab v.cp;
        ac_cp = dot_v f v.ac v.cp;
      }

  -- the Voronoi regions of the edges, else the face
  unfoldable pub check_edges : Differences → Dots → ProjectionInfo
  check_edges v k =
      let n = cross_v f v.ab v.ac in
      let vc = dot_v f n (cross_v f v.ab v.ap) in
      let vb = Ieee.neg (dot_v f n (cross_v f v.ac v.cp)) in
      let va = dot_v f n (cross_v f v.bc v.bp) in
      cond (lt vc zero_f && at_least_zero k.ab_ap && at_most_zero k.ab_bp) ProjectionInfo.OnAB
      (cond (lt vb zero_f && at_least_zero k.ac_ap && at_most_zero k.ac_cp) ProjectionInfo.OnAC
      (cond (lt va zero_f && at_least_zero (◌⊖◌ f k.ac_bp k.ab_bp) && at_least_zero (◌⊖◌ f k.ab_cp k.ac_cp)) ProjectionInfo.OnBC
      (ProjectionInfo.OnFace (face_side (dot_v f n v.ap)) va vb vc)))

  -- a + ab * v on the edge i
  unfoldable pub on_edge : ℕ → Vec3 → Vec3 → Float → TriangleProjection
  on_edge i a ab v = record { point = add_v f a (scale_v f ab v); location = OnEdge i (◌⊖◌ f one_f v) v }

  -- the face's point by its weights, or solid
  unfoldable pub on_face : Vec3 → Vec3 → Vec3 → Vec3 → ℕ → Float → Float → Float → TriangleProjection
  on_face pt a ab ac side va vb vc =
      let sum = ◌⊕◌ f (◌⊕◌ f va vb) vc in
      let denom = ◌⊘◌ f one_f sum in
      let v = ◌⊗◌ f vb denom in
      let w = ◌⊗◌ f vc denom in
      cond (ne sum zero_f)
      (record { point = add_v f (add_v f a (scale_v f ab v)) (scale_v f ac w); location = OnFace side (◌⊖◌ f (◌⊖◌ f one_f v) w) v w })
      (record { point = pt; location = OnSolid })

  -- the projection on that edge or on the face
  unfoldable pub located : Triangle → Vec3 → Differences → Dots → ProjectionInfo → TriangleProjection
  located t pt v k ProjectionInfo.OnAB = on_edge 0 t.a v.ab (◌⊘◌ f k.ab_ap (length_squared_v f v.ab))
  located t pt v k ProjectionInfo.OnAC = on_edge 2 t.a v.ac (◌⊘◌ f k.ac_ap (length_squared_v f v.ac))
  located t pt v k ProjectionInfo.OnBC = on_edge 1 t.b v.bc (◌⊘◌ f (dot_v f v.bc v.bp) (length_squared_v f v.bc))
  located t pt v k (ProjectionInfo.OnFace side va vb vc) = on_face pt t.a v.ab v.ac side va vb vc

  -- `project_local_point_and_get_location`
  unfoldable pub project_triangle : Triangle → Vec3 → TriangleProjection
  project_triangle t pt =
      let v = differences t pt in
      let k = dots v in
      or_else (vertex_region t k) (located t pt v k (check_edges v k))

  -- `is_affinely_dependent`
  unfoldable pub is_affinely_dependent : Triangle → Bool
  is_affinely_dependent t =
      let e = ◌⊗◌ f (epsilon f) hundred_f in
      let q = length_squared_v f (cross_v f (sub_v f t.b t.a) (sub_v f t.c t.a)) in
      relative_eq f q zero_f (◌⊗◌ f e e) (epsilon f)

-- ---- `barycentric_coordinates`. It refuses a corner or an edge that no triangle has, where the Rust panics.
abbrev pub weights : Float → Float → Float → BarycentricCoordinates
weights u v w = record { u = u; v = v; w = w }

unfoldable pub vertex_weights : ℕ → Result (Option BarycentricCoordinates) WouldPanic
vertex_weights i =
    cond (eqb i 0) (Ok (Some (weights one_f zero_f zero_f)))
    (cond (eqb i 1) (Ok (Some (weights zero_f one_f zero_f)))
    (cond (eqb i 2) (Ok (Some (weights zero_f zero_f one_f))) (Err would_panic)))

unfoldable pub edge_weights : ℕ → Float → Float → Result (Option BarycentricCoordinates) WouldPanic
edge_weights i u v =
    cond (eqb i 0) (Ok (Some (weights u v zero_f)))
    (cond (eqb i 1) (Ok (Some (weights zero_f u v)))
    (cond (eqb i 2) (Ok (Some (weights u zero_f v))) (Err would_panic)))

unfoldable pub barycentric_coordinates : TrianglePointLocation → Result (Option BarycentricCoordinates) WouldPanic
barycentric_coordinates (OnVertex i) = vertex_weights i
barycentric_coordinates (OnEdge i u v) = edge_weights i u v
barycentric_coordinates (OnFace i u v w) = Ok (Some (weights u v w))
barycentric_coordinates OnSolid = Ok None

-- ---- document 01's number of an answer, 0 or refusal 2, and its values: whether there are weights, for the Rust's `None` has none, and the weights, zeros where there are none
unfoldable pub barycentric_number : Result (Option BarycentricCoordinates) WouldPanic → ℕ
barycentric_number r = number_or_panic r

pub record WeightValues : Type 0 where
  pub some : Bool
  pub weights : Vec3

unfoldable pub barycentric_values : Result (Option BarycentricCoordinates) WouldPanic → WeightValues
barycentric_values (Ok (Some b)) = record { some = true; weights = vec3 b.u b.v b.w }
barycentric_values (Ok None) = record { some = false; weights = zero_v }
barycentric_values (Err e) = record { some = false; weights = zero_v }
