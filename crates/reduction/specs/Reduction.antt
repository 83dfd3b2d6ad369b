-- `project_origin_and_reduce` as two operations: where the origin projects on a simplex, and what the simplex becomes at a location. Definitions only.
-- Carries `project_origin` and `project_origin_and_reduce` of src/query/gjk/voronoi_simplex3.rs: finding the location and applying it, each by the Rust's cases.
use Rattle.std.specs.Prelude.{ℕ, Bool, ◌&&◌, ◌||◌, cond, List, [], ◌∷◌, leb, ltb, eqb, set, Float, Result, Ok, Err}
use Rattle.std.specs.Float.{Format}
use Rattle.vector.specs.declared.vec3.Vec3.{Vec3}
use Rattle.vector.specs.Vector.{one_f, zero_v}
use Rattle.projection.specs.declared.segment.SegmentPointLocation.{SegmentPointLocation}
use Rattle.projection.specs.declared.point_query.Projection.{Projection}
use Rattle.projection.specs.declared.triangle.TrianglePointLocation.{TrianglePointLocation}
use Rattle.tetrahedron.specs.declared.TetrahedronPointLocation.{TetrahedronPointLocation}
use Rattle.projection.specs.Values.{Values}
use Rattle.projection.specs.Segment.{SegmentProjection, project_segment}
use Rattle.projection.specs.Triangle.{TriangleProjection, project_triangle}
use Rattle.tetrahedron.specs.Tetrahedron.{TetrahedronProjection, project_tetrahedron}
use Rattle.simplex.specs.declared.voronoi_simplex.VoronoiSimplex.{VoronoiSimplex}
use Rattle.simplex.specs.Simplex.{simplex_of, is_simplex, vertex_at, swap_in}
use Rattle.reduction.specs.declared.location.Location.{Location}
use Rattle.reduction.specs.declared.location.Location.TheVariants.{OnVertex, OnEdge, OnFace, OnSolid}
use Rattle.reduction.specs.declared.applying.ApplyError.{ApplyError}
use Rattle.reduction.specs.declared.applying.ApplyError.TheVariants.{NoSuchLocation, NoSimplex}
use Rattle.reduction.specs.declared.applying.Applied.{Applied}
use Rattle.refusal.specs.declared.WouldPanic.{WouldPanic}
use Rattle.refusal.specs.Refusal.{would_panic, number_or_panic}

-- a point of a simplex, and where on it the point lies
abbrev pub Projected : Type 0
Projected = Projection Location

-- ---- document 01's number and values of each answer

-- of a projection: 0 or refusal 2; its values: point and location, and zeros for the refusal, the corner 0 being the location of zeros
unfoldable pub projected_number : Result Projected WouldPanic → ℕ
projected_number r = number_or_panic r

unfoldable pub projected_values : Result Projected WouldPanic → Values Location
projected_values (Ok p) = record { point = p.point; location = p.location }
projected_values (Err e) = record { point = zero_v; location = OnVertex 0 }

-- of applying a location: 0, refusal 7 or refusal 2; it has no values, the simplex stands beside it
unfoldable pub application_number : Result (Unit {0}) ApplyError → ℕ
application_number (Ok u) = 0
application_number (Err NoSuchLocation) = 7
application_number (Err NoSimplex) = 2

-- ---- `project_origin`: point and location; the simplex stays as it is

unfoldable pub segment_location : SegmentPointLocation → Location
segment_location (SegmentPointLocation.OnVertex i) = OnVertex i
segment_location (SegmentPointLocation.OnEdge u v) = OnEdge 0 u v

unfoldable pub triangle_location : TrianglePointLocation → Location
triangle_location (TrianglePointLocation.OnVertex i) = OnVertex i
triangle_location (TrianglePointLocation.OnEdge i u v) = OnEdge i u v
triangle_location (TrianglePointLocation.OnFace i u v w) = OnFace i u v w
triangle_location TrianglePointLocation.OnSolid = OnSolid

unfoldable pub tetrahedron_location : TetrahedronPointLocation → Location
tetrahedron_location (TetrahedronPointLocation.OnVertex i) = OnVertex i
tetrahedron_location (TetrahedronPointLocation.OnEdge i u v) = OnEdge i u v
tetrahedron_location (TetrahedronPointLocation.OnFace i u v w) = OnFace i u v w
tetrahedron_location TetrahedronPointLocation.OnSolid = OnSolid

-- a projection, with its location as one on a simplex
abbrev pub segment_projected : Result SegmentProjection WouldPanic → Result Projected WouldPanic
segment_projected (Ok p) = Ok (record { point = p.point; location = segment_location p.location })
segment_projected (Err e) = Err e

abbrev pub triangle_projected : TriangleProjection → Projected
triangle_projected p = record { point = p.point; location = triangle_location p.location }

abbrev pub tetrahedron_projected : Result TetrahedronProjection WouldPanic → Result Projected WouldPanic
tetrahedron_projected (Ok p) = Ok (record { point = p.point; location = tetrahedron_location p.location })
tetrahedron_projected (Err e) = Err e

module _ (f : Format) where
  unfoldable pub locate_segment : Vec3 → Vec3 → Result Projected WouldPanic
  locate_segment a b = segment_projected (project_segment f (record { a = a; b = b }) zero_v)

  unfoldable pub locate_triangle : Vec3 → Vec3 → Vec3 → Projected
  locate_triangle a b c = triangle_projected (project_triangle f (record { a = a; b = b; c = c }) zero_v)

  unfoldable pub locate_tetrahedron : Vec3 → Vec3 → Vec3 → Vec3 → Result Projected WouldPanic
  locate_tetrahedron a b c d = tetrahedron_projected (project_tetrahedron f (record { a = a; b = b; c = c; d = d }) zero_v)

  -- by the dimension
  unfoldable pub find_location : VoronoiSimplex → Result Projected WouldPanic
  find_location s =
      let a = (vertex_at s 0).point in
      let b = (vertex_at s 1).point in
      let c = (vertex_at s 2).point in
      let d = (vertex_at s 3).point in
      cond (eqb s.dim 0) (Ok (record { point = a; location = OnVertex 0 }))
      (cond (eqb s.dim 1) (locate_segment a b)
      (cond (eqb s.dim 2) (Ok (locate_triangle a b c)) (locate_tetrahedron a b c d)))

  unfoldable pub project_origin : VoronoiSimplex → Result Projected WouldPanic
  project_origin s = cond (is_simplex s) (find_location s) (Err would_panic)

-- ---- what the simplex becomes at a location that it has; what it becomes at another is never asked

-- `self.vertices[i] = self.vertices[3]`
unfoldable pub overwrite_in : VoronoiSimplex → ℕ → VoronoiSimplex
overwrite_in s i =
    simplex_of s.prev_vertices s.prev_proj s.prev_dim (set s.vertices i (vertex_at s 3)) s.proj s.dim

-- `self.proj = p; self.dim = d`
unfoldable pub place_in : VoronoiSimplex → List Float → ℕ → VoronoiSimplex
place_in s p d = simplex_of s.prev_vertices s.prev_proj s.prev_dim s.vertices p d

-- `self.proj[0] = 1.0; self.dim = 0`
unfoldable pub to_first : VoronoiSimplex → VoronoiSimplex
to_first s = place_in s (set s.proj 0 one_f) 0

-- `self.swap(0, i)`, and the same
unfoldable pub to_vertex : VoronoiSimplex → ℕ → VoronoiSimplex
to_vertex s i = to_first (swap_in s 0 i)

-- `self.proj[0] = u; self.proj[1] = v; self.dim = d`
unfoldable pub to_edge : VoronoiSimplex → Float → Float → ℕ → VoronoiSimplex
to_edge s u v d = place_in s (set (set s.proj 0 u) 1 v) d

-- dimension 1
unfoldable pub reduce_segment : VoronoiSimplex → Location → VoronoiSimplex
reduce_segment s (OnVertex i) = cond (eqb i 0) (to_first s) (to_vertex s 1)
reduce_segment s (OnEdge i u v) = to_edge s u v s.dim
reduce_segment s (OnFace i u v w) = s
reduce_segment s OnSolid = s

-- dimension 2
unfoldable pub triangle_edge : VoronoiSimplex → ℕ → Float → Float → VoronoiSimplex
triangle_edge s i u v =
    cond (eqb i 0) (to_edge s u v 1)
    (cond (eqb i 1) (to_edge (swap_in s 0 2) v u 1)
    (to_edge (swap_in s 1 2) u v 1))

unfoldable pub reduce_triangle : VoronoiSimplex → Location → VoronoiSimplex
reduce_triangle s (OnVertex i) = to_vertex s i
reduce_triangle s (OnEdge i u v) = triangle_edge s i u v
reduce_triangle s (OnFace i u v w) = place_in s (u ∷ v ∷ w ∷ []) s.dim
reduce_triangle s OnSolid = s

-- dimension 3: the swaps of the first `match i` of an edge
unfoldable pub edge_first : VoronoiSimplex → ℕ → VoronoiSimplex
edge_first s i =
    cond (eqb i 0) s
    (cond (eqb i 1) (swap_in s 1 2)
    (cond (eqb i 2) (swap_in s 1 3)
    (cond (eqb i 3) (swap_in s 0 2)
    (cond (eqb i 4) (swap_in s 0 3)
    (swap_in (swap_in s 0 2) 1 3)))))

-- and the weights of the second
unfoldable pub tetrahedron_edge : VoronoiSimplex → ℕ → Float → Float → VoronoiSimplex
tetrahedron_edge s i u v =
    let t = edge_first s i in
    cond (eqb i 3 || eqb i 4) (to_edge t v u 1) (to_edge t u v 1)

unfoldable pub tetrahedron_face : VoronoiSimplex → ℕ → Float → Float → Float → VoronoiSimplex
tetrahedron_face s i u v w =
    cond (eqb i 0) (place_in s (u ∷ v ∷ w ∷ []) 2)
    (cond (eqb i 1) (place_in (overwrite_in s 2) (u ∷ v ∷ w ∷ []) 2)
    (cond (eqb i 2) (place_in (overwrite_in s 1) (u ∷ w ∷ v ∷ []) 2)
    (place_in (overwrite_in s 0) (w ∷ u ∷ v ∷ []) 2)))

unfoldable pub reduce_tetrahedron : VoronoiSimplex → Location → VoronoiSimplex
reduce_tetrahedron s (OnVertex i) = to_vertex s i
reduce_tetrahedron s (OnEdge i u v) = tetrahedron_edge s i u v
reduce_tetrahedron s (OnFace i u v w) = tetrahedron_face s i u v w
reduce_tetrahedron s OnSolid = s

-- by the dimension
unfoldable pub reduce_to : VoronoiSimplex → Location → VoronoiSimplex
reduce_to s l =
    cond (eqb s.dim 0) (to_first s)
    (cond (eqb s.dim 1) (reduce_segment s l)
    (cond (eqb s.dim 2) (reduce_triangle s l) (reduce_tetrahedron s l)))

-- ---- applying any location

-- the locations of a simplex of dimension d: corners 0 to d; 0, 1, 3 or 6 edges; a triangle takes any face number, a tetrahedron has four; solid at dimensions 2 and 3 only
unfoldable pub has_location : ℕ → Location → Bool
has_location d (OnVertex i) = leb i d
has_location d (OnEdge i u v) = (eqb d 1 && ltb i 1) || (eqb d 2 && ltb i 3) || (eqb d 3 && ltb i 6)
has_location d (OnFace i u v w) = eqb d 2 || (eqb d 3 && ltb i 4)
has_location d OnSolid = eqb d 2 || eqb d 3

abbrev pub taken_with : VoronoiSimplex → Applied
taken_with s = record { simplex = s; outcome = Ok tt }

abbrev pub refused_with : VoronoiSimplex → ApplyError → Applied
refused_with s e = record { simplex = s; outcome = Err e }

-- whether the value is a simplex is tested before all else; what is refused hands the simplex back as it came in
unfoldable pub apply_location : VoronoiSimplex → Location → Applied
apply_location s l =
    cond (is_simplex s)
    (cond (has_location s.dim l) (taken_with (reduce_to s l)) (refused_with s NoSuchLocation))
    (refused_with s NoSimplex)

-- ---- `project_origin_and_reduce`: the simplex is reduced to the location that was found for it. The two operations in turn are the same: proofs/Fits.antt, `both-in-turn`.

pub record Reduced : Type 0 where
  pub simplex : VoronoiSimplex
  pub projection : Result Projected WouldPanic

abbrev pub reduced_at : VoronoiSimplex → Result Projected WouldPanic → Reduced
reduced_at s (Ok p) = record { simplex = reduce_to s p.location; projection = Ok p }
reduced_at s (Err e) = record { simplex = s; projection = Err e }

unfoldable pub project_origin_and_reduce : Format → VoronoiSimplex → Reduced
project_origin_and_reduce f s = reduced_at s (project_origin f s)

-- the two operations in turn, after the first: what was found is applied, and what applying answers is not looked at
abbrev pub in_turn : VoronoiSimplex → Result Projected WouldPanic → Reduced
in_turn s (Ok p) = record { simplex = (apply_location s p.location).simplex; projection = Ok p }
in_turn s (Err e) = record { simplex = s; projection = Err e }
