-- `result` of src/query/gjk/gjk.rs: the two witness points, weighted over the vertices of a simplex. Definitions only.
use Rattle.std.specs.Prelude.{ℕ, zero, suc, ◌+◌, Bool, cond, ltb, Float, Result, Ok, Err}
use Rattle.std.specs.Result.{result_unwrap_or}
use Rattle.std.specs.Float.{Format}
use Rattle.refusal.specs.declared.WouldPanic.{WouldPanic}
use Rattle.refusal.specs.Refusal.{would_panic, number_or_panic}
use Rattle.vector.specs.declared.vec3.Vec3.{Vec3}
use Rattle.vector.specs.Vector.{zero_v, add_v, scale_v}
use Rattle.simplex.specs.declared.voronoi_simplex.VoronoiSimplex.{VoronoiSimplex}
use Rattle.shape.specs.declared.vertex.Vertex.{Vertex}
use Rattle.simplex.specs.Operations.{proj_coord, corner_point, prev_proj_coord, prev_point}
use Rattle.witnesses.specs.declared.Witnesses.{Witnesses}

-- ---- document 01's number of the answer, 0 or refusal 2, and its values: the point on each shape, zeros where it is refused
unfoldable pub witnesses_number : Result Witnesses WouldPanic → ℕ
witnesses_number r = number_or_panic r

abbrev pub witnesses_at : Vec3 → Vec3 → Witnesses
witnesses_at p1 p2 = record { point1 = p1; point2 = p2 }

unfoldable pub witnesses_values : Result Witnesses WouldPanic → Witnesses
witnesses_values r = result_unwrap_or r (witnesses_at zero_v zero_v)

-- ---- the previous weights, vertices and dimension, or the present ones
unfoldable pub weight_of : VoronoiSimplex → Bool → ℕ → Result Float WouldPanic
weight_of s prev i = cond prev (prev_proj_coord s i) (proj_coord s i)

unfoldable pub corner_of : VoronoiSimplex → Bool → ℕ → Result Vertex WouldPanic
corner_of s prev i = cond prev (prev_point s i) (corner_point s i)

unfoldable pub last_of : VoronoiSimplex → Bool → ℕ
last_of s prev = cond prev s.prev_dim s.dim

module _ (f : Format) where
  -- one turn of the loop: `res.0 += point.orig1 * coord; res.1 += point.orig2 * coord`. Refused where a reader is.
  abbrev pub weighed : Result Witnesses WouldPanic → Result Float WouldPanic → Result Vertex WouldPanic → Result Witnesses WouldPanic
  weighed (Ok r) (Ok c) (Ok v) = Ok (witnesses_at (add_v f r.point1 (scale_v f v.orig1 c)) (add_v f r.point2 (scale_v f v.orig2 c)))
  weighed (Ok r) (Ok c) (Err e) = Err e
  weighed (Ok r) (Err e) v = Err e
  weighed (Err e) c v = Err e

  unfoldable pub with_vertex : VoronoiSimplex → Bool → ℕ → Result Witnesses WouldPanic → Result Witnesses WouldPanic
  with_vertex s prev i sum = weighed sum (weight_of s prev i) (corner_of s prev i)

  -- the first n vertices
  unfoldable pub witnesses_to : VoronoiSimplex → Bool → ℕ → Result Witnesses WouldPanic
  witnesses_to s prev zero = Ok (witnesses_at zero_v zero_v)
  witnesses_to s prev (suc n) = with_vertex s prev n (witnesses_to s prev n)

  -- `for i in 0..dimension + 1`; where the dimension is above 3 the value is no simplex, and every reader refuses
  unfoldable pub result_of : VoronoiSimplex → Bool → Result Witnesses WouldPanic
  result_of s prev = let last = last_of s prev in cond (ltb last 4) (witnesses_to s prev (last + 1)) (Err would_panic)
