-- The public operations of the simplex. Definitions only. Each tests first that the value is a simplex, and a refused one hands it back as it came in.
-- Carries the methods of `VoronoiSimplex` of src/query/gjk/voronoi_simplex3.rs: first those that round nothing, then `add_point`, `max_sq_len` and `modify_pnts`.
-- `new` is in Simplex.antt, the projections are in the crate `reduction`.
use Rattle.std.specs.Prelude.{ℕ, ◌+◌, Bool, true, false, ◌&&◌, cond, leb, ltb, get_or, Float, Result, Ok, Err}
use Rattle.std.specs.Result.{result_unwrap_or}
use Rattle.std.specs.Float.{Format, nan}
use Rattle.refusal.specs.declared.WouldPanic.{WouldPanic}
use Rattle.refusal.specs.Refusal.{would_panic, number_or_panic}
use Rattle.vector.specs.declared.vec3.Vec3.{Vec3}
use Rattle.vector.specs.Vector.{zero_f}
use Rattle.shape.specs.declared.vertex.Vertex.{Vertex}
use Rattle.shape.specs.Vertex.{zero_vertex}
use Rattle.simplex.specs.declared.voronoi_simplex.VoronoiSimplex.{VoronoiSimplex}
use Rattle.simplex.specs.declared.operations.Altered.{Altered}
use Rattle.simplex.specs.declared.operations.Added.{Added}
use Rattle.simplex.specs.Simplex.{is_simplex, vertex_at, swap_in, reset_in, saved_in, grown_in, near_simplex, has_point, max_sq_len_of, translated_in}

-- ---- document 01's number of each answer, 0 or refusal 2, and its value, of the refusal zeros
unfoldable pub altered_number : Result (Unit {0}) WouldPanic → ℕ
altered_number r = number_or_panic r

unfoldable pub answer_number : Result Bool WouldPanic → ℕ
answer_number r = number_or_panic r

unfoldable pub answer_value : Result Bool WouldPanic → Bool
answer_value r = result_unwrap_or r false

unfoldable pub scalar_number : Result Float WouldPanic → ℕ
scalar_number r = number_or_panic r

unfoldable pub scalar_value : Result Float WouldPanic → Float
scalar_value r = result_unwrap_or r zero_f

unfoldable pub dimension_number : Result ℕ WouldPanic → ℕ
dimension_number r = number_or_panic r

unfoldable pub dimension_value : Result ℕ WouldPanic → ℕ
dimension_value r = result_unwrap_or r 0

unfoldable pub corner_number : Result Vertex WouldPanic → ℕ
corner_number r = number_or_panic r

unfoldable pub corner_value : Result Vertex WouldPanic → Vertex
corner_value r = result_unwrap_or r zero_vertex

-- ---- the operations

abbrev pub done_with : VoronoiSimplex → Altered
done_with s = record { simplex = s; outcome = Ok tt }

abbrev pub refused_with : VoronoiSimplex → Altered
refused_with s = record { simplex = s; outcome = Err would_panic }

-- the altered simplex t, or the refusal with the one that came in
abbrev pub altered_or : Bool → VoronoiSimplex → VoronoiSimplex → Altered
altered_or ok s t = cond ok (done_with t) (refused_with s)

-- `swap`: the Rust's arrays have four places
unfoldable pub swap_simplex : VoronoiSimplex → ℕ → ℕ → Altered
swap_simplex s i1 i2 = altered_or (is_simplex s && ltb i1 4 && ltb i2 4) s (swap_in s i1 i2)

-- `reset`
unfoldable pub reset_simplex : VoronoiSimplex → Vertex → Altered
reset_simplex s pt = altered_or (is_simplex s) s (reset_in s pt)

-- `proj_coord`: there are three weights
unfoldable pub proj_coord : VoronoiSimplex → ℕ → Result Float WouldPanic
proj_coord s i = cond (is_simplex s && leb i s.dim && ltb i 3) (Ok (get_or s.proj i nan)) (Err would_panic)

-- `point`
unfoldable pub corner_point : VoronoiSimplex → ℕ → Result Vertex WouldPanic
corner_point s i = cond (is_simplex s && leb i s.dim) (Ok (vertex_at s i)) (Err would_panic)

-- `prev_proj_coord`
unfoldable pub prev_proj_coord : VoronoiSimplex → ℕ → Result Float WouldPanic
prev_proj_coord s i = cond (is_simplex s && leb i s.prev_dim && ltb i 3) (Ok (get_or s.prev_proj i nan)) (Err would_panic)

-- `prev_point`
unfoldable pub prev_point : VoronoiSimplex → ℕ → Result Vertex WouldPanic
prev_point s i = cond (is_simplex s && leb i s.prev_dim) (Ok (vertex_at s (get_or s.prev_vertices i 0))) (Err would_panic)

-- `contains_point`
unfoldable pub contains_point : VoronoiSimplex → Vec3 → Result Bool WouldPanic
contains_point s pt = cond (is_simplex s) (Ok (has_point s pt (s.dim + 1))) (Err would_panic)

-- `dimension`
unfoldable pub dimension_of : VoronoiSimplex → Result ℕ WouldPanic
dimension_of s = cond (is_simplex s) (Ok s.dim) (Err would_panic)

-- `prev_dimension`
unfoldable pub prev_dimension_of : VoronoiSimplex → Result ℕ WouldPanic
prev_dimension_of s = cond (is_simplex s) (Ok s.prev_dim) (Err would_panic)

module _ (f : Format) where
  -- `add_point`: dimension 3 is `unreachable!`
  unfoldable pub add_point : VoronoiSimplex → Vertex → Added
  add_point s pt =
      cond (is_simplex s && ltb s.dim 3)
      (cond (near_simplex f s pt) (record { simplex = saved_in s; answer = Ok false }) (record { simplex = grown_in (saved_in s) pt; answer = Ok true }))
      (record { simplex = s; answer = Err would_panic })

  -- `max_sq_len`
  unfoldable pub max_sq_len : VoronoiSimplex → Result Float WouldPanic
  max_sq_len s = cond (is_simplex s) (Ok (max_sq_len_of f s (s.dim + 1))) (Err would_panic)

  -- `modify_pnts`
  unfoldable pub modify_pnts : VoronoiSimplex → Vec3 → Altered
  modify_pnts s dir = altered_or (is_simplex s) s (translated_in f s dir (s.dim + 1))
