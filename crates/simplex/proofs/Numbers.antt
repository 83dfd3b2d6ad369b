-- Document 01's number of each operation: refusal 2 exactly where the value is no simplex, or the test of the operation's own fails; else 0. Assumes nothing.
use mathlib.Core.Path.{◌≡◌, refl}
use mathlib.Core.Bool.{Bool, true, false, ◌&&◌, cond}
use Prim.Native.Nat.{ℕ, ◌+◌}
use lib.Dec.{leb, ltb}
use lib.ListN.{get_or}
use lib.Ieee.{Format, nan}
use Rattle.std.specs.Prelude.{Ok, Err}
use Rattle.refusal.specs.Refusal.{would_panic, number_or_panic}
use Rattle.vector.specs.declared.vec3.Vec3.{Vec3}
use Rattle.shape.specs.declared.vertex.Vertex.{Vertex}
use Rattle.simplex.specs.declared.voronoi_simplex.VoronoiSimplex.{VoronoiSimplex}
use Rattle.simplex.specs.declared.operations.Added.{Added}
use Rattle.simplex.specs.Simplex.{is_simplex, vertex_at, swap_in, reset_in, saved_in, grown_in, near_simplex, has_point, max_sq_len_of, translated_in}
use Rattle.simplex.specs.Operations.{altered_number, answer_number, scalar_number, dimension_number, corner_number, altered_or, swap_simplex, reset_simplex, proj_coord, corner_point, prev_proj_coord, prev_point, contains_point, dimension_of, prev_dimension_of, add_point, max_sq_len, modify_pnts}

-- 0 where a test holds, refusal 2 where it does not
abbrev pub refused_unless : Bool → ℕ
refused_unless ok = cond ok 0 2

-- ---- of each kind of answer

of-altered : (ok : Bool) (s t : VoronoiSimplex) → altered_number (altered_or ok s t).outcome ≡ refused_unless ok
unfolding altered_number
of-altered true s t = refl
of-altered false s t = refl

of-result : {A : Type 0} (ok : Bool) (x : A) → number_or_panic {A = A} (cond ok (Ok x) (Err would_panic)) ≡ refused_unless ok
of-result true x = refl
of-result false x = refl

-- what `add_point` answers, of the simplex t, u or, refused, s
abbrev added_or : Bool → Bool → VoronoiSimplex → VoronoiSimplex → VoronoiSimplex → Added
added_or ok near s t u = cond ok (cond near (record { simplex = t; answer = Ok false }) (record { simplex = u; answer = Ok true })) (record { simplex = s; answer = Err would_panic })

of-added : (ok near : Bool) (s t u : VoronoiSimplex) → answer_number (added_or ok near s t u).answer ≡ refused_unless ok
unfolding answer_number
of-added true true s t u = refl
of-added true false s t u = refl
of-added false near s t u = refl

-- ---- of each operation

module _ (s : VoronoiSimplex) where
  pub swap-number : (i1 i2 : ℕ) → altered_number (swap_simplex s i1 i2).outcome ≡ refused_unless (is_simplex s && ltb i1 4 && ltb i2 4)
  unfolding swap_simplex
  swap-number i1 i2 = of-altered (is_simplex s && ltb i1 4 && ltb i2 4) s (swap_in s i1 i2)

  pub reset-number : (pt : Vertex) → altered_number (reset_simplex s pt).outcome ≡ refused_unless (is_simplex s)
  unfolding reset_simplex
  reset-number pt = of-altered (is_simplex s) s (reset_in s pt)

  pub modify-number : (f : Format) (dir : Vec3) → altered_number (modify_pnts f s dir).outcome ≡ refused_unless (is_simplex s)
  unfolding modify_pnts
  modify-number f dir = of-altered (is_simplex s) s (translated_in f s dir (s.dim + 1))

  pub add-number : (f : Format) (pt : Vertex) → answer_number (add_point f s pt).answer ≡ refused_unless (is_simplex s && ltb s.dim 3)
  unfolding add_point
  add-number f pt = of-added (is_simplex s && ltb s.dim 3) (near_simplex f s pt) s (saved_in s) (grown_in (saved_in s) pt)

  pub contains-number : (pt : Vec3) → answer_number (contains_point s pt) ≡ refused_unless (is_simplex s)
  unfolding contains_point answer_number
  contains-number pt = of-result (is_simplex s) (has_point s pt (s.dim + 1))

  pub weight-number : (i : ℕ) → scalar_number (proj_coord s i) ≡ refused_unless (is_simplex s && leb i s.dim && ltb i 3)
  unfolding proj_coord scalar_number
  weight-number i = of-result (is_simplex s && leb i s.dim && ltb i 3) (get_or s.proj i nan)

  pub prev-weight-number : (i : ℕ) → scalar_number (prev_proj_coord s i) ≡ refused_unless (is_simplex s && leb i s.prev_dim && ltb i 3)
  unfolding prev_proj_coord scalar_number
  prev-weight-number i = of-result (is_simplex s && leb i s.prev_dim && ltb i 3) (get_or s.prev_proj i nan)

  pub max-number : (f : Format) → scalar_number (max_sq_len f s) ≡ refused_unless (is_simplex s)
  unfolding max_sq_len scalar_number
  max-number f = of-result (is_simplex s) (max_sq_len_of f s (s.dim + 1))

  pub point-number : (i : ℕ) → corner_number (corner_point s i) ≡ refused_unless (is_simplex s && leb i s.dim)
  unfolding corner_point corner_number
  point-number i = of-result (is_simplex s && leb i s.dim) (vertex_at s i)

  pub prev-point-number : (i : ℕ) → corner_number (prev_point s i) ≡ refused_unless (is_simplex s && leb i s.prev_dim)
  unfolding prev_point corner_number
  prev-point-number i = of-result (is_simplex s && leb i s.prev_dim) (vertex_at s (get_or s.prev_vertices i 0))

  pub dimension-number : dimension_number (dimension_of s) ≡ refused_unless (is_simplex s)
  unfolding dimension_of dimension_number
  dimension-number = of-result (is_simplex s) s.dim

  pub prev-dimension-number : dimension_number (prev_dimension_of s) ≡ refused_unless (is_simplex s)
  unfolding prev_dimension_of dimension_number
  prev-dimension-number = of-result (is_simplex s) s.prev_dim
