-- The simplex of dimension up to 3, and the steps that its operations are made of. Definitions only.
-- Carries `VoronoiSimplex` of src/query/gjk/voronoi_simplex3.rs.
use Rattle.std.specs.Prelude.{ℕ, zero, suc, ◌+◌, Bool, false, ◌&&◌, ◌||◌, cond, List, [], ◌∷◌, leb, eqb, set, get_or, Float}
use Rattle.std.specs.Float.{Format, nan}
use Rattle.std.specs.Float.Ieee.{lt}
use Rattle.number.specs.Constants.{eps_tol}
use Rattle.number.specs.Small.{gt, absolute}
use Rattle.vector.specs.declared.vec3.Vec3.{Vec3}
use Rattle.vector.specs.Vector.{zero_f, vec3, dot_v, cross_v, length_squared_v, normalize_v, equal_v}
use Rattle.shape.specs.declared.vertex.Vertex.{Vertex}
use Rattle.shape.specs.Vertex.{zero_vertex, translate_vertex, sub_vertex}
use Rattle.simplex.specs.declared.voronoi_simplex.VoronoiSimplex.{VoronoiSimplex}

-- The fields in the Rust's order: previous places, previous weights, previous dimension, vertices, weights, dimension
abbrev pub simplex_of : List ℕ → List Float → ℕ → List Vertex → List Float → ℕ → VoronoiSimplex
simplex_of pv pp pd vs p d =
    record { prev_vertices = pv; prev_proj = pp; prev_dim = pd; vertices = vs; proj = p; dim = d }

-- What a read past the end of a list would give. No operation makes one.
abbrev pub nowhere : Vertex
nowhere = let o = vec3 nan nan nan in record { point = o; orig1 = o; orig2 = o }

-- `vertices[i]`
abbrev pub vertex_at : VoronoiSimplex → ℕ → Vertex
vertex_at s i = get_or s.vertices i nowhere

-- A value whose dimension, previous dimension or a previous place is above 3 is no simplex
unfoldable pub is_simplex : VoronoiSimplex → Bool
is_simplex s =
    let places = s.prev_vertices in
    leb s.dim 3 && leb s.prev_dim 3 && leb (get_or places 0 0) 3 && leb (get_or places 1 0) 3 && leb (get_or places 2 0) 3 && leb (get_or places 3 0) 3

-- `VoronoiSimplex::new`
unfoldable pub new_simplex : VoronoiSimplex
new_simplex =
    let none = zero_f ∷ zero_f ∷ zero_f ∷ [] in
    simplex_of (0 ∷ 1 ∷ 2 ∷ 3 ∷ []) none 0 (zero_vertex ∷ zero_vertex ∷ zero_vertex ∷ zero_vertex ∷ []) none 0

-- ---- steps, on places that there are

-- the elements at i and j of a list change places; d is what a read past its end would give
abbrev pub exchanged : {A : Type 0} → A → List A → ℕ → ℕ → List A
exchanged d l i j = set (set l i (get_or l j d)) j (get_or l i d)

-- `swap`
unfoldable pub swap_in : VoronoiSimplex → ℕ → ℕ → VoronoiSimplex
swap_in s i j =
    simplex_of (exchanged 0 s.prev_vertices i j) s.prev_proj s.prev_dim (exchanged nowhere s.vertices i j) s.proj s.dim

-- what `add_point` keeps first: the dimension and the weights, and the places 0, 1, 2, 3
unfoldable pub saved_in : VoronoiSimplex → VoronoiSimplex
saved_in s = simplex_of (0 ∷ 1 ∷ 2 ∷ 3 ∷ []) s.proj s.dim s.vertices s.proj s.dim

-- `self.dim += 1; self.vertices[self.dim] = pt`
unfoldable pub grown_in : VoronoiSimplex → Vertex → VoronoiSimplex
grown_in s pt =
    simplex_of s.prev_vertices s.prev_proj s.prev_dim (set s.vertices (s.dim + 1) pt) s.proj (s.dim + 1)

-- `reset`
unfoldable pub reset_in : VoronoiSimplex → Vertex → VoronoiSimplex
reset_in s pt = simplex_of s.prev_vertices s.prev_proj 0 (set s.vertices 0 pt) s.proj 0

-- ---- the loops over the vertices: what stands after the first n of them

-- `contains_point`
unfoldable pub has_point : VoronoiSimplex → Vec3 → ℕ → Bool
has_point s pt zero = false
has_point s pt (suc n) = has_point s pt n || equal_v (vertex_at s n).point pt

module _ (f : Format) where
  -- one turn of `max_sq_len`
  unfoldable pub greater_sq_len : Float → Vertex → Float
  greater_sq_len most v = let norm = length_squared_v f v.point in cond (gt norm most) norm most

  -- `max_sq_len`
  unfoldable pub max_sq_len_of : VoronoiSimplex → ℕ → Float
  max_sq_len_of s zero = zero_f
  max_sq_len_of s (suc n) = greater_sq_len (max_sq_len_of s n) (vertex_at s n)

  -- `modify_pnts`, with the one function that the Rust hands it
  unfoldable pub translated_in : VoronoiSimplex → Vec3 → ℕ → VoronoiSimplex
  translated_in s dir zero = s
  translated_in s dir (suc n) =
      let t = translated_in s dir n in
      simplex_of t.prev_vertices t.prev_proj t.prev_dim (set t.vertices n (translate_vertex f (vertex_at t n) dir)) t.proj t.dim

-- ---- the tests of `add_point`, one for each dimension: whether the point adds nothing
module _ (f : Format) where
  unfoldable pub near_point : Vertex → Vertex → Bool
  near_point a pt = lt (length_squared_v f (sub_vertex f a pt)) (eps_tol f)

  unfoldable pub near_line : Vertex → Vertex → Vertex → Bool
  near_line a b pt =
      let ab = sub_vertex f b a in
      let ac = sub_vertex f pt a in
      lt (length_squared_v f (cross_v f ab ac)) (eps_tol f)

  unfoldable pub near_plane : Vertex → Vertex → Vertex → Vertex → Bool
  near_plane a b c pt =
      let ab = sub_vertex f b a in
      let ac = sub_vertex f c a in
      let ap = sub_vertex f pt a in
      let n = normalize_v f (cross_v f ab ac) in
      lt (absolute (dot_v f n ap)) (eps_tol f)

  unfoldable pub near_simplex : VoronoiSimplex → Vertex → Bool
  near_simplex s pt =
      cond (eqb s.dim 0) (near_point (vertex_at s 0) pt)
      (cond (eqb s.dim 1) (near_line (vertex_at s 0) (vertex_at s 1) pt)
      (near_plane (vertex_at s 0) (vertex_at s 1) (vertex_at s 2) pt))
