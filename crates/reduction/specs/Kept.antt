-- Ticket 9: which vertices of a simplex are live after a reduction, and where they stood before it. Definitions only; proofs/Kept.antt shows of every location that is taken that each live vertex is
-- a copy of one that was live, from distinct places, and that the dimension did not grow.
use Rattle.std.specs.Prelude.{◌≡◌, cond, List, [], ◌∷◌, ℕ, ◌≤◌, eqb, get_or}
use Rattle.simplex.specs.declared.voronoi_simplex.VoronoiSimplex.{VoronoiSimplex}
use Rattle.simplex.specs.Simplex.{vertex_at}
use Rattle.reduction.specs.declared.location.Location.{Location}
use Rattle.reduction.specs.declared.location.Location.TheVariants.{OnVertex, OnEdge, OnFace, OnSolid}

-- The live vertices of t, its first `dim` + 1, are copies of live vertices of s: the one at the place i of t stood at the place `from i` of s. `≡` is equality of values: +0 is not -0,
-- and all NaNs are one
pub record Copied (s t : VoronoiSimplex) (from : ℕ → ℕ) : Type 0 where
  pub not_grown : t.dim ≤ s.dim
  pub from_live : (i : ℕ) → i ≤ t.dim → from i ≤ s.dim
  pub copies : (i : ℕ) → i ≤ t.dim → vertex_at t i ≡ vertex_at s (from i)
  pub distinct : (i j : ℕ) → i ≤ t.dim → j ≤ t.dim → from i ≡ from j → i ≡ j

-- ---- the places, by the cases of the location: of the live vertices after a reduction, in order, those before it

unfoldable pub kept_of_segment : Location → List ℕ
kept_of_segment (OnVertex i) = i ∷ []
kept_of_segment (OnEdge i u v) = 0 ∷ 1 ∷ []
kept_of_segment (OnFace i u v w) = 0 ∷ 1 ∷ []
kept_of_segment OnSolid = 0 ∷ 1 ∷ []

unfoldable pub kept_of_triangle : Location → List ℕ
kept_of_triangle (OnVertex i) = i ∷ []
kept_of_triangle (OnEdge i u v) = cond (eqb i 0) (0 ∷ 1 ∷ []) (cond (eqb i 1) (2 ∷ 1 ∷ []) (0 ∷ 2 ∷ []))
kept_of_triangle (OnFace i u v w) = 0 ∷ 1 ∷ 2 ∷ []
kept_of_triangle OnSolid = 0 ∷ 1 ∷ 2 ∷ []

unfoldable pub kept_of_tetrahedron : Location → List ℕ
kept_of_tetrahedron (OnVertex i) = i ∷ []
kept_of_tetrahedron (OnEdge i u v) =
    cond (eqb i 0) (0 ∷ 1 ∷ [])
    (cond (eqb i 1) (0 ∷ 2 ∷ [])
    (cond (eqb i 2) (0 ∷ 3 ∷ [])
    (cond (eqb i 3) (2 ∷ 1 ∷ [])
    (cond (eqb i 4) (3 ∷ 1 ∷ [])
    (2 ∷ 3 ∷ [])))))
kept_of_tetrahedron (OnFace i u v w) =
    cond (eqb i 0) (0 ∷ 1 ∷ 2 ∷ [])
    (cond (eqb i 1) (0 ∷ 1 ∷ 3 ∷ [])
    (cond (eqb i 2) (0 ∷ 3 ∷ 2 ∷ [])
    (3 ∷ 1 ∷ 2 ∷ [])))
kept_of_tetrahedron OnSolid = 0 ∷ 1 ∷ 2 ∷ 3 ∷ []

-- of a simplex of dimension d
unfoldable pub kept_places : ℕ → Location → List ℕ
kept_places d l = cond (eqb d 0) (0 ∷ []) (cond (eqb d 1) (kept_of_segment l) (cond (eqb d 2) (kept_of_triangle l) (kept_of_tetrahedron l)))

abbrev pub among : List ℕ → ℕ → ℕ
among places i = get_or places i 0
