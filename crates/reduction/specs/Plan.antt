-- What a plan of src/applying.rt asks of a simplex, and which plans are right. Definitions only; contracts of private functions alone cite them.
use Rattle.std.specs.Prelude.{ℕ, ◌<◌, ◌≡◌, List, set, Float, Result, Ok, Err}
use Rattle.vector.specs.Vector.{one_f}
use Rattle.simplex.specs.declared.voronoi_simplex.VoronoiSimplex.{VoronoiSimplex}
use Rattle.simplex.specs.Simplex.{swap_in}
use Rattle.reduction.specs.declared.applying.ApplyError.{ApplyError}
use Rattle.reduction.specs.declared.applying.Applied.{Applied}
use Rattle.reduction.specs.declared.applying.Moves.{Moves}
use Rattle.reduction.specs.declared.applying.Moves.TheVariants.{Stay, Swap, SwapBoth, Overwrite}
use Rattle.reduction.specs.declared.applying.Plan.{Plan}
use Rattle.reduction.specs.Reduction.{overwrite_in, place_in, edge_first, tetrahedron_face, taken_with, refused_with}

-- the places of the vertices that move are there
abbrev pub Places : Moves → Type 0
Places Stay = Unit {0}
Places (Swap i j) = (i < 4) × (j < 4)
Places SwapBoth = Unit {0}
Places (Overwrite i) = i < 4

unfoldable pub moved_by : VoronoiSimplex → Moves → VoronoiSimplex
moved_by s Stay = s
moved_by s (Swap i j) = swap_in s i j
moved_by s SwapBoth = swap_in (swap_in s 0 2) 1 3
moved_by s (Overwrite i) = overwrite_in s i

unfoldable pub carried_out : VoronoiSimplex → Plan → VoronoiSimplex
carried_out s p = place_in (moved_by s p.moves) p.proj p.dim

-- ---- plans

abbrev pub planned : Moves → List Float → ℕ → Plan
planned m p d = record { moves = m; proj = p; dim = d }

-- the weights of `to_first`
abbrev pub vertex_plan : Moves → List Float → Plan
vertex_plan m p = planned m (set p 0 one_f) 0

-- the weights of `to_edge`
abbrev pub edge_plan : Moves → List Float → Float → Float → ℕ → Plan
edge_plan m p u v d = planned m (set (set p 0 u) 1 v) d

-- ---- which plans are right

-- these moves are those of `edge_first`, of any simplex
pub record EdgeFirst (i : ℕ) (m : Moves) : Type 0 where
  pub there : Places m
  pub first : (s : VoronoiSimplex) → moved_by s m ≡ edge_first s i

-- carried out on s, the plan makes t of it
pub record Makes (s t : VoronoiSimplex) (p : Plan) : Type 0 where
  pub there : Places p.moves
  pub gives : carried_out s p ≡ t

-- of any simplex with these weights and this dimension the plan makes what `reduce` does
abbrev pub Plans : List Float → ℕ → (VoronoiSimplex → VoronoiSimplex) → Plan → Type 0
Plans proj dim reduce p = (s : VoronoiSimplex) → let t = place_in s proj dim in Makes t (reduce t) p

-- of any simplex the plan makes what `tetrahedron_face` does
abbrev pub FacePlan : ℕ → Float → Float → Float → Plan → Type 0
FacePlan i u v w p = (s : VoronoiSimplex) → Makes s (tetrahedron_face s i u v w) p

-- the plan, carried out on s, is the answer; and so is the refusal, where there is none
abbrev pub Answers : VoronoiSimplex → Applied → Result Plan ApplyError → Type 0
Answers s answer (Ok p) = Places p.moves × (taken_with (carried_out s p) ≡ answer)
Answers s answer (Err e) = refused_with s e ≡ answer
