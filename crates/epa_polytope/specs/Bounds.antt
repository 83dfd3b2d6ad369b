-- What is said of the run's sizes (demand 3), and of the stores between two expansions. Definitions only.
use Rattle.std.specs.Prelude.{◌≡◌, ℕ, ◌+◌, ◌*◌, ◌<◌, ◌≤◌, cond, List, get_or, eqb}
use Rattle.heap.specs.Heap.{Heap}
use Rattle.epa_polytope.specs.Stores.{Lists, State, Store, the_vertices, the_faces, the_edges, the_heap, the_pending, room_for, corner_in, neighbour_in, heap_of, live}
use Rattle.epa_polytope.specs.Steps.{End, answers, nothing, panics, no_room, Found, single_point, converged, stuck, new_face_nearer, enough_expansions, heap_empty, Out, onward, ended, Over}
use Rattle.epa_polytope.specs.Steps.{Lost, key_at_start, none_holds, no_silhouette, all_deleted, key_later}
use Rattle.epa_polytope.specs.Start.{VoronoiSimplex}

-- ---- the stores

-- the first c places of a list are below n (a place outside the list counts as 0)
pub record AllIn (n c : ℕ) (l : List ℕ) : Type 0 where
  pub below : (i : ℕ) → i < c → get_or l i 0 < n

-- the corners of the first c faces are below n, and their neighbours
pub record CornersIn (n c : ℕ) (ids : List ℕ) : Type 0 where
  pub below : (i k : ℕ) → i < c → k < 3 → corner_in ids i k < n

pub record NeighboursIn (n c : ℕ) (ids : List ℕ) : Type 0 where
  pub below : (i k : ℕ) → i < c → k < 3 → neighbour_in ids i k < n

-- a heap of c entries, each of a face below n
pub record Good (n c : ℕ) (h : Heap) : Type 0 where
  pub counts : h.count ≡ c
  pub each : AllIn n c h.faces

-- between two expansions: each neighbour and each entry of the heap is a face, each corner a vertex, and the heap has no more entries than there are faces
pub record Sound (s : State) : Type 0 where
  pub some : 0 < s.tally.faces
  pub neighbours_in : NeighboursIn s.tally.faces s.tally.faces s.lists.face_ids
  pub corners_in : CornersIn s.tally.vertices s.tally.faces s.lists.face_ids
  pub queue_in : Good s.tally.faces s.tally.heap (heap_of s)
  pub queue_few : s.tally.heap ≤ s.tally.faces

-- ---- the sizes

-- the most faces that k expansions make, from f
unfoldable pub bound : ℕ → ℕ → ℕ
bound f k = f + k * f + k * (k + 1)

-- the sizes after k expansions, counting one under way, from f starting faces
pub record Within (f k : ℕ) (s : State) : Type 0 where
  pub few_verts : s.tally.vertices ≤ 4 + k
  pub few_live : live s ≤ f + 2 * k
  pub few_made : s.tally.faces ≤ bound f k
  pub few_edges : s.tally.most ≤ f + 2 * k
  pub few_queued : s.tally.heap ≤ bound f k

-- the most that k expansions need of a store
abbrev pub needed : ℕ → ℕ → Store → ℕ
needed f k the_vertices = 4 + k
needed f k the_faces = bound f k
needed f k the_edges = f + 2 * k
needed f k the_heap = bound f k
needed f k the_pending = f + 2 * k

-- an answer from a single point is one from no faces
abbrev pub FromPoint : ℕ → Found → Type 0
FromPoint f single_point = f ≡ 0
FromPoint f converged = Unit {0}
FromPoint f stuck = Unit {0}
FromPoint f new_face_nearer = Unit {0}
FromPoint f enough_expansions = Unit {0}
FromPoint f heap_empty = Unit {0}

-- and a refusal for room says that the store is small
abbrev pub Tight : ℕ → ℕ → Lists → End → Type 0
Tight f k l (answers y a b n) = FromPoint f y
Tight f k l (nothing y) = Unit {0}
Tight f k l (panics y) = Unit {0}
Tight f k l (no_room y) = room_for y l < needed f k y

-- the number of starting faces: 0, or F
pub data Starting (F : ℕ) : ℕ → Type 0 where
  without : Starting F 0
  with_all : Starting F F

-- ---- the expansions of a run that has ended, counting one under way

-- an expansion is under way from where its vertex is asked for, so that an answer which that vertex decides counts it, to where it is complete
abbrev pub under_way_found : Found → ℕ
under_way_found single_point = 0
under_way_found converged = 1
under_way_found stuck = 1
under_way_found new_face_nearer = 1
under_way_found enough_expansions = 0
under_way_found heap_empty = 0

abbrev pub under_way_lost : Lost → ℕ
under_way_lost key_at_start = 0
under_way_lost none_holds = 0
under_way_lost no_silhouette = 1
under_way_lost all_deleted = 1
under_way_lost key_later = 1

-- a panic is one of the start; a store may be full in the start too, where none is under way (`the_start`, below)
abbrev pub under_way : End → ℕ
under_way (answers y a b n) = under_way_found y
under_way (nothing y) = under_way_lost y
under_way (panics y) = 0
under_way (no_room y) = 1

-- where a run ends: before its first expansion, or from there on
pub data Part : Type 0 where
  the_start : Part
  the_loop : Part

-- the expansions, those completed and one under way: none in the start
abbrev pub expansions_at : Part → End → State → ℕ
expansions_at the_start e s = 0
expansions_at the_loop e s = s.tally.done + under_way e

-- a run's end, where the start has F faces, if any: the starting faces; so many expansions, counting one under way, and those completed;
-- the sizes; and when it is refused for room
pub record Ended (F : ℕ) (e : End) (s : State) : Type 0 where
  pub from : ℕ
  pub starting : Starting F from
  pub expansions : ℕ
  pub at_most : expansions ≤ 101
  pub part : Part
  pub counted : expansions ≡ expansions_at part e s
  pub completed : s.tally.done ≤ expansions
  pub within : Within from expansions s
  pub tight : Tight from expansions s.lists e

-- the run does end, so
abbrev pub Ends : ℕ → Out Over → Type 0
Ends f (onward a s) = ⊥
Ends f (ended e s) = Ended f e s

-- the number of starting faces, where there are any
abbrev pub faces_at_start : VoronoiSimplex → ℕ
faces_at_start x = cond (eqb x.dim 3) 4 2

-- ---- the room that suffices

abbrev pub suffices : Store → ℕ
suffices the_vertices = 105
suffices the_faces = 10710
suffices the_edges = 206
suffices the_heap = 10710
suffices the_pending = 206

-- enough of each; and of each but the pending questions, of which the recursive walk has none
abbrev pub Ample : Lists → Type 0
Ample l = (y : Store) → suffices y ≤ room_for y l

abbrev pub AmpleFour : Lists → Type 0
AmpleFour l = (y : Store) → (y ≡ the_pending → ⊥) → suffices y ≤ room_for y l
