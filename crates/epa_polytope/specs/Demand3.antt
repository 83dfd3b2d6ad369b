-- Document 01's demand 3 in its own words: the states of a run between its expansions, the expansions of a run that has ended, and its silhouette passes. Definitions only; the laws
-- stand in proofs/Demand3.antt.
use Rattle.std.specs.Prelude.{◌≡◌, ℕ, zero, suc, ◌+◌, ◌-◌, ◌%◌, ◌≤◌, Bool, false, eqb, Float}
use Rattle.std.specs.Prelude.{Option, None, Some}
use Rattle.std.specs.Float.Ieee.{neg}
use Rattle.number.specs.Constants.{largest}
use Rattle.vector.specs.Vector.{zero_f, dot_v}
use Rattle.heap.specs.declared.Entry.{Entry}
use Rattle.heap.specs.Heap.{entry_at}
use Rattle.epa_polytope.specs.Start.{World, format_of, VoronoiSimplex, begin}
use Rattle.epa_polytope.specs.Stores.{Lists, State, state_of, none_yet, heap_of, live, normal_at, corner_at, deleted_at}
use Rattle.epa_polytope.specs.Run.{Best, iterate, loop, pop_live, bettered, has_converged, is_stuck, complete}
use Rattle.epa_polytope.specs.Expansion.{Expansion, edge_face, edge_corner, link, queue_new, grow_all, delete, silhouette, regrow}
use Rattle.epa_polytope.specs.Steps.{Numbers, End, answers, nothing, panics, no_room, Found, single_point, converged, stuck, new_face_nearer, enough_expansions, heap_empty}
use Rattle.epa_polytope.specs.Steps.{Out, onward, ended, Act, Nil, Over, ◌>>=◌, ◌>>◌, pure, look, do_if, branch, made_of, three, push_face, push_vertex, answer}
use Rattle.epa_polytope.specs.Bounds.{Within, Part, the_start, the_loop, expansions_at, faces_at_start}

-- ---- the run as far as k expansions (`run-through`: the run is this, and then the rest)

-- what a run carries from one expansion to the next: the tolerance of the keys, and the best face
pub record Carried : Type 0 where
  pub tol : Float
  pub best : Best

-- before the first expansion the best face is the one that the heap has first
unfoldable pub opened : World → Float → Act Carried
opened w tol = do
  s ← look
  pure (record { tol = tol; best = record { face = (entry_at (heap_of s) 0).face; bound = largest (format_of w); last = zero_f } })

-- one expansion more
unfoldable pub one_more : World → Carried → Act Carried
one_more w g = do
  b ← iterate w g.tol g.best
  pure (record { tol = g.tol; best = b })

-- the start and k expansions. It goes on where the run completes k of them, and otherwise ends as the run does
unfoldable pub run_to : World → VoronoiSimplex → ℕ → Act Carried
run_to w x zero = begin w x >>= opened w
run_to w x (suc k) = run_to w x k >>= one_more w

-- and at most n expansions more
unfoldable pub rest : World → ℕ → Carried → Act Over
rest w n g = loop w g.tol n g.best

-- the stores that a run over the lent lists l has after k expansions, if it completes so many
abbrev pub stores_in : {A : Type 0} → Out A → Option State
stores_in (onward a t) = Some t
stores_in (ended e t) = None

unfoldable pub state_after : World → VoronoiSimplex → Lists → ℕ → Option State
state_after w x l k = stores_in (run_to w x k (state_of l none_yet))

-- ---- the end

-- the part in which a run ends: its start, if that leaves no stores to expand
abbrev pub part_by : Option State → Part
part_by None = the_start
part_by (Some t) = the_loop

-- k: the expansions of the run over l that ended with e and the stores t, counting one under way
unfoldable pub expansions_of : World → VoronoiSimplex → Lists → End → State → ℕ
expansions_of w x l e t = expansions_at (part_by (state_after w x l 0)) e t

-- f: the number of starting faces. Where the run answers from a single point, or panics, there are none
abbrev pub faces_found : ℕ → Found → ℕ
faces_found f single_point = 0
faces_found f converged = f
faces_found f stuck = f
faces_found f new_face_nearer = f
faces_found f enough_expansions = f
faces_found f heap_empty = f

abbrev pub starting_faces : VoronoiSimplex → End → ℕ
starting_faces x (answers y a b n) = faces_found (faces_at_start x) y
starting_faces x (nothing y) = faces_at_start x
starting_faces x (panics y) = 0
starting_faces x (no_room y) = faces_at_start x

-- the sizes at the end, from f starting faces and k expansions, and the bound on k
pub record WithinAtEnd (w : World) (x : VoronoiSimplex) (l : Lists) (e : End) (t : State) : Type 0 where
  pub few : expansions_of w x l e t ≤ 101
  pub completed : t.tally.done ≤ expansions_of w x l e t
  pub within : Within (starting_faces x e) (expansions_of w x l e t) t

-- ---- the silhouette passes

-- an expansion up to its pass: what is known of it, and the best face
pub record Passing : Type 0 where
  pub expansion : Expansion
  pub best : Best

abbrev pub up_to_pass_of : World → Carried → Option Entry → Act Passing
up_to_pass_of w g None = answer w.numbers heap_empty g.best.face
up_to_pass_of w g (Some e) = do
  s ← look
  let k = format_of w
  let v = w.supp (normal_at s e.face)
  let c = dot_v k v.point (normal_at s e.face)
  let b1 = bettered g.best e.face c
  let dist = neg e.key
  push_vertex v
  do_if (has_converged k b1.bound dist) (answer w.numbers converged b1.face)
  do_if (is_stuck k dist g.best.last c b1.bound) (answer w.numbers stuck b1.face)
  delete e.face
  pure (record { expansion = record { face = e.face; dist = dist; point = s.tally.vertices; tol = g.tol }; best = record { face = b1.face; bound = b1.bound; last = dist } })

unfoldable pub up_to_pass : World → Carried → Act Passing
up_to_pass w g = do
  s ← look
  e ← pop_live s.tally.heap
  up_to_pass_of w g e

-- the pass
unfoldable pub the_pass : World → Passing → Act Nil
the_pass w p = silhouette w.walk_by w.numbers p.expansion.point p.expansion.face

-- and what follows it (`expansion-by-pass`: an expansion is these three)
unfoldable pub after_the_pass : World → Carried → Passing → Act Carried
after_the_pass w g p = do
  regrow w.numbers p.expansion
  complete
  pure (record { tol = g.tol; best = p.best })

-- the stores that a step leaves, whether or not the run ends there
abbrev pub stores_left : {A : Type 0} → Out A → State
stores_left (onward a t) = t
stores_left (ended e t) = t

-- the stores before the pass of the expansion after k, and those that the pass leaves
pub record Pass (w : World) (x : VoronoiSimplex) (l : Lists) (k : ℕ) (before after : State) : Type 0 where
  pub carried : Carried
  pub stores : State
  pub passing : Passing
  pub reached : run_to w x k (state_of l none_yet) ≡ onward carried stores
  pub as_far : up_to_pass w carried stores ≡ onward passing before
  pub passes : stores_left (the_pass w passing before) ≡ after

-- ---- between two pushes of an expansion under way

-- the stores after a pass that goes on, and the new faces of the first i edges that it recorded (`edges-through`: the rest of them follow)
pub record Growth (w : World) (x : VoronoiSimplex) (l : Lists) (k : ℕ) (after : State) (i : ℕ) (t : State) : Type 0 where
  pub before : State
  pub pass : Pass w x l k before after
  pub goes_on : the_pass w pass.passing before ≡ onward tt after
  pub few : i ≤ after.tally.edges
  pub grows : grow_all w.numbers pass.passing.expansion i 0 after ≡ onward tt t

-- the new face of an edge, and whether it is to be queued
pub record Joined : Type 0 where
  pub face : ℕ
  pub queues : Bool

unfoldable pub joined_at : Numbers → Expansion → ℕ → ℕ → Act Joined
joined_at w u f c = do
  s ← look
  let n = s.tally.faces
  let a = corner_at s f ((c + 2) % 3)
  let b = corner_at s f ((c + 1) % 3)
  let m = made_of w s a b u.point
  link f ((c + 1) % 3) n
  push_face (three a b u.point) (three f (n + 1) (n - 1)) m
  pure (record { face = n; queues = m.holds })

-- the i-th edge up to where its new face is queued, and that (`edge-by-pushes`: an edge is these two)
unfoldable pub up_to_queue : Numbers → Expansion → ℕ → Act Joined
up_to_queue w u i = do
  s ← look
  let f = edge_face s.lists.edges i
  branch (eqb (deleted_at s f) 0) (joined_at w u f (edge_corner s.lists.edges i)) (pure (record { face = 0; queues = false }))

unfoldable pub queue_joined : Numbers → Expansion → Joined → Act Nil
queue_joined w u j = do_if j.queues (queue_new w u j.face)

-- the faces that are live in s and no longer in t
abbrev pub deleted_from : State → State → ℕ
deleted_from s t = live s - live t

-- a pass starts from no edges, makes no face live, and records at most three edges more than the faces that it deletes
pub record FewEdges (before after : State) : Type 0 where
  pub from_none : before.tally.edges ≡ 0
  pub none_live : live after ≤ live before
  pub three_more : after.tally.edges ≤ deleted_from before after + 3

-- the run completes k expansions
pub record Completes (w : World) (x : VoronoiSimplex) (l : Lists) (k : ℕ) : Type 0 where
  pub stores : State
  pub are : state_after w x l k ≡ Some stores
