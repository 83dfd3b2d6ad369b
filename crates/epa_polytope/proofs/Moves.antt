-- The moves of a run, and what it is to keep a fact of the state at every move: each comes with what is known where the run makes it, so that the places which it
-- writes are the run's own. `run-keeps` of Start.antt shows that a fact so kept, of the lists as lent, is one of the state that any run leaves. Assumes nothing.
use mathlib.Core.Path.{◌≡◌}
use Prim.Native.Nat.{ℕ, suc, ◌+◌, ◌<◌, ◌≤◌}
use lib.ListN.{set}
use Rattle.shape.specs.declared.vertex.Vertex.{Vertex}
use Rattle.heap.specs.declared.Entry.{Entry}
use Rattle.heap.specs.Heap.{pushed, popped}
use Rattle.epa_polytope.specs.Stores.{Made, Three, State, state_of, with_vertices, with_face_ids, with_face_floats, with_deleted, with_heap, vertex_count, face_count, heap_count, room_for, the_vertices, the_faces, the_edges, the_heap}
use Rattle.epa_polytope.specs.Stores.{put_vertex, put_face, put_made, linked_in, heap_of}
use Rattle.epa_polytope.specs.Silhouette.{facing, recorded_of}
use Rattle.epa_polytope.specs.PlainWalk.{Walking}
use Rattle.epa_polytope.specs.Steps.{Numbers, Out, onward, ended}
use Rattle.epa_polytope.specs.Start.{Walk, exchanged}
use Rattle.epa_polytope.specs.Expansion.{delete, mesh_of, before_pass, pass_by, after_pass, clear_edges}
use Rattle.epa_polytope.specs.Run.{complete}
use Rattle.epa_polytope.specs.Bounds.{NeighboursIn}

-- the state that a step leaves
abbrev pub left : {A : Type 0} → Out A → State
left (onward a s) = s
left (ended e s) = s

-- a vertex is pushed
abbrev pub with_vertex : State → Vertex → State
with_vertex s v = state_of (with_vertices (put_vertex s.lists.vertices s.tally.vertices v) s.lists) (vertex_count (s.tally.vertices + 1) s.tally)

-- vertices 1 and 2 change places
abbrev pub with_exchange : State → State
with_exchange s = state_of (with_vertices (exchanged s.lists.vertices) s.lists) s.tally

-- a face is pushed
abbrev pub with_face : State → Three → Three → Made → State
with_face s corners neighbours m =
    let l = s.lists in
    let n = s.tally.faces in
    state_of (with_face_ids (put_face l.face_ids n corners neighbours) (with_face_floats (put_made l.face_floats n m) (with_deleted (set l.deleted n 0) l))) (face_count (n + 1) s.tally)

-- an entry of the heap is pushed, and the first is popped, of n + 1
abbrev pub with_entry : State → Entry → State
with_entry s e = let h = pushed (heap_of s) e in state_of (with_heap h.faces h.keys s.lists) (heap_count h.count s.tally)

abbrev pub with_pop : State → ℕ → State
with_pop s n = let h = popped (heap_of s) n in state_of (with_heap h.faces h.keys s.lists) (heap_count h.count s.tally)

-- a neighbour is set
abbrev pub with_link : State → ℕ → ℕ → ℕ → State
with_link s i k j = state_of (with_face_ids (linked_in s.lists.face_ids i k j) s.lists) s.tally

-- a pass by either walk from the vertex p, over the neighbours of the face i
abbrev pub pass_from : Walk → Numbers → State → ℕ → ℕ → Walking
pass_from y w s p i =
    let l = s.lists in
    let ids = l.face_ids in
    pass_by y (mesh_of w l p) (before_pass s i) (facing ids i 0) (facing ids i 1) (facing ids i 2)

abbrev pub with_pass : Walk → Numbers → State → ℕ → ℕ → State
with_pass y w s p i = let t = pass_from y w s p i in after_pass s t (recorded_of (room_for the_edges s.lists) t.walk.answer)

-- J is kept at every move of a run: a push, where there is room; the exchange, where there are vertices to exchange; a pop, of n + 1 entries; a
-- deletion, a link and a pass, of faces that were made; the clearing of the edges; and the end of an expansion
pub record Keeps (J : State → Type 0) : Type 0 where
  pub on_vertex : (s : State) (v : Vertex) → s.tally.vertices < room_for the_vertices s.lists → J s → J (with_vertex s v)
  pub on_exchange : (s : State) → 3 ≤ s.tally.vertices → J s → J (with_exchange s)
  pub on_face : (s : State) (corners neighbours : Three) (m : Made) → s.tally.faces < room_for the_faces s.lists → J s → J (with_face s corners neighbours m)
  pub on_queue : (s : State) (e : Entry) → s.tally.heap < room_for the_heap s.lists → s.tally.heap < s.tally.faces → J s → J (with_entry s e)
  pub on_pop : (s : State) (n : ℕ) → s.tally.heap ≡ suc n → J s → J (with_pop s n)
  pub on_delete : (s : State) (i : ℕ) → i < s.tally.faces → J s → J (left (delete i s))
  pub on_pass : (y : Walk) (w : Numbers) (s : State) (p i : ℕ) → NeighboursIn s.tally.faces s.tally.faces s.lists.face_ids → i < s.tally.faces
      → (s.tally.edges ≡ 0) × (s.tally.pending ≡ 0) → J s → J (with_pass y w s p i)
  pub on_link : (s : State) (i k j : ℕ) → i < s.tally.faces → k < 3 → J s → J (with_link s i k j)
  pub on_clear : (s : State) → J s → J (left (clear_edges s))
  pub on_complete : (s : State) → J s → J (left (complete s))
