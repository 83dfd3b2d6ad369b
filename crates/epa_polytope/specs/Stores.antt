-- The stores that a run borrows, and what they hold: of src/query/epa/epa3.rs the fields of `EPA`, `Face` and `SilhouetteEdge`. Any format. Definitions only.
-- The lists are lent, and are as long as they are; how many entries of each a run has made is the tally's. A record's place in its list is its number times its width. A place outside a list reads
-- as 0, as a NaN, or as deleted; between two expansions every number is in range (`in-range` of proofs/Rule.antt).
use Rattle.std.specs.Prelude.{ℕ, zero, suc, ◌+◌, ◌*◌, ◌/◌, min, cond, List, [], ◌∷◌, length, get_or, set, ltb, Float}
use Rattle.std.proofs.lemmas.List.Edits.{sets}
use Rattle.std.specs.Float.{nan}
use Rattle.vector.specs.declared.vec3.Vec3.{Vec3}
use Rattle.vector.specs.Vector.{vec3}
use Rattle.shape.specs.declared.vertex.Vertex.{Vertex}
use Rattle.heap.specs.Heap.{Heap, heap}
pub use Rattle.epa_polytope.specs.declared.types.Tally.{Tally}
pub use Rattle.epa_polytope.specs.declared.types.Store.{Store}
pub use Rattle.epa_polytope.specs.declared.types.Store.TheVariants.{Vertices as the_vertices, Faces as the_faces, Edges as the_edges, Heap as the_heap, Pending as the_pending}
pub use Rattle.epa_polytope.specs.declared.types.Made.{Made}
pub use Rattle.epa_polytope.specs.declared.types.Three.{Three}

-- ---- the lists

-- nine numbers a vertex; of a face six whole numbers, its corners and its neighbours, six floats, its normal and its weights, and a mark, whether it is deleted (0: live); of an edge two numbers, a
-- face and a corner of it; the heap's faces and keys; and of a pending question two numbers, a face and a corner of it
pub record Lists : Type 0 where
  pub vertices : List Float
  pub face_ids : List ℕ
  pub face_floats : List Float
  pub deleted : List ℕ
  pub edges : List ℕ
  pub heap_ids : List ℕ
  pub heap_keys : List Float
  pub pending : List ℕ

-- one setter for each
abbrev pub with_vertices : List Float → Lists → Lists
with_vertices x l =
    record { vertices = x; face_ids = l.face_ids; face_floats = l.face_floats; deleted = l.deleted; edges = l.edges; heap_ids = l.heap_ids; heap_keys = l.heap_keys; pending = l.pending }

abbrev pub with_face_ids : List ℕ → Lists → Lists
with_face_ids x l =
    record { vertices = l.vertices; face_ids = x; face_floats = l.face_floats; deleted = l.deleted; edges = l.edges; heap_ids = l.heap_ids; heap_keys = l.heap_keys; pending = l.pending }

abbrev pub with_face_floats : List Float → Lists → Lists
with_face_floats x l =
    record { vertices = l.vertices; face_ids = l.face_ids; face_floats = x; deleted = l.deleted; edges = l.edges; heap_ids = l.heap_ids; heap_keys = l.heap_keys; pending = l.pending }

abbrev pub with_deleted : List ℕ → Lists → Lists
with_deleted x l =
    record { vertices = l.vertices; face_ids = l.face_ids; face_floats = l.face_floats; deleted = x; edges = l.edges; heap_ids = l.heap_ids; heap_keys = l.heap_keys; pending = l.pending }

abbrev pub with_edges : List ℕ → Lists → Lists
with_edges x l =
    record { vertices = l.vertices; face_ids = l.face_ids; face_floats = l.face_floats; deleted = l.deleted; edges = x; heap_ids = l.heap_ids; heap_keys = l.heap_keys; pending = l.pending }

abbrev pub with_heap : List ℕ → List Float → Lists → Lists
with_heap x y l =
    record { vertices = l.vertices; face_ids = l.face_ids; face_floats = l.face_floats; deleted = l.deleted; edges = l.edges; heap_ids = x; heap_keys = y; pending = l.pending }

abbrev pub with_pending : List ℕ → Lists → Lists
with_pending x l =
    record { vertices = l.vertices; face_ids = l.face_ids; face_floats = l.face_floats; deleted = l.deleted; edges = l.edges; heap_ids = l.heap_ids; heap_keys = l.heap_keys; pending = x }

-- all but the pending questions in the places of k's
abbrev pub lend : List Float → List ℕ → List Float → List ℕ → List ℕ → List ℕ → List Float → Lists → Lists
lend v i x d e hi hk k = with_vertices v (with_face_ids i (with_face_floats x (with_deleted d (with_edges e (with_heap hi hk k)))))

-- ---- the room: a store lent as several lists is as long as the fewest whole records that one of them holds

abbrev pub face_room : Lists → ℕ
face_room l = min (min (length l.face_ids / 6) (length l.face_floats / 6)) (length l.deleted)

abbrev pub heap_room : Lists → ℕ
heap_room l = min (length l.heap_ids) (length l.heap_keys)

abbrev pub room_for : Store → Lists → ℕ
room_for the_vertices l = length l.vertices / 9
room_for the_faces l = face_room l
room_for the_edges l = length l.edges / 2
room_for the_heap l = heap_room l
room_for the_pending l = length l.pending / 2

-- ---- the tally: the entries of each store, the expansions completed, the most edges recorded in one pass, and the lookups that missed

-- one setter for each
abbrev pub vertex_count : ℕ → Tally → Tally
vertex_count n c = record { vertices = n; faces = c.faces; edges = c.edges; heap = c.heap; pending = c.pending; done = c.done; most = c.most; missed = c.missed }

abbrev pub face_count : ℕ → Tally → Tally
face_count n c = record { vertices = c.vertices; faces = n; edges = c.edges; heap = c.heap; pending = c.pending; done = c.done; most = c.most; missed = c.missed }

abbrev pub edge_count : ℕ → Tally → Tally
edge_count n c = record { vertices = c.vertices; faces = c.faces; edges = n; heap = c.heap; pending = c.pending; done = c.done; most = c.most; missed = c.missed }

abbrev pub heap_count : ℕ → Tally → Tally
heap_count n c = record { vertices = c.vertices; faces = c.faces; edges = c.edges; heap = n; pending = c.pending; done = c.done; most = c.most; missed = c.missed }

abbrev pub pending_count : ℕ → Tally → Tally
pending_count n c = record { vertices = c.vertices; faces = c.faces; edges = c.edges; heap = c.heap; pending = n; done = c.done; most = c.most; missed = c.missed }

abbrev pub done_count : ℕ → Tally → Tally
done_count n c = record { vertices = c.vertices; faces = c.faces; edges = c.edges; heap = c.heap; pending = c.pending; done = n; most = c.most; missed = c.missed }

abbrev pub most_count : ℕ → Tally → Tally
most_count n c = record { vertices = c.vertices; faces = c.faces; edges = c.edges; heap = c.heap; pending = c.pending; done = c.done; most = n; missed = c.missed }

abbrev pub missed_count : ℕ → Tally → Tally
missed_count n c = record { vertices = c.vertices; faces = c.faces; edges = c.edges; heap = c.heap; pending = c.pending; done = c.done; most = c.most; missed = n }

-- nothing is made yet
abbrev pub none_yet : Tally
none_yet = record { vertices = 0; faces = 0; edges = 0; heap = 0; pending = 0; done = 0; most = 0; missed = 0 }

-- ---- the state of a run

pub record State : Type 0 where
  pub lists : Lists
  pub tally : Tally

abbrev pub state_of : Lists → Tally → State
state_of l c = record { lists = l; tally = c }

-- ---- what the lists hold

abbrev pub vec_at : List Float → ℕ → Vec3
vec_at l i = vec3 (get_or l i nan) (get_or l (i + 1) nan) (get_or l (i + 2) nan)

abbrev pub nowhere : Vec3
nowhere = vec3 nan nan nan

abbrev pub vec_cells : Vec3 → List Float → List Float
vec_cells v l = v.x ∷ v.y ∷ v.z ∷ l

-- the vertex i: its point and the two points that it came from
unfoldable pub vertex_at : List Float → ℕ → Vertex
vertex_at l i =
    cond (ltb i (length l / 9))
    (record { point = vec_at l (i * 9); orig1 = vec_at l (i * 9 + 3); orig2 = vec_at l (i * 9 + 6) })
    (record { point = nowhere; orig1 = nowhere; orig2 = nowhere })

unfoldable pub put_vertex : List Float → ℕ → Vertex → List Float
put_vertex l i v = cond (ltb i (length l / 9)) (sets l (i * 9) (vec_cells v.point (vec_cells v.orig1 (vec_cells v.orig2 [])))) l

abbrev pub point_at : State → ℕ → Vec3
point_at s i = (vertex_at s.lists.vertices i).point

-- the normal and the weights of the face i
unfoldable pub normal_of : List Float → ℕ → Vec3
normal_of l i = cond (ltb i (length l / 6)) (vec_at l (i * 6)) nowhere

unfoldable pub weights_of : List Float → ℕ → Vec3
weights_of l i = cond (ltb i (length l / 6)) (vec_at l (i * 6 + 3)) nowhere

unfoldable pub put_made : List Float → ℕ → Made → List Float
put_made l i m = cond (ltb i (length l / 6)) (sets l (i * 6) (vec_cells m.normal (vec_cells m.weights []))) l

abbrev pub normal_at : State → ℕ → Vec3
normal_at s i = normal_of s.lists.face_floats i

-- of the face i the corner k (`pts[k]`) and the neighbour k (`adj[k]`)
abbrev pub corner_in : List ℕ → ℕ → ℕ → ℕ
corner_in l i k = get_or l (i * 6 + k) 0

abbrev pub neighbour_in : List ℕ → ℕ → ℕ → ℕ
neighbour_in l i k = get_or l (i * 6 + (3 + k)) 0

abbrev pub corner_at : State → ℕ → ℕ → ℕ
corner_at s i k = corner_in s.lists.face_ids i k

-- whether it is deleted
abbrev pub deleted_at : State → ℕ → ℕ
deleted_at s i = get_or s.lists.deleted i 1

-- `faces[i].adj[k] = j`
abbrev pub linked_in : List ℕ → ℕ → ℕ → ℕ → List ℕ
linked_in l i k j = set l (i * 6 + (3 + k)) j

-- a face's six numbers, and the list with them at the place n
abbrev pub face_cells : Three → Three → List ℕ
face_cells corners neighbours = corners.a ∷ corners.b ∷ corners.c ∷ neighbours.a ∷ neighbours.b ∷ neighbours.c ∷ []

abbrev pub put_face : List ℕ → ℕ → Three → Three → List ℕ
put_face l n corners neighbours = sets l (n * 6) (face_cells corners neighbours)

-- 1 for a mark that is zero, which is that of a live face
abbrev pub one_if_zero : ℕ → ℕ
one_if_zero zero = 1
one_if_zero (suc n) = 0

-- how many of the first n faces are live
unfoldable pub live_to : ℕ → List ℕ → ℕ
live_to zero d = 0
live_to (suc n) d = one_if_zero (get_or d n 1) + live_to n d

abbrev pub live : State → ℕ
live s = live_to s.tally.faces s.lists.deleted

-- the heap
abbrev pub heap_of : State → Heap
heap_of s = heap s.lists.heap_ids s.lists.heap_keys s.tally.heap
