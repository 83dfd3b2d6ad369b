-- The steps of a run, and the pushes that all of it is made of: of src/query/epa/epa3.rs the `push` of vertices, faces and heap, `FaceId::new`, and `Face::closest_points`. Definitions only.
-- A step takes the state, and goes on with a value and the state that it leaves, or ends the run. In a `do` block each line is a step, in order: `s ← look` names the state as it is at that line,
-- `put t` makes t the state, `stop_if b e` ends the run with e if b holds, and no later line is taken; `do_if` is if, `branch` if-else, `>>` then, and `pure x` hands x on.
use Rattle.std.specs.Prelude.{ℕ, ◌+◌, Bool, true, false, cond, set, leb, Float, Option, Some, None}
use Rattle.std.specs.Float.{Format}
use Rattle.number.specs.Small.{gt}
use Rattle.vector.specs.declared.vec3.Vec3.{Vec3}
use Rattle.vector.specs.Vector.{add_v, scale_v}
use Rattle.shape.specs.declared.vertex.Vertex.{Vertex}
use Rattle.heap.specs.Heap.{entry, pushed}
use Rattle.epa_polytope.specs.Face.{face_new}
use Rattle.epa_polytope.specs.Stores.{Lists, State, state_of, with_vertices, with_face_ids, with_face_floats, with_deleted, with_heap, vertex_count, face_count, heap_count}
use Rattle.epa_polytope.specs.Stores.{Made, Three, the_vertices, the_faces, the_heap}
use Rattle.epa_polytope.specs.Stores.{room_for, vertex_at, put_vertex, put_made, put_face, normal_of, weights_of, corner_in, point_at, heap_of}
use Rattle.epa_polytope.specs.declared.types.FaceId.{FaceId}
pub use Rattle.epa_polytope.specs.declared.types.Found.{Found}
pub use Rattle.epa_polytope.specs.declared.types.Found.TheVariants.{SinglePoint as single_point, Converged as converged, Stuck as stuck, NewFaceNearer as new_face_nearer}
pub use Rattle.epa_polytope.specs.declared.types.Found.TheVariants.{EnoughExpansions as enough_expansions, HeapEmpty as heap_empty}
pub use Rattle.epa_polytope.specs.declared.types.Lost.{Lost}
pub use Rattle.epa_polytope.specs.declared.types.Lost.TheVariants.{KeyAtStart as key_at_start, NoneHolds as none_holds, NoSilhouette as no_silhouette}
pub use Rattle.epa_polytope.specs.declared.types.Lost.TheVariants.{AllDeleted as all_deleted, KeyLater as key_later}
pub use Rattle.epa_polytope.specs.declared.types.Site.{Site}
pub use Rattle.epa_polytope.specs.declared.types.Site.TheVariants.{NotASimplex as not_asimplex, NoThirdVertex as no_third_vertex}
pub use Rattle.epa_polytope.specs.declared.types.End.{End}
pub use Rattle.epa_polytope.specs.declared.types.End.TheVariants.{Answers as answers, Nothing as nothing, Panics as panics, NoRoom as no_room}

-- ---- how a run ends

-- document 01's number: the refusal's, and 0 for an answer
unfoldable pub refusal : End → ℕ
refusal (answers y a b n) = 0
refusal (nothing y) = 1
refusal (panics y) = 2
refusal (no_room y) = 3

-- ---- steps in sequence

pub data Out (A : Type 0) : Type 0 where
  onward : A → State → Out A
  ended : End → State → Out A

abbrev pub Act : Type 0 → Type 0
Act A = State → Out A

abbrev pub next : {A B : Type 0} → Out A → (A → Act B) → Out B
next (onward a s) k = k a s
next (ended e s) k = ended e s

infixl 20 ◌>>=◌ ◌>>◌
unfoldable pub ◌>>=◌ : {A B : Type 0} → Act A → (A → Act B) → Act B
◌>>=◌ m k s = next (m s) k

unfoldable pub ◌>>◌ : {A B : Type 0} → Act A → Act B → Act B
◌>>◌ m k s = next (m s) (λ _. k)

-- a step that hands nothing on, and one that only ends
abbrev pub Nil : Type 0
Nil = Unit {0}

abbrev pub Over : Type 0
Over = ⊥

unfoldable pub pure : {A : Type 0} → A → Act A
pure a s = onward a s

unfoldable pub stop : {A : Type 0} → End → Act A
stop e s = ended e s

unfoldable pub look : Act State
look s = onward s s

unfoldable pub put : State → Act Nil
put t s = onward tt t

unfoldable pub ok : Act Nil
ok s = onward tt s

unfoldable pub stop_if : Bool → End → Act Nil
stop_if true e s = ended e s
stop_if false e s = onward tt s

unfoldable pub do_if : Bool → Act Nil → Act Nil
do_if true a s = a s
do_if false a s = onward tt s

unfoldable pub branch : {A : Type 0} → Bool → Act A → Act A → Act A
branch true a b s = a s
branch false a b s = b s

-- ---- what a run does not need to know

-- the number format, and what a face is made of, by its three corners
pub record Numbers : Type 0 where
  pub format : Format
  pub maker : Vec3 → Vec3 → Vec3 → Made

-- the Rust's own face maker
abbrev pub numbers_of : Format → Numbers
numbers_of f = record { format = f; maker = face_new f }

-- ---- the pushes, each refused where the count is the store's room

-- `self.vertices.push(v)`
unfoldable pub push_vertex : Vertex → Act Nil
push_vertex v = do
  s ← look
  let l = s.lists
  let n = s.tally.vertices
  stop_if (leb (room_for the_vertices l) n) (no_room the_vertices)
  put (state_of (with_vertices (put_vertex l.vertices n v) l) (vertex_count (n + 1) s.tally))

abbrev pub three : ℕ → ℕ → ℕ → Three
three a b c = record { a = a; b = b; c = c }

-- `self.faces.push(face)`: its corners, its neighbours, and what it is made of
unfoldable pub push_face : Three → Three → Made → Act Nil
push_face corners neighbours m = do
  s ← look
  let l = s.lists
  let n = s.tally.faces
  stop_if (leb (room_for the_faces l) n) (no_room the_faces)
  put (state_of (with_face_ids (put_face l.face_ids n corners neighbours) (with_face_floats (put_made l.face_floats n m) (with_deleted (set l.deleted n 0) l))) (face_count (n + 1) s.tally))

-- `self.heap.push(FaceId { id, neg_dist })`
unfoldable pub enqueue : ℕ → Float → Act Nil
enqueue id neg_dist = do
  s ← look
  stop_if (leb (room_for the_heap s.lists) s.tally.heap) (no_room the_heap)
  let h = pushed (heap_of s) (entry id neg_dist)
  put (state_of (with_heap h.faces h.keys s.lists) (heap_count h.count s.tally))

-- `FaceId::new`: none, for a key above the tolerance
unfoldable pub face_id_new : ℕ → Float → Float → Option FaceId
face_id_new id neg_dist tol = cond (gt neg_dist tol) None (Some (record { id = id; neg_dist = neg_dist }))

-- `self.heap.push(FaceId::new(id, neg_dist, tol)?)`: a key above the tolerance is refused
unfoldable pub queue_face : Lost → Float → ℕ → Float → Act Nil
queue_face why tol id neg_dist = do
  stop_if (gt neg_dist tol) (nothing why)
  enqueue id neg_dist

-- ---- the answer

-- `Face::closest_points`, of one shape: the weighted sum of three points
unfoldable pub weighted : Format → Vec3 → Vec3 → Vec3 → Vec3 → Vec3
weighted f u a b c = add_v f (add_v f (scale_v f a u.x) (scale_v f b u.y)) (scale_v f c u.z)

-- the two points of the face i, and its normal
unfoldable pub answer_of : Format → Found → Lists → ℕ → End
answer_of f why l i =
    let a = vertex_at l.vertices (corner_in l.face_ids i 0) in
    let b = vertex_at l.vertices (corner_in l.face_ids i 1) in
    let c = vertex_at l.vertices (corner_in l.face_ids i 2) in
    let u = weights_of l.face_floats i in
    answers why (weighted f u a.orig1 b.orig1 c.orig1) (weighted f u a.orig2 b.orig2 c.orig2) (normal_of l.face_floats i)

unfoldable pub answer : {A : Type 0} → Numbers → Found → ℕ → Act A
answer w why i = do
  s ← look
  stop (answer_of w.format why s.lists i)

-- what the face of three vertices is made of
abbrev pub made_of : Numbers → State → ℕ → ℕ → ℕ → Made
made_of w s a b c = w.maker (point_at s a) (point_at s b) (point_at s c)
