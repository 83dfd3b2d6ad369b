-- An expansion of the polytope: of the loop of `EPA::closest_points` of src/query/epa/epa3.rs what follows the new vertex, with `can_be_seen_by`. Definitions only.
use Rattle.std.specs.Prelude.{ℕ, zero, suc, ◌+◌, ◌-◌, ◌*◌, ◌%◌, max, Bool, true, false, ◌||◌, List, get_or, set, eqb}
use Rattle.std.specs.Float.{Format}
use Rattle.std.specs.Float.Ieee.{lt, neg}
use Rattle.number.specs.Constants.{eps_tol}
use Rattle.number.specs.Small.{ge}
use Rattle.vector.specs.Vector.{sub_v, dot_v}
use Rattle.projection.specs.Triangle.{is_affinely_dependent}
use Rattle.epa_polytope.specs.Stores.{Lists, State, Tally, state_of, with_face_ids, with_deleted, with_edges, with_pending, edge_count, pending_count, most_count, missed_count}
use Rattle.epa_polytope.specs.Stores.{room_for, the_edges, the_pending, vertex_at, normal_of, corner_in}
use Rattle.epa_polytope.specs.Stores.{linked_in, point_at, normal_at, corner_at, deleted_at}
use Rattle.epa_polytope.specs.Silhouette.{Question, WalkAnswer, Ok, Err, Mesh, walked, facing, with_missed, pass, recorded_of}
use Rattle.epa_polytope.specs.PlainWalk.{Walking, walking, plain_pass}
use Rattle.epa_polytope.specs.Start.{Walk, recursive, plain}
use Rattle.epa_polytope.specs.Steps.{Numbers, three, Out, onward, ended, Act, Nil, ◌>>=◌, ◌>>◌, look, put, ok, stop_if, do_if, branch, nothing, no_room}
use Rattle.epa_polytope.specs.Steps.{new_face_nearer, key_later, no_silhouette, all_deleted, push_face, queue_face, answer, made_of}
pub use Rattle.epa_polytope.specs.declared.types.Expansion.{Expansion}

-- ---- the silhouette

-- `self.faces[face_id.id].deleted = true`
unfoldable pub delete : ℕ → Act Nil
delete i = do
  s ← look
  put (state_of (with_deleted (set s.lists.deleted i 1) s.lists) s.tally)

-- `can_be_seen_by`: whether the face of a question is seen from a vertex
unfoldable pub can_be_seen_by : Format → Lists → ℕ → Question → Bool
can_be_seen_by f l point q =
    let p0 = (vertex_at l.vertices (corner_in l.face_ids q.face q.corner)).point in
    let p1 = (vertex_at l.vertices (corner_in l.face_ids q.face ((q.corner + 1) % 3))).point in
    let p2 = (vertex_at l.vertices (corner_in l.face_ids q.face ((q.corner + 2) % 3))).point in
    let pt = (vertex_at l.vertices point).point in
    ge (dot_v f (sub_v f pt p0) (normal_of l.face_floats q.face)) (neg (eps_tol f)) || is_affinely_dependent f (record { a = p1; b = p2; c = pt })

-- the tally and the state after a pass of which n edges are recorded, and so many questions still held
abbrev pub passed_tally : ℕ → ℕ → ℕ → Tally → Tally
passed_tally n held missed c = edge_count n (pending_count held (most_count (max c.most n) (missed_count missed c)))

abbrev pub after_pass : State → Walking → ℕ → State
after_pass s t n =
    state_of (with_deleted t.walk.deleted (with_edges t.walk.edges (with_pending t.pending s.lists))) (passed_tally n t.held t.walk.missed s.tally)

-- the run goes on, unless there was no place for a question, or none for an edge
abbrev pub passed_if : Bool → WalkAnswer → State → Out Nil
passed_if true a t = ended (no_room the_pending) t
passed_if false (Ok n) t = onward tt t
passed_if false (Err e) t = ended (no_room the_edges) t

abbrev pub passed : State → Walking → Out Nil
passed s t = passed_if t.short t.walk.answer (after_pass s t (recorded_of (room_for the_edges s.lists) t.walk.answer))

-- what a walk from the vertex `point` reads
abbrev pub mesh_of : Numbers → Lists → ℕ → Mesh
mesh_of w l point = record { ids = l.face_ids; seen = can_be_seen_by w.format l point }

-- what it begins with: the three neighbours of the face i are looked up before the first is asked, and no question is held
abbrev pub before_pass : State → ℕ → Walking
before_pass s i =
    let ids = s.lists.face_ids in
    walking (walked s.lists.deleted s.lists.edges (with_missed ids i 2 (with_missed ids i 1 (with_missed ids i 0 s.tally.missed))) (Ok 0)) s.lists.pending 0 false

-- a pass by either walk; the recursive one holds no question
unfoldable pub pass_by : Walk → Mesh → Walking → Question → Question → Question → Walking
pass_by recursive m s a b c = walking (pass m s.walk a b c) s.pending s.held s.short
pass_by plain m s a b c = plain_pass m s a b c

-- `compute_silhouette` of the three neighbours of the face i, which is deleted already, in order
unfoldable pub silhouette : Walk → Numbers → ℕ → ℕ → Act Nil
silhouette y w point i s =
    let l = s.lists in
    let ids = l.face_ids in
    passed s (pass_by y (mesh_of w l point) (before_pass s i) (facing ids i 0) (facing ids i 1) (facing ids i 2))

-- ---- the new faces

-- `faces[i].adj[k] = j`
unfoldable pub link : ℕ → ℕ → ℕ → Act Nil
link i k j = do
  s ← look
  put (state_of (with_face_ids (linked_in s.lists.face_ids i k j) s.lists) s.tally)

-- a new face that holds the projection is queued, unless it lies nearer than the one that is expanded
unfoldable pub queue_new : Numbers → Expansion → ℕ → Act Nil
queue_new w u i = do
  s ← look
  let dist = dot_v w.format (normal_at s i) (point_at s (corner_at s i 0))
  branch (lt dist u.dist) (answer w new_face_nearer u.face) (queue_face key_later u.tol i (neg dist))

-- the face between the new vertex and the edge of the face f opposite its corner c (`edge.opp_pt_id`)
unfoldable pub grow_at : Numbers → Expansion → ℕ → ℕ → Act Nil
grow_at w u f c = do
  s ← look
  let n = s.tally.faces
  let a = corner_at s f ((c + 2) % 3)
  let b = corner_at s f ((c + 1) % 3)
  let m = made_of w s a b u.point
  link f ((c + 1) % 3) n
  push_face (three a b u.point) (three f (n + 1) (n - 1)) m
  do_if m.holds (queue_new w u n)

-- of the i-th edge the face and the corner
abbrev pub edge_face : List ℕ → ℕ → ℕ
edge_face l i = get_or l (i * 2) 0

abbrev pub edge_corner : List ℕ → ℕ → ℕ
edge_corner l i = get_or l (i * 2 + 1) 0

-- the new face of the i-th edge, if the edge's face is live
unfoldable pub grow : Numbers → Expansion → ℕ → Act Nil
grow w u i = do
  s ← look
  let f = edge_face s.lists.edges i
  do_if (eqb (deleted_at s f) 0) (grow_at w u f (edge_corner s.lists.edges i))

-- `for edge in &self.silhouette`: n edges, from the i-th on
unfoldable pub grow_all : Numbers → Expansion → ℕ → ℕ → Act Nil
grow_all w u zero i = ok
grow_all w u (suc n) i = grow w u i >> grow_all w u n (i + 1)

-- a list with zeros at its first n pairs of places
unfoldable pub blank : ℕ → List ℕ → List ℕ
blank zero l = l
blank (suc n) l = set (set (blank n l) (n * 2) 0) (n * 2 + 1) 0

-- `self.silhouette.clear()`
unfoldable pub clear_edges : Act Nil
clear_edges = do
  s ← look
  put (state_of (with_edges (blank s.tally.edges s.lists.edges) s.lists) (edge_count 0 s.tally))

-- the ring of new faces, from the face `first` on, is closed, and the edges are cleared
unfoldable pub close_ring : ℕ → Act Nil
close_ring first = do
  s ← look
  let made = s.tally.faces
  stop_if (eqb made first) (nothing all_deleted)
  link first 2 (made - 1)
  link (made - 1) 1 first
  clear_edges

-- new faces join the new vertex to the silhouette
unfoldable pub regrow : Numbers → Expansion → Act Nil
regrow w u = do
  s ← look
  stop_if (eqb s.tally.edges 0) (nothing no_silhouette)
  grow_all w u s.tally.edges 0
  close_ring s.tally.faces

-- ---- the expansion

-- the polytope grows to the new vertex: the faces that it sees go, and new ones come
unfoldable pub expand : Walk → Numbers → Expansion → Act Nil
expand y w u = do
  delete u.face
  silhouette y w u.point u.face
  regrow w u
