-- The start of a run, "Initialization" of `EPA::closest_points` of src/query/epa/epa3.rs: the vertices of the simplex, the tolerance of the keys, and the first faces. Definitions only.
use Rattle.std.specs.Prelude.{ℕ, zero, suc, ◌+◌, Bool, cond, not, ◌||◌, List, eqb, Float}
use Rattle.std.specs.Prelude.{Option, None, Some}
use Rattle.std.specs.Float.{Format}
use Rattle.std.specs.Float.Ieee.{neg}
use Rattle.number.specs.Constants.{eps_tol}
use Rattle.number.specs.Small.{gt, absolute, larger}
use Rattle.vector.specs.declared.vec3.Vec3.{Vec3}
use Rattle.vector.specs.Vector.{vec3, zero_f, one_f, zero_v, x_v, y_v, z_v, neg_v, sub_v, dot_v, cross_v, length_squared_v, length_v, normalize_v, normalize_or_zero_v, equal_v, ◌⊗◌}
use Rattle.vector.specs.declared.pose.Pose.{Pose}
use Rattle.shape.specs.declared.vertex.Vertex.{Vertex}
use Rattle.shape.specs.declared.support.Shape.{Shape}
use Rattle.shape.specs.Support.{from_shapes}
pub use Rattle.epa_polytope.specs.declared.types.Walk.{Walk}
pub use Rattle.epa_polytope.specs.declared.types.Walk.TheVariants.{Recursive as recursive, Plain as plain}
pub use Rattle.simplex.specs.declared.voronoi_simplex.VoronoiSimplex.{VoronoiSimplex}
use Rattle.simplex.specs.Simplex.{is_simplex, vertex_at as corner_of}
use Rattle.epa_polytope.specs.Stores.{Made, state_of, with_vertices, vertex_at, put_vertex, point_at, normal_at}
use Rattle.epa_polytope.specs.Steps.{Numbers, numbers_of, three, Act, Nil, ◌>>=◌, ◌>>◌, pure, stop, look, put, ok, stop_if, do_if, branch, answers, nothing, panics}
use Rattle.epa_polytope.specs.Steps.{single_point, key_at_start, none_holds, not_asimplex, no_third_vertex, push_vertex, push_face, enqueue, queue_face, made_of}

-- the numbers; the two shapes, by the vertex that they answer to a direction; and which walk finds the silhouette
pub record World : Type 0 where
  pub numbers : Numbers
  pub supp : Vec3 → Vertex
  pub walk_by : Walk

abbrev pub format_of : World → Format
format_of w = w.numbers.format

-- two shapes of the closed choice, the second in a pose, with the Rust's own face maker and its own walk
abbrev pub world_of : Format → Pose → Shape → Shape → World
world_of f m g1 g2 = record { numbers = numbers_of f; supp = from_shapes f m g1 g2; walk_by = recursive }

-- with the given walk
abbrev pub walked_as : Walk → World → World
walked_as y w = record { numbers = w.numbers; supp = w.supp; walk_by = y }

-- ---- the vertices

-- `for i in 0..simplex.dimension() + 1 { self.vertices.push(*simplex.point(i)) }`: n of them, from the i-th on
unfoldable pub push_points : VoronoiSimplex → ℕ → ℕ → Act Nil
push_points x zero i = ok
push_points x (suc n) i = push_vertex (corner_of x i) >> push_points x n (i + 1)

-- `candidates`: X, Y, Z, and their negatives
unfoldable pub direction : ℕ → Vec3
direction i =
    cond (eqb i 0) x_v
    (cond (eqb i 1) y_v
    (cond (eqb i 2) z_v
    (cond (eqb i 3) (neg_v x_v)
    (cond (eqb i 4) (neg_v y_v) (neg_v z_v)))))

-- whether a vertex lies far enough from p: the squared distance is strictly above `sep_tol * sep_tol`
unfoldable pub far_from : Format → Vec3 → Vertex → Bool
far_from f p v = gt (length_squared_v f (sub_v f v.point p)) (◌⊗◌ f (eps_tol f) (eps_tol f))

-- `find_map`: the vertex of the first of n directions, from the i-th on, that lies far enough from p
unfoldable pub first_far : World → Vec3 → ℕ → ℕ → Option Vertex
first_far w p zero i = None
first_far w p (suc n) i =
    let v = w.supp (direction i) in
    let rest = first_far w p n (i + 1) in
    cond (far_from (format_of w) p v) (Some v) rest

abbrev pub second : Vertex → Option Vertex → Act Nil
second v None = stop (answers single_point v.orig1 v.orig2 y_v)
second v (Some p) = push_vertex p

-- a single vertex gets a second one
unfoldable pub bootstrap : World → Act Nil
bootstrap w = do
  s ← look
  second (vertex_at s.lists.vertices 0) (first_far w (point_at s 0) 6 0)

unfoldable pub start_vertices : World → VoronoiSimplex → Act Nil
start_vertices w x = do
  push_points x (x.dim + 1) 0
  do_if (eqb x.dim 0) (bootstrap w)

-- ---- the tolerance

-- `scale`: the greatest length of the first n vertices, and 0 at least
unfoldable pub scale_of : Format → List Float → ℕ → Float
scale_of f l zero = zero_f
scale_of f l (suc n) = larger (scale_of f l n) (length_v f (vertex_at l n).point)

-- `dist_tol`
unfoldable pub dist_tol : Format → List Float → ℕ → Float
dist_tol f l n = ◌⊗◌ f (eps_tol f) (larger (scale_of f l n) one_f)

-- ---- four vertices: four faces

-- `dp1.cross(dp2).dot(dp3) > 0.0`: the faces would have their normals inward
unfoldable pub winds_inward : Format → List Float → Bool
winds_inward f l =
    let p0 = (vertex_at l 0).point in
    let dp1 = sub_v f (vertex_at l 1).point p0 in
    let dp2 = sub_v f (vertex_at l 2).point p0 in
    let dp3 = sub_v f (vertex_at l 3).point p0 in
    gt (dot_v f (cross_v f dp1 dp2) dp3) zero_f

-- `self.vertices.swap(1, 2)`
unfoldable pub exchanged : List Float → List Float
exchanged l = put_vertex (put_vertex l 1 (vertex_at l 2)) 2 (vertex_at l 1)

unfoldable pub exchange : Act Nil
exchange = do
  s ← look
  put (state_of (with_vertices (exchanged s.lists.vertices) s.lists) s.tally)

-- four faces, each the neighbour of the others
unfoldable pub four_faces : Made → Made → Made → Made → Act Nil
four_faces m1 m2 m3 m4 = do
  push_face (three 0 1 2) (three 3 1 2) m1
  push_face (three 1 3 2) (three 3 2 0) m2
  push_face (three 0 2 3) (three 0 1 3) m3
  push_face (three 0 3 1) (three 2 1 0) m4

-- the face i is queued if it holds the projection, by its distance at the vertex i
unfoldable pub queue_start : Numbers → Float → ℕ → Bool → Act Nil
queue_start w tol i holds =
    do_if holds do
      s ← look
      queue_face key_at_start tol i (neg (dot_v w.format (normal_at s i) (point_at s i)))

-- those of the four that hold the projection are queued, in order; one at least has to hold it
unfoldable pub queue_four : Numbers → Float → Bool → Bool → Bool → Bool → Act Nil
queue_four w tol h1 h2 h3 h4 = do
  queue_start w tol 0 h1
  queue_start w tol 1 h2
  queue_start w tol 2 h3
  queue_start w tol 3 h4
  stop_if (not (h1 || h2 || h3 || h4)) (nothing none_holds)

unfoldable pub start_four : Numbers → Float → Act Nil
start_four w tol = do
  s ← look
  do_if (winds_inward w.format s.lists.vertices) exchange
  t ← look
  let m1 = made_of w t 0 1 2
  let m2 = made_of w t 1 3 2
  let m3 = made_of w t 0 2 3
  let m4 = made_of w t 0 3 1
  four_faces m1 m2 m3 m4
  queue_four w tol m1.holds m2.holds m3.holds m4.holds

-- ---- two or three vertices: two faces

-- a vector across v: the first that `orthonormal_subspace_basis` of src/math/mod.rs finds
unfoldable pub across : Format → Vec3 → Vec3
across f v =
    normalize_v f (cond (gt (absolute v.x) (absolute v.z)) (vec3 (neg v.y) v.x zero_f) (vec3 zero_f (neg v.z) v.y))

-- two vertices get a third, in a direction across them. Where they span none, `vertices[2]` panics in the first face
unfoldable pub third : World → Act Nil
third w = do
  s ← look
  let v = normalize_or_zero_v (format_of w) (sub_v (format_of w) (point_at s 1) (point_at s 0))
  stop_if (equal_v v zero_v) (panics no_third_vertex)
  push_vertex (w.supp (across (format_of w) v))

-- two faces, back to back, at key 0: no tolerance refuses it (`zero-key-taken` of proofs/Tolerance.antt)
unfoldable pub two_faces : Numbers → Act Nil
two_faces w = do
  t ← look
  push_face (three 0 1 2) (three 1 1 1) (made_of w t 0 1 2)
  push_face (three 0 2 1) (three 0 0 0) (made_of w t 0 2 1)
  enqueue 0 zero_f
  enqueue 1 zero_f

unfoldable pub start_two : World → Act Nil
start_two w = do
  s ← look
  do_if (eqb s.tally.vertices 2) (third w)
  two_faces w.numbers

-- ---- the start

unfoldable pub start_faces : World → ℕ → Float → Act Nil
start_faces w dim tol = branch (eqb dim 3) (start_four w.numbers tol) (start_two w)

-- the vertices, the tolerance of the keys, and the first faces
unfoldable pub begin : World → VoronoiSimplex → Act Float
begin w x = do
  stop_if (not (is_simplex x)) (panics not_asimplex)
  start_vertices w x
  s ← look
  let tol = dist_tol (format_of w) s.lists.vertices s.tally.vertices
  start_faces w x.dim tol
  pure tol
