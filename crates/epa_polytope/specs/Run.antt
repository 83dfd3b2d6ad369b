-- The run of the polytope, `EPA::closest_points` of src/query/epa/epa3.rs: the start, and the loop that expands. Any format, any support function. Definitions only.
use Rattle.std.specs.Prelude.{ℕ, zero, suc, ◌+◌, Bool, cond, ◌&&◌, eqb, Float}
use Rattle.std.specs.Prelude.{Option, None, Some}
use Rattle.std.specs.Float.{Format}
use Rattle.std.specs.Float.Ieee.{lt, neg}
use Rattle.number.specs.Constants.{epsilon, polytope_tol, largest}
use Rattle.number.specs.Small.{absolute}
use Rattle.vector.specs.declared.vec3.Vec3.{Vec3}
use Rattle.vector.specs.Vector.{zero_f, dot_v, ◌⊖◌}
use Rattle.shape.specs.declared.vertex.Vertex.{Vertex}
use Rattle.heap.specs.declared.Entry.{Entry}
use Rattle.heap.specs.Heap.{entry_at, popped}
use Rattle.epa_polytope.specs.Stores.{Lists, state_of, with_heap, heap_count, done_count, none_yet, normal_at, deleted_at, heap_of}
use Rattle.epa_polytope.specs.Steps.{numbers_of, Out, Act, Nil, Over, ◌>>=◌, ◌>>◌, pure, look, put, do_if, branch, converged, stuck, enough_expansions, heap_empty, push_vertex, answer}
use Rattle.epa_polytope.specs.Start.{Walk, World, format_of, VoronoiSimplex, begin}
use Rattle.epa_polytope.specs.Expansion.{expand}
pub use Rattle.epa_polytope.specs.declared.types.Best.{Best}

-- ---- the next face

-- `self.heap.pop()`, of a heap of n + 1
unfoldable pub pop_entry : ℕ → Act Entry
pop_entry n = do
  s ← look
  let h = popped (heap_of s) n
  put (state_of (with_heap h.faces h.keys s.lists) (heap_count h.count s.tally))
  pure (entry_at (heap_of s) 0)

-- `if face.deleted { continue }`: entries go out until one is of a live face, of a heap of n
unfoldable pub pop_live : ℕ → Act (Option Entry)
pop_live zero = pure None
pop_live (suc n) = do
  e ← pop_entry n
  s ← look
  branch (eqb (deleted_at s e.face) 0) (pure (Some e)) (pop_live n)

-- ---- a face that was popped

-- `if candidate_max_dist < max_dist`: the best face and bound after a candidate
unfoldable pub bettered : Best → ℕ → Float → Best
bettered b i c = cond (lt c b.bound) (record { face = i; bound = c; last = b.last }) b

-- `max_dist - curr_dist < _eps_tol`
unfoldable pub has_converged : Format → Float → Float → Bool
has_converged f bound dist = lt (◌⊖◌ f bound dist) (polytope_tol f)

-- `(curr_dist - old_dist).abs() < _eps && candidate_max_dist < max_dist`. It never is: the bound has just been lowered to the candidate (`never_stuck` of proofs/Ways.antt)
unfoldable pub is_stuck : Format → Float → Float → Float → Float → Bool
is_stuck f dist last c bound = lt (absolute (◌⊖◌ f dist last)) (epsilon f) && lt c bound

-- the candidate c is known, of a new vertex, the p-th: the run ends at the best face, or the polytope grows to that vertex
unfoldable pub settle : World → Float → Best → Entry → ℕ → Float → Act Best
settle w tol b e p c =
    let k = format_of w in
    let b1 = bettered b e.face c in
    let dist = neg e.key in do
      do_if (has_converged k b1.bound dist) (answer w.numbers converged b1.face)
      do_if (is_stuck k dist b.last c b1.bound) (answer w.numbers stuck b1.face)
      expand w.walk_by w.numbers (record { face = e.face; dist = dist; point = p; tol = tol })
      pure (record { face = b1.face; bound = b1.bound; last = dist })

-- the vertex farthest along its normal is pushed
unfoldable pub visit : World → Float → Best → Entry → Act Best
visit w tol b e = do
  s ← look
  let normal = normal_at s e.face
  let v = w.supp normal
  push_vertex v
  settle w tol b e s.tally.vertices (dot_v (format_of w) v.point normal)

abbrev pub visit_if : World → Float → Best → Option Entry → Act Best
visit_if w tol b None = answer w.numbers heap_empty b.face
visit_if w tol b (Some e) = visit w tol b e

-- ---- the loop

-- `niter += 1`: an expansion is complete
unfoldable pub complete : Act Nil
complete = do
  s ← look
  put (state_of s.lists (done_count (s.tally.done + 1) s.tally))

-- the next live face is popped and expanded
unfoldable pub iterate : World → Float → Best → Act Best
iterate w tol b = do
  s ← look
  e ← pop_live s.tally.heap
  b1 ← visit_if w tol b e
  complete
  pure b1

-- at most n expansions more
unfoldable pub loop : World → Float → ℕ → Best → Act Over
loop w tol zero b = answer w.numbers enough_expansions b.face
loop w tol (suc n) b = iterate w tol b >>= loop w tol n

-- at most 101, from the face that the heap has first: it has one by then (`peek-finds` of proofs/Ways.antt)
unfoldable pub expansions : World → Float → Act Over
expansions w tol = do
  s ← look
  loop w tol 101 (record { face = (entry_at (heap_of s) 0).face; bound = largest (format_of w); last = zero_f })

-- ---- the run

unfoldable pub epa : World → VoronoiSimplex → Act Over
epa w x = begin w x >>= expansions w

-- over lent lists
unfoldable pub run : World → VoronoiSimplex → Lists → Out Over
run w x l = epa w x (state_of l none_yet)

-- `EPA::closest_points`, by either walk, for any format and any support function
unfoldable pub closest_points : Walk → Format → (Vec3 → Vertex) → VoronoiSimplex → Lists → Out Over
closest_points y f supp x l = run (record { numbers = numbers_of f; supp = supp; walk_by = y }) x l
