-- What the steps of a run keep of its heap. Steps that queue nothing keep every fact of the heap (`keep-..`). The start keeps that each key is at most the tolerance, and, where none is NaN, that
-- they are in order (`meets-opened`). An expansion of a face with the key k, which is not NaN and at most the tolerance, keeps what each push of a key that is at most k keeps, and refuses no
-- key (`meets-one_more`): a new key passed the test 'not nearer than the popped one', so that it is at most k, and k is at most the tolerance. Of any run. Assumes nothing.
use mathlib.Core.Path.{◌≡◌, refl, sym, subst, ◌∙◌}
use mathlib.Core.Bool.{Bool, true, false, true≢false}
use mathlib.Core.List.{List, [], ◌∷◌, ◌++◌}
use Rattle.std.specs.Prelude.{Option, None, Some}
use Prim.Native.Nat.{ℕ, zero, suc, ◌+◌, ◌<◌}
use native.Mathlib.Omega.{arith}
use lib.ListN.{length}
use lib.Ieee.{Float, lt, neg}
use Rattle.number.proofs.Order.{less-not-nan, not-less-trans, lt-neg}
use Rattle.vector.specs.Vector.{zero_f, dot_v}
use Rattle.shape.specs.declared.vertex.Vertex.{Vertex}
use Rattle.heap.specs.declared.Entry.{Entry}
use Rattle.heap.specs.Heap.{Heap, entry, pushed}
use Rattle.heap.specs.Ordered.{Held, NotNan, AtMost, Ordered}
use Rattle.heap.proofs.Rising.{pushed-held}
use Rattle.heap.proofs.Ordered.{pushed-ordered}
use Rattle.heap.proofs.Multiset.{not-nan-before}
use Rattle.epa_polytope.specs.Stores.{State, Lists, Made, Three, state_of, none_yet, room_for, the_heap, heap_of, vertex_at, normal_at, point_at, corner_at}
use Rattle.epa_polytope.specs.Silhouette.{WalkAnswer, Ok, Err}
use Rattle.epa_polytope.specs.Steps.{End, answers, nothing, panics, no_room, Found, Lost, key_at_start, none_holds, no_silhouette, all_deleted, key_later, Out, onward, ended, Nil}
use Rattle.epa_polytope.specs.Steps.{Numbers, push_vertex, push_face, enqueue, queue_face, answer_of, answer}
use Rattle.epa_polytope.specs.Start.{Walk, World, format_of, VoronoiSimplex, push_points, first_far, second, bootstrap, start_vertices, dist_tol, exchange, four_faces, queue_start, queue_four, start_four, third}
use Rattle.epa_polytope.specs.Start.{two_faces, start_two, start_faces, begin}
use Rattle.epa_polytope.specs.Expansion.{Expansion, delete, passed_if, silhouette, link, queue_new, grow, grow_all, clear_edges, close_ring, regrow}
use Rattle.epa_polytope.specs.Run.{complete, pop_live}
use Rattle.epa_polytope.specs.Demand3.{Carried, opened, run_to, one_more, Passing, up_to_pass_of, up_to_pass, the_pass, after_the_pass, Joined, joined_at, up_to_queue, queue_joined}
use Rattle.epa_polytope.specs.Distances.{along, Every, key_of, keys_of_edges, keys_of_expansion}
use Rattle.epa_polytope.proofs.Moves.{with_entry, pass_from, with_pass}
use Rattle.epa_polytope.proofs.Tolerance.{tolerance-above-zero}
use Rattle.epa_polytope.proofs.Stages.{expansion-by-pass, edge-by-pushes}
use Rattle.epa_polytope.proofs.Steps.{Meets, goes, ends, meets-bind, meets-then, meets-look, meets-pure, meets-put, meets-ok, meets-stop, meets-stop_if, meets-do_if, meets-branch}
use Rattle.epa_polytope.proofs.Steps.{meets-link, meets-face, meets-enqueue, meets-vertex}

-- ---- the end that never comes

abbrev pub NotLost : Lost → Type 0
NotLost key_at_start = Unit {0}
NotLost none_holds = Unit {0}
NotLost no_silhouette = Unit {0}
NotLost all_deleted = Unit {0}
NotLost key_later = ⊥

-- any end but 'key refused later'
abbrev pub NotLater : End → State → Type 0
NotLater (answers y a b n) s = Unit {0}
NotLater (nothing y) s = NotLost y
NotLater (panics y) s = Unit {0}
NotLater (no_room y) s = Unit {0}

-- ---- lists along a run

pub every_append : {A : Type 0} (Q : A → Type 0) (a b : List A) → Every Q (a ++ b) → Every Q a × Every Q b
every_append Q [] b h = (tt, h)
every_append Q (x ∷ a) b h = let r = every_append Q a b h.1 in ((h.0, r.0), r.1)

-- what is told of a step that goes on
pub meets-along : {A B : Type 0} {P : A → State → Type 0} {E : End → State → Type 0} (Q : B → Type 0) (o : Out A) (f : A → State → List B) → Every Q (along o f) → Meets P E o
    → Meets (λ a t. P a t × Every Q (f a t)) E o
meets-along Q (onward a t) f h m = goes (m.held, h)
meets-along Q (ended e t) f h m = ends m.held

-- ---- a key that is tested

pub meets-key : (Q : Nil → State → Type 0) (why : Lost) (tol : Float) (i : ℕ) (key : Float) (s : State) → (lt tol key ≡ true → NotLost why)
    → (lt tol key ≡ false → s.tally.heap < room_for the_heap s.lists → Q tt (with_entry s (entry i key))) → Meets Q NotLater (queue_face why tol i key s)
unfolding queue_face
meets-key Q why tol i key s over in-room =
    meets-then NotLater (λ _ t. (s ≡ t) × (lt tol key ≡ false)) Q _ _ s
    (meets-stop_if NotLater _ _ _ s (λ e. over e) (λ e. (refl, e)))
    (λ _ t e. subst (λ (x : State). Meets Q NotLater (enqueue i key x)) e.0 (meets-enqueue NotLater Q i key s (λ _. tt) (λ room. in-room e.1 room)))

-- an answer is another end
pub meets-answer : {A : Type 0} (Q : A → State → Type 0) (w : Numbers) (why : Found) (i : ℕ) (s : State) → Meets Q NotLater (answer w why i s)
unfolding answer answer_of
meets-answer Q w why i s = meets-look NotLater Q _ s (meets-stop NotLater Q _ s tt)

-- ---- steps that queue nothing, with any fact of the heap

module _ (I : Heap → Type 0) where
  keep-vertex : (v : Vertex) (s : State) → I (heap_of s) → Meets (λ _ t. I (heap_of t)) NotLater (push_vertex v s)
  keep-vertex v s h = meets-vertex NotLater _ v s (λ _. tt) (λ _. h)

  keep-face : (corners neighbours : Three) (m : Made) (s : State) → I (heap_of s) → Meets (λ _ t. I (heap_of t)) NotLater (push_face corners neighbours m s)
  keep-face corners neighbours m s h = meets-face NotLater _ corners neighbours m s (λ _. tt) (λ _. h)

  keep-link : (i k j : ℕ) (s : State) → I (heap_of s) → Meets (λ _ t. I (heap_of t)) NotLater (link i k j s)
  keep-link i k j s h = meets-link NotLater _ i k j s h

  keep-points : (x : VoronoiSimplex) (n i : ℕ) (s : State) → I (heap_of s) → Meets (λ _ t. I (heap_of t)) NotLater (push_points x n i s)
  unfolding push_points
  keep-points x zero i s h = meets-ok NotLater _ s h
  keep-points x (suc n) i s h = meets-then NotLater (λ _ t. I (heap_of t)) _ _ _ s (keep-vertex _ s h) λ _ t k. keep-points x n (i + 1) t k

  keep-second : (v : Vertex) (o : Option Vertex) (s : State) → I (heap_of s) → Meets (λ _ t. I (heap_of t)) NotLater (second v o s)
  keep-second v None s h = meets-stop NotLater _ _ s tt
  keep-second v (Some p) s h = keep-vertex p s h

  pub keep-vertices : (w : World) (x : VoronoiSimplex) (s : State) → I (heap_of s) → Meets (λ _ t. I (heap_of t)) NotLater (start_vertices w x s)
  unfolding start_vertices bootstrap
  keep-vertices w x s h =
      meets-then NotLater (λ _ t. I (heap_of t)) _ _ _ s (keep-points x _ 0 s h) λ _ t k.
      meets-do_if NotLater _ _ _ t (λ _. meets-look NotLater _ _ t (keep-second (vertex_at t.lists.vertices 0) (first_far w (point_at t 0) 6 0) t k)) (λ _. k)

  keep-third : (w : World) (s : State) → I (heap_of s) → Meets (λ _ t. I (heap_of t)) NotLater (third w s)
  unfolding third
  keep-third w s h =
      meets-look NotLater _ _ s
      (meets-then NotLater (λ _ t. I (heap_of t)) _ _ _ s (meets-stop_if NotLater _ _ _ s (λ _. tt) (λ _. h)) λ _ t k.
      keep-vertex _ t k)

  keep-exchange : (s : State) → I (heap_of s) → Meets (λ _ t. I (heap_of t)) NotLater (exchange s)
  unfolding exchange
  keep-exchange s h = meets-look NotLater _ _ s (meets-put NotLater _ _ s h)

  keep-four_faces : (a b c d : Made) (s : State) → I (heap_of s) → Meets (λ _ t. I (heap_of t)) NotLater (four_faces a b c d s)
  unfolding four_faces
  keep-four_faces a b c d s h =
      meets-then NotLater (λ _ t. I (heap_of t)) _ _ _ s (keep-face _ _ a s h) λ _ s1 h1.
      meets-then NotLater (λ _ t. I (heap_of t)) _ _ _ s1 (keep-face _ _ b s1 h1) λ _ s2 h2.
      meets-then NotLater (λ _ t. I (heap_of t)) _ _ _ s2 (keep-face _ _ c s2 h2) λ _ s3 h3.
      keep-face _ _ d s3 h3

  keep-delete : (i : ℕ) (s : State) → I (heap_of s) → Meets (λ _ t. I (heap_of t)) NotLater (delete i s)
  unfolding delete
  keep-delete i s h = meets-look NotLater _ _ s (meets-put NotLater _ _ s h)

  keep-passed : (b : Bool) (a : WalkAnswer) (t : State) → I (heap_of t) → Meets (λ _ t. I (heap_of t)) NotLater (passed_if b a t)
  keep-passed true (Ok n) t h = ends tt
  keep-passed true (Err _) t h = ends tt
  keep-passed false (Ok n) t h = goes h
  keep-passed false (Err _) t h = ends tt

  keep-silhouette : (y : Walk) (w : Numbers) (p i : ℕ) (s : State) → I (heap_of s) → Meets (λ _ t. I (heap_of t)) NotLater (silhouette y w p i s)
  unfolding silhouette
  keep-silhouette y w p i s h = let t = pass_from y w s p i in keep-passed t.short t.walk.answer (with_pass y w s p i) h

  keep-clear : (s : State) → I (heap_of s) → Meets (λ _ t. I (heap_of t)) NotLater (clear_edges s)
  unfolding clear_edges
  keep-clear s h = meets-look NotLater _ _ s (meets-put NotLater _ _ s h)

  keep-close_ring : (first : ℕ) (s : State) → I (heap_of s) → Meets (λ _ t. I (heap_of t)) NotLater (close_ring first s)
  unfolding close_ring
  keep-close_ring first s h =
      meets-look NotLater _ _ s
      (meets-then NotLater (λ _ t. I (heap_of t)) _ _ _ s (meets-stop_if NotLater _ _ _ s (λ _. tt) (λ _. h)) λ _ s1 h1.
      meets-then NotLater (λ _ t. I (heap_of t)) _ _ _ s1 (keep-link _ _ _ s1 h1) λ _ s2 h2.
      meets-then NotLater (λ _ t. I (heap_of t)) _ _ _ s2 (keep-link _ _ _ s2 h2) λ _ s3 h3.
      keep-clear s3 h3)

  keep-complete : (s : State) → I (heap_of s) → Meets (λ _ t. I (heap_of t)) NotLater (complete s)
  unfolding complete
  keep-complete s h = meets-look NotLater _ _ s (meets-put NotLater _ _ s h)

  keep-joined_at : (w : Numbers) (u : Expansion) (f c : ℕ) (s : State) → I (heap_of s) → Meets (λ _ t. I (heap_of t)) NotLater (joined_at w u f c s)
  unfolding joined_at
  keep-joined_at w u f c s h =
      meets-look NotLater _ _ s
      (meets-then NotLater (λ _ t. I (heap_of t)) _ _ _ s (keep-link _ _ _ s h) λ _ s1 h1.
      meets-then NotLater (λ _ t. I (heap_of t)) _ _ _ s1 (keep-face _ _ _ s1 h1) λ _ s2 h2.
      meets-pure NotLater _ _ s2 h2)

  keep-up_to_queue : (w : Numbers) (u : Expansion) (i : ℕ) (s : State) → I (heap_of s) → Meets (λ _ t. I (heap_of t)) NotLater (up_to_queue w u i s)
  unfolding up_to_queue
  keep-up_to_queue w u i s h = meets-look NotLater _ _ s (meets-branch NotLater _ _ _ _ s (λ _. keep-joined_at w u _ _ s h) (λ _. meets-pure NotLater _ _ s h))

-- ---- the start

-- each key is at most the tolerance, and if none is NaN the heap is in order
pub record Opened (tol : Float) (h : Heap) : Type 0 where
  pub low : Held (AtMost tol) h
  pub order : Held NotNan h → Ordered h

opened-empty : (tol : Float) (h : Heap) → h.count ≡ 0 → Opened tol h
opened-empty tol h e = record {
  low = record { each = λ i l. let z : ⊥ = omega arith in absurd z };
  order = λ _. record { parents = λ i l. let z : ⊥ = omega arith in absurd z };
}

opened-pushed : (tol : Float) (h : Heap) (e : Entry) → h.count < length h.keys → AtMost tol e.key → Opened tol h → Opened tol (pushed h e)
opened-pushed tol h e room v o = record {
  low = pushed-held (AtMost tol) h e room v o.low;
  order = λ a. let b = not-nan-before h e room a in pushed-ordered h e room b.1 b.0 (o.order b.0);
}

module _ (w : World) (tol : Float) (zero-taken : AtMost tol zero_f) where
  abbrev O : Heap → Type 0
  O = Opened tol

  open-queue_start : (i : ℕ) (holds : Bool) (s : State) → O (heap_of s) → Meets (λ _ t. O (heap_of t)) NotLater (queue_start w.numbers tol i holds s)
  unfolding queue_start
  open-queue_start i holds s h =
      meets-do_if NotLater _ holds _ s
      (λ _. meets-look NotLater _ _ s (meets-key _ key_at_start tol i _ s (λ _. tt) (λ e room. opened-pushed tol (heap_of s) _ (omega arith) e h)))
      (λ _. h)

  open-enqueue : (i : ℕ) (s : State) → O (heap_of s) → Meets (λ _ t. O (heap_of t)) NotLater (enqueue i zero_f s)
  open-enqueue i s h = meets-enqueue NotLater _ i zero_f s (λ _. tt) (λ room. opened-pushed tol (heap_of s) _ (omega arith) zero-taken h)

  open-four : (s : State) → O (heap_of s) → Meets (λ _ t. O (heap_of t)) NotLater (start_four w.numbers tol s)
  unfolding start_four queue_four
  open-four s h =
      meets-look NotLater _ _ s
      (meets-then NotLater (λ _ t. O (heap_of t)) _ _ _ s (meets-do_if NotLater _ _ _ s (λ _. keep-exchange O s h) (λ _. h)) λ _ s1 h1.
      meets-look NotLater _ _ s1
      (meets-then NotLater (λ _ t. O (heap_of t)) _ _ _ s1 (keep-four_faces O _ _ _ _ s1 h1) λ _ s2 h2.
      meets-then NotLater (λ _ t. O (heap_of t)) _ _ _ s2 (open-queue_start 0 _ s2 h2) λ _ s3 h3.
      meets-then NotLater (λ _ t. O (heap_of t)) _ _ _ s3 (open-queue_start 1 _ s3 h3) λ _ s4 h4.
      meets-then NotLater (λ _ t. O (heap_of t)) _ _ _ s4 (open-queue_start 2 _ s4 h4) λ _ s5 h5.
      meets-then NotLater (λ _ t. O (heap_of t)) _ _ _ s5 (open-queue_start 3 _ s5 h5) λ _ s6 h6.
      meets-stop_if NotLater _ _ _ s6 (λ _. tt) (λ _. h6)))

  open-two : (s : State) → O (heap_of s) → Meets (λ _ t. O (heap_of t)) NotLater (start_two w s)
  unfolding start_two two_faces
  open-two s h =
      meets-look NotLater _ _ s
      (meets-then NotLater (λ _ t. O (heap_of t)) _ _ _ s (meets-do_if NotLater _ _ _ s (λ _. keep-third O w s h) (λ _. h)) λ _ s1 h1.
      meets-look NotLater _ _ s1
      (meets-then NotLater (λ _ t. O (heap_of t)) _ _ _ s1 (keep-face O _ _ _ s1 h1) λ _ s2 h2.
      meets-then NotLater (λ _ t. O (heap_of t)) _ _ _ s2 (keep-face O _ _ _ s2 h2) λ _ s3 h3.
      meets-then NotLater (λ _ t. O (heap_of t)) _ _ _ s3 (open-enqueue 0 s3 h3) λ _ s4 h4.
      open-enqueue 1 s4 h4))

  open-faces : (dim : ℕ) (s : State) → O (heap_of s) → Meets (λ _ t. O (heap_of t)) NotLater (start_faces w dim tol s)
  unfolding start_faces
  open-faces dim s h = meets-branch NotLater _ _ _ _ s (λ _. open-four s h) (λ _. open-two s h)

-- THE START: the tolerance is not NaN, each key is at most the tolerance, and if none is NaN the heap is in order
pub meets-opened : (w : World) (x : VoronoiSimplex) (l : Lists) → Meets (λ g t. NotNan g.tol × Opened g.tol (heap_of t)) NotLater (run_to w x 0 (state_of l none_yet))
unfolding run_to opened begin
meets-opened w x l =
    let s0 = state_of l none_yet in
    meets-bind NotLater (λ tol t. NotNan tol × Opened tol (heap_of t)) _ _ _ s0
    (meets-then NotLater (λ _ t. (heap_of t).count ≡ 0) _ _ _ s0 (meets-stop_if NotLater _ _ _ s0 (λ _. tt) (λ _. refl)) λ _ s1 h1.
    meets-then NotLater (λ _ t. (heap_of t).count ≡ 0) _ _ _ s1 (keep-vertices (λ h. h.count ≡ 0) w x s1 h1) λ _ s2 h2.
    meets-look NotLater _ _ s2
    (let tol = dist_tol (format_of w) s2.lists.vertices s2.tally.vertices in
    let above = tolerance-above-zero (format_of w) s2.lists.vertices s2.tally.vertices in
    meets-then NotLater (λ _ t. Opened tol (heap_of t)) _ _ _ s2 (open-faces w tol above.1 x.dim s2 (opened-empty tol (heap_of s2) h2)) λ _ s3 h3.
    meets-pure NotLater _ _ s3 ((less-not-nan _ _ above.0).1, h3)))
    λ tol s4 h4.
    meets-look NotLater _ _ s4 (meets-pure NotLater _ _ s4 h4)

-- ---- an expansion

-- the entry that was popped has the key k
abbrev pub IsKey : Option Entry → Float → Type 0
IsKey None k = Unit {0}
IsKey (Some e) k = e.key ≡ k

-- k is the key of the face that is expanded; Q is known of each key that is made, and I is kept by each push of a key that is at most k
module _ (w : World) (tol k : Float) (real : NotNan k) (low : AtMost tol k) (Q : Float → Type 0) (I : Heap → Type 0)
    (push : (h : Heap) (e : Entry) → h.count < length h.keys → Q e.key → AtMost k e.key → AtMost tol e.key → I h → I (pushed h e)) where
  -- what is known of the expansion
  abbrev Of : Expansion → Type 0
  Of u = (u.dist ≡ neg k) × (u.tol ≡ tol)

  -- a new key that passed the test is at most k, and so at most the tolerance
  meets-queue_new : (u : Expansion) (i : ℕ) (s : State) → Of u → Q (neg (dot_v (format_of w) (normal_at s i) (point_at s (corner_at s i 0)))) → I (heap_of s)
      → Meets (λ _ t. I (heap_of t)) NotLater (queue_new w.numbers u i s)
  unfolding queue_new
  meets-queue_new u i s is q h =
      let dist = dot_v (format_of w) (normal_at s i) (point_at s (corner_at s i 0)) in
      meets-look NotLater _ _ s
      (meets-branch NotLater _ _ _ _ s
      (λ _. meets-answer _ w.numbers _ u.face s)
      (λ e. let at_most : AtMost k (neg dist) = lt-neg k dist ∙ (rw is.0 at e) in
      let taken : AtMost tol (neg dist) = not-less-trans tol k (neg dist) real low at_most in
      meets-key _ key_later u.tol i (neg dist) s (λ over. absurd (true≢false (sym (rw is.1 at over) ∙ taken))) (λ _ room. push (heap_of s) (entry i (neg dist)) (omega arith) q at_most taken h)))

  meets-queue_joined : (u : Expansion) (j : Joined) (s : State) → Of u → I (heap_of s) × Every Q (key_of w.numbers j s) → Meets (λ _ t. I (heap_of t)) NotLater (queue_joined w.numbers u j s)
  unfolding queue_joined key_of
  meets-queue_joined u j s is h =
      meets-do_if NotLater _ j.queues _ s (λ e. let q = rw e at h.1 in meets-queue_new u j.face s is q.0 h.0) (λ _. h.0)

  meets-grow : (u : Expansion) (i : ℕ) (s : State) → Of u → Every Q (along (up_to_queue w.numbers u i s) (key_of w.numbers)) → I (heap_of s)
      → Meets (λ _ t. I (heap_of t)) NotLater (grow w.numbers u i s)
  meets-grow u i s is q h =
      rw (edge-by-pushes w.numbers u i s)
      (meets-bind NotLater (λ j t. I (heap_of t) × Every Q (key_of w.numbers j t)) _ _ _ s (meets-along Q _ (key_of w.numbers) q (keep-up_to_queue I w.numbers u i s h)) λ j t y.
      meets-queue_joined u j t is y)

  meets-grow_all : (u : Expansion) (n i : ℕ) (s : State) → Of u → Every Q (keys_of_edges w.numbers u n i s) → I (heap_of s) → Meets (λ _ t. I (heap_of t)) NotLater (grow_all w.numbers u n i s)
  unfolding grow_all keys_of_edges
  meets-grow_all u zero i s is q h = meets-ok NotLater _ s h
  meets-grow_all u (suc n) i s is q h =
      let both = every_append Q (along (up_to_queue w.numbers u i s) (key_of w.numbers)) _ q in
      meets-then NotLater (λ _ t. I (heap_of t) × Every Q (keys_of_edges w.numbers u n (i + 1) t)) _ _ _ s
      (meets-along Q _ (λ _ t. keys_of_edges w.numbers u n (i + 1) t) both.1 (meets-grow u i s is both.0 h)) λ _ t y.
      meets-grow_all u n (i + 1) t is y.1 y.0

  meets-regrow : (u : Expansion) (s : State) → Of u → Every Q (keys_of_edges w.numbers u s.tally.edges 0 s) → I (heap_of s) → Meets (λ _ t. I (heap_of t)) NotLater (regrow w.numbers u s)
  unfolding regrow
  meets-regrow u s is q h =
      meets-look NotLater _ _ s
      (meets-then NotLater (λ _ t. s ≡ t) _ _ _ s (meets-stop_if NotLater _ _ _ s (λ _. tt) (λ _. refl)) λ _ s1 e1.
      meets-then NotLater (λ _ t. I (heap_of t)) _ _ _ s1
      (subst (λ (x : State). Meets (λ _ t. I (heap_of t)) NotLater (grow_all w.numbers u s.tally.edges 0 x)) e1 (meets-grow_all u s.tally.edges 0 s is q h)) λ _ s2 h2.
      keep-close_ring I _ s2 h2)

  module _ (g : Carried) (carries : g.tol ≡ tol) where
    -- what is known where the pass begins
    abbrev Before : Passing → State → Type 0
    Before p t = Of p.expansion × I (heap_of t)

    meets-up_to_pass_of : (o : Option Entry) (s : State) → IsKey o k → I (heap_of s) → Meets Before NotLater (up_to_pass_of w g o s)
    meets-up_to_pass_of None s e h = meets-answer _ w.numbers _ _ s
    meets-up_to_pass_of (Some a) s e h =
        meets-look NotLater _ _ s
        (meets-then NotLater (λ _ t. I (heap_of t)) _ _ _ s (keep-vertex I _ s h) λ _ s1 h1.
        meets-then NotLater (λ _ t. I (heap_of t)) _ _ _ s1 (meets-do_if NotLater _ _ _ s1 (λ _. meets-answer _ w.numbers _ _ s1) (λ _. h1)) λ _ s2 h2.
        meets-then NotLater (λ _ t. I (heap_of t)) _ _ _ s2 (meets-do_if NotLater _ _ _ s2 (λ _. meets-answer _ w.numbers _ _ s2) (λ _. h2)) λ _ s3 h3.
        meets-then NotLater (λ _ t. I (heap_of t)) _ _ _ s3 (keep-delete I _ s3 h3) λ _ s4 h4.
        meets-pure NotLater _ _ s4 ((rw e, carries), h4))

    meets-up_to_pass : (s : State) → Meets (λ o t. IsKey o k × I (heap_of t)) NotLater (pop_live s.tally.heap s) → Meets Before NotLater (up_to_pass w g s)
    unfolding up_to_pass
    meets-up_to_pass s m = meets-look NotLater _ _ s (meets-bind NotLater (λ o t. IsKey o k × I (heap_of t)) _ _ _ s m λ o t y. meets-up_to_pass_of o t y.0 y.1)

    meets-after_the_pass : (p : Passing) (s : State) → Of p.expansion → Every Q (keys_of_edges w.numbers p.expansion s.tally.edges 0 s) → I (heap_of s)
        → Meets (λ g' t. (g'.tol ≡ tol) × I (heap_of t)) NotLater (after_the_pass w g p s)
    unfolding after_the_pass
    meets-after_the_pass p s is q h =
        meets-then NotLater (λ _ t. I (heap_of t)) _ _ _ s (meets-regrow p.expansion s is q h) λ _ s1 h1.
        meets-then NotLater (λ _ t. I (heap_of t)) _ _ _ s1 (keep-complete I s1 h1) λ _ s2 h2.
        meets-pure NotLater _ _ s2 (carries, h2)

    -- AN EXPANSION, from what its pops leave
    pub meets-one_more : (s : State) → Meets (λ o t. IsKey o k × I (heap_of t)) NotLater (pop_live s.tally.heap s) → Every Q (keys_of_expansion w g s)
        → Meets (λ g' t. (g'.tol ≡ tol) × I (heap_of t)) NotLater (one_more w g s)
    unfolding keys_of_expansion the_pass
    meets-one_more s m q =
        rw (expansion-by-pass w g s)
        (meets-bind NotLater (λ p t. Before p t × Every Q (along (the_pass w p t) (λ _ v. keys_of_edges w.numbers p.expansion v.tally.edges 0 v))) _ _ _ s
        (meets-along Q _ (λ p t. along (the_pass w p t) (λ _ v. keys_of_edges w.numbers p.expansion v.tally.edges 0 v)) q (meets-up_to_pass s m)) λ p t y.
        meets-then NotLater (λ _ v. I (heap_of v) × Every Q (keys_of_edges w.numbers p.expansion v.tally.edges 0 v)) _ _ _ t
        (meets-along Q _ (λ _ v. keys_of_edges w.numbers p.expansion v.tally.edges 0 v) y.1 (keep-silhouette I w.walk_by w.numbers p.expansion.point p.expansion.face t y.0.1)) λ _ v z.
        meets-after_the_pass p v y.0.0 z.1 z.0)
