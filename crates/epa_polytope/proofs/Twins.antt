-- Two runs side by side, over different lent lists: what a step reads is the same, and what it leaves is. Assumes nothing.
use mathlib.Core.Path.{◌≡◌, refl, sym, ap, subst, ◌∙◌}
use mathlib.Core.Bool.{Bool, true, false}
use mathlib.Core.List.{List, []}
use Prim.Native.Nat.{ℕ, zero, suc, ◌+◌, ◌*◌, ◌/◌, ◌<◌, ◌≤◌}
use native.Mathlib.Omega.{arith}
use native.Mathlib.Numerals.{add-one}
use lib.ListN.{length}
use lib.Dec.{leb}
use lib.Ieee.{Float, Format, nan}
use borrow.Author.Tests.{lt-ltb, leb-true, leb-false}
use Rattle.shape.specs.declared.vertex.Vertex.{Vertex}
use Rattle.heap.specs.declared.Entry.{Entry}
use Rattle.heap.specs.Heap.{Heap, pushed, popped}
use Rattle.epa_polytope.specs.Same.{Alike, Same, Short, short, Agreed, first_short, second_short, alike}
use Rattle.epa_polytope.proofs.Alike.{AlikeHeap, alike-none, alike_set, alike-sets, alike-over, alike-push, alike-pushed, alike-popped}
use Rattle.epa_polytope.proofs.Lengths.{SameLength, same-rooms, same-moves}
use Rattle.epa_polytope.proofs.Moves.{left, with_vertex, with_exchange, with_face, with_entry, with_pop, with_link}
use Rattle.epa_polytope.proofs.Steps.{Meets}
use Rattle.epa_polytope.specs.Stores.{put_vertex, Lists, live_to, put_made, vertex_at, State, normal_of, weights_of, heap_of, point_at, corner_at, Made, Tally, room_for, Three, normal_at, state_of, vec_cells, live, the_heap, with_heap, Store, the_faces, the_vertices, done_count, face_cells, edge_count, heap_count}
use Rattle.epa_polytope.specs.Steps.{Numbers, answer, answer_of, put, stop_if, branch, enqueue, queue_face, ◌>>◌, Found, Out, stop, End, pure, push_vertex, onward, push_face, ok, made_of, ◌>>=◌, do_if, Act, look, Lost, ended, no_room, next, nothing, Nil}
use Rattle.epa_polytope.specs.Expansion.{clear_edges, delete}
use Rattle.epa_polytope.specs.Run.{complete}
use Rattle.epa_polytope.specs.Start.{exchanged}
use Rattle.epa_polytope.specs.Bounds.{CornersIn}

-- ---- what is read below the counts

module _ (n : ℕ) (l k : List Float) (i : ℕ) (h : i < n) where
  pub same-vertex : Alike (n * 9) l k → vertex_at l i ≡ vertex_at k i
  unfolding vertex_at
  same-vertex a =
      rw (lt-ltb i (length l / 9) (omega arith), lt-ltb i (length k / 9) (omega arith))
      (rw (
        a.same (i * 9) nan (omega arith),
        a.same (i * 9 + 1) nan (omega arith),
        a.same (i * 9 + 2) nan (omega arith),
        a.same (i * 9 + 3) nan (omega arith),
        a.same (i * 9 + 3 + 1) nan (omega arith),
        a.same (i * 9 + 3 + 2) nan (omega arith),
        a.same (i * 9 + 6) nan (omega arith),
        a.same (i * 9 + 6 + 1) nan (omega arith),
        a.same (i * 9 + 6 + 2) nan (omega arith),
      ))

  pub same-normal : Alike (n * 6) l k → normal_of l i ≡ normal_of k i
  unfolding normal_of
  same-normal a =
      rw (lt-ltb i (length l / 6) (omega arith), lt-ltb i (length k / 6) (omega arith))
      (rw (a.same (i * 6) nan (omega arith), a.same (i * 6 + 1) nan (omega arith), a.same (i * 6 + 2) nan (omega arith)))

  pub same-weights : Alike (n * 6) l k → weights_of l i ≡ weights_of k i
  unfolding weights_of
  same-weights a =
      rw (lt-ltb i (length l / 6) (omega arith), lt-ltb i (length k / 6) (omega arith))
      (rw (a.same (i * 6 + 3) nan (omega arith), a.same (i * 6 + 3 + 1) nan (omega arith), a.same (i * 6 + 3 + 2) nan (omega arith)))

  pub same-exchange : (v w : Vertex) → v ≡ w → Alike (n * 9) l k → Alike (n * 9) (put_vertex l i v) (put_vertex k i w)
  unfolding put_vertex
  same-exchange v w e a =
      rw (e, lt-ltb i (length l / 9) (omega arith), lt-ltb i (length k / 9) (omega arith))
      (alike-over (vec_cells w.point (vec_cells w.orig1 (vec_cells w.orig2 []))) (n * 9) (i * 9) l k a)

pub alike-vertex : (n : ℕ) (l k : List Float) (v : Vertex) → (n + 1) * 9 ≤ length l → (n + 1) * 9 ≤ length k → Alike (n * 9) l k → Alike ((n + 1) * 9) (put_vertex l n v) (put_vertex k n v)
unfolding put_vertex
alike-vertex n l k v hl hk a =
    rw (lt-ltb n (length l / 9) (omega arith), lt-ltb n (length k / 9) (omega arith))
    (alike-sets (vec_cells v.point (vec_cells v.orig1 (vec_cells v.orig2 []))) (n * 9) ((n + 1) * 9) l k (omega arith) hl hk a)

pub alike-made : (n : ℕ) (l k : List Float) (m : Made) → (n + 1) * 6 ≤ length l → (n + 1) * 6 ≤ length k → Alike (n * 6) l k → Alike ((n + 1) * 6) (put_made l n m) (put_made k n m)
unfolding put_made
alike-made n l k m hl hk a =
    rw (lt-ltb n (length l / 6) (omega arith), lt-ltb n (length k / 6) (omega arith))
    (alike-sets (vec_cells m.normal (vec_cells m.weights [])) (n * 6) ((n + 1) * 6) l k (omega arith) hl hk a)

-- the faces that are live are as many
live_alike : (n : ℕ) (l k : List ℕ) (m : ℕ) → n ≤ m → Alike m l k → live_to n l ≡ live_to n k
unfolding live_to
live_alike zero l k m h a = refl
live_alike (suc n) l k m h a = rw (a.same n 1 (omega arith), live_alike n l k m (omega arith) a)

pub same_live : (s t : State) → Same s t → live s ≡ live t
same_live s t h =
    live_alike s.tally.faces s.lists.deleted t.lists.deleted s.tally.faces (omega arith) h.deleted
    ∙ ap (λ (c : Tally). live_to c.faces t.lists.deleted) h.tally

-- ---- what is read of a state

pub same_point : (s t : State) (i : ℕ) → i < s.tally.vertices → Same s t → point_at s i ≡ point_at t i
same_point s t i l h = ap (λ (v : Vertex). v.point) (same-vertex s.tally.vertices s.lists.vertices t.lists.vertices i l h.vertices)

pub same-face-normal : (s t : State) (i : ℕ) → i < s.tally.faces → Same s t → normal_at s i ≡ normal_at t i
same-face-normal s t i l h = same-normal s.tally.faces s.lists.face_floats t.lists.face_floats i l h.face_floats

pub same-corner : (s t : State) (i k : ℕ) → i < s.tally.faces → k < 3 → Same s t → corner_at s i k ≡ corner_at t i k
same-corner s t i k l l3 h = h.face_ids.same (i * 6 + k) 0 (omega arith)

pub same-made : (w : Numbers) (s t : State) (a b c : ℕ) → a < s.tally.vertices → b < s.tally.vertices → c < s.tally.vertices → Same s t → made_of w s a b c ≡ made_of w t a b c
same-made w s t a b c ha hb hc h =
    let pa = same_point s t a ha h in
    let pb = same_point s t b hb h in
    let pc = same_point s t c hc h in
    cc

-- the answer from a face that was made
pub same_answer : (f : Format) (why : Found) (s t : State) (i : ℕ) → i < s.tally.faces → CornersIn s.tally.vertices s.tally.faces s.lists.face_ids → Same s t
    → answer_of f why s.lists i ≡ answer_of f why t.lists i
unfolding answer_of
same_answer f why s t i l ins h =
    let c : (k : ℕ) → k < 3 → corner_at s i k ≡ corner_at t i k = λ k lk. same-corner s t i k l lk h in
    let v : (k : ℕ) → k < 3 → vertex_at s.lists.vertices (corner_at s i k) ≡ vertex_at t.lists.vertices (corner_at s i k) = λ k lk.
    same-vertex s.tally.vertices s.lists.vertices t.lists.vertices (corner_at s i k) (ins.below i k l lk) h.vertices in
    rw (← c 0 (omega arith), ← c 1 (omega arith), ← c 2 (omega arith))
    (rw (v 0 (omega arith), v 1 (omega arith), v 2 (omega arith))
    (rw (same-weights s.tally.faces s.lists.face_floats t.lists.face_floats i l h.face_floats, same-face-normal s t i l h)))

-- the heaps
pub same-heaps : (s t : State) → Same s t → AlikeHeap s.tally.heap (heap_of s) (heap_of t)
same-heaps s t h = record { count = refl; count' = ap (λ (c : Tally). c.heap) (sym h.tally); faces = h.heap_ids; keys = h.heap_keys }

-- ---- the moves on stores that are the same

-- the second state is one with the tally of the first
under : (s t : State) (M : State → State) → Same s t → Same (M s) (M (state_of t.lists s.tally)) → Same (M s) (M t)
under s t M h g = subst (λ (c : Tally). Same (M s) (M (state_of t.lists c))) h.tally g

retallied : (s t : State) → Same s t → Same s (state_of t.lists s.tally)
retallied s t h = record { tally = refl; vertices = h.vertices; face_ids = h.face_ids; face_floats = h.face_floats; deleted = h.deleted; edges = h.edges; heap_ids = h.heap_ids; heap_keys = h.heap_keys; pending = h.pending }

same_heap : (s t : State) (p q : Heap) (c : ℕ) → AlikeHeap c p q → Same s t
    → Same (state_of (with_heap p.faces p.keys s.lists) (heap_count p.count s.tally)) (state_of (with_heap q.faces q.keys t.lists) (heap_count q.count s.tally))
same_heap s t p q c a h = record {
  tally = ap (λ (n : ℕ). heap_count n s.tally) (a.count ∙ sym a.count');
  vertices = h.vertices;
  face_ids = h.face_ids;
  face_floats = h.face_floats;
  deleted = h.deleted;
  edges = h.edges;
  heap_ids = subst (λ (n : ℕ). Alike n p.faces q.faces) (sym a.count) a.faces;
  heap_keys = subst (λ (n : ℕ). Alike n p.keys q.keys) (sym a.count) a.keys;
  pending = h.pending;
}

module _ (l l' : Lists) where
  -- two states that are the same, of runs over the lists l and l'
  pub record Twin (s t : State) : Type 0 where
    pub same : Same s t
    pub kept : SameLength l s.lists
    pub kept' : SameLength l' t.lists

  pub twin-vertex : (s t : State) (v : Vertex) → s.tally.vertices < room_for the_vertices s.lists → t.tally.vertices < room_for the_vertices t.lists → Twin s t
      → Twin (with_vertex s v) (with_vertex t v)
  twin-vertex s t v room room' h =
      let g = h.same in
      let n = s.tally.vertices in
      let e : n ≡ t.tally.vertices = ap (λ (c : Tally). c.vertices) g.tally in
      record {
        same = under s t (λ u. with_vertex u v) g (record {
          tally = refl;
          vertices = alike-vertex n s.lists.vertices t.lists.vertices v (omega (arith, room)) (omega (arith, room', e)) g.vertices;
          face_ids = g.face_ids;
          face_floats = g.face_floats;
          deleted = g.deleted;
          edges = g.edges;
          heap_ids = g.heap_ids;
          heap_keys = g.heap_keys;
          pending = g.pending;
        });
        kept = (same-moves l).on_vertex s v room h.kept;
        kept' = (same-moves l').on_vertex t v room' h.kept';
      }

  pub twin-face : (s t : State) (corners neighbours : Three) (m : Made) → s.tally.faces < room_for the_faces s.lists → t.tally.faces < room_for the_faces t.lists → Twin s t
      → Twin (with_face s corners neighbours m) (with_face t corners neighbours m)
  twin-face s t corners neighbours m room room' h =
      let g = h.same in
      let n = s.tally.faces in
      let e : n ≡ t.tally.faces = ap (λ (c : Tally). c.faces) g.tally in
      record {
        same = under s t (λ u. with_face u corners neighbours m) g (record {
          tally = refl;
          vertices = g.vertices;
          face_ids = alike-sets (face_cells corners neighbours) (n * 6) ((n + 1) * 6) s.lists.face_ids t.lists.face_ids (omega arith) (omega (arith, room)) (omega (arith, room', e)) g.face_ids;
          face_floats = alike-made n s.lists.face_floats t.lists.face_floats m (omega (arith, room)) (omega (arith, room', e)) g.face_floats;
          deleted = rw (add-one n) (alike-push n s.lists.deleted t.lists.deleted 0 (omega (arith, room)) (omega (arith, room', e)) g.deleted);
          edges = g.edges;
          heap_ids = g.heap_ids;
          heap_keys = g.heap_keys;
          pending = g.pending;
        });
        kept = (same-moves l).on_face s corners neighbours m room h.kept;
        kept' = (same-moves l').on_face t corners neighbours m room' h.kept';
      }

  pub twin-queue : (s t : State) (e : Entry) → s.tally.heap < room_for the_heap s.lists → t.tally.heap < room_for the_heap t.lists → s.tally.heap < s.tally.faces → Twin s t
      → Twin (with_entry s e) (with_entry t e)
  twin-queue s t e room room' k h =
      let g = h.same in
      let n = s.tally.heap in
      let q : n ≡ t.tally.heap = ap (λ (c : Tally). c.heap) g.tally in
      let f : s.tally.faces ≡ t.tally.faces = ap (λ (c : Tally). c.faces) g.tally in
      let u = state_of t.lists s.tally in
      record {
        same = under s t (λ u. with_entry u e) g (same_heap s u (pushed (heap_of s) e) (pushed (heap_of u) e) (suc n)
            (alike-pushed n (heap_of s) (heap_of u) e e refl (omega (arith, room)) (omega (arith, room)) (omega (arith, room', q)) (omega (arith, room', q))
            (record { count = refl; count' = refl; faces = g.heap_ids; keys = g.heap_keys })) (retallied s t g));
        kept = (same-moves l).on_queue s e room k h.kept;
        kept' = (same-moves l').on_queue t e room' (omega (arith, q, f, k)) h.kept';
      }

  pub twin-pop : (s t : State) (n : ℕ) → s.tally.heap ≡ suc n → Twin s t → Twin (with_pop s n) (with_pop t n)
  twin-pop s t n e h =
      let g = h.same in
      let q : s.tally.heap ≡ t.tally.heap = ap (λ (c : Tally). c.heap) g.tally in
      let u = state_of t.lists s.tally in
      record {
        same = under s t (λ u. with_pop u n) g (same_heap s u (popped (heap_of s) n) (popped (heap_of u) n) n
            (alike-popped n (heap_of s) (heap_of u) (subst (λ (c : ℕ). AlikeHeap c (heap_of s) (heap_of u)) e (same-heaps s u (retallied s t g)))) (retallied s t g));
        kept = (same-moves l).on_pop s n e h.kept;
        kept' = (same-moves l').on_pop t n (omega (arith, q)) h.kept';
      }

  pub twin-link : (s t : State) (i k j : ℕ) → i < s.tally.faces → k < 3 → Twin s t → Twin (with_link s i k j) (with_link t i k j)
  twin-link s t i k j hi hk h =
      let g = h.same in
      let e : s.tally.faces ≡ t.tally.faces = ap (λ (c : Tally). c.faces) g.tally in
      record {
        same = record {
          tally = g.tally;
          vertices = g.vertices;
          face_ids = alike_set (s.tally.faces * 6) s.lists.face_ids t.lists.face_ids (i * 6 + (3 + k)) j g.face_ids;
          face_floats = g.face_floats;
          deleted = g.deleted;
          edges = g.edges;
          heap_ids = g.heap_ids;
          heap_keys = g.heap_keys;
          pending = g.pending;
        };
        kept = (same-moves l).on_link s i k j hi hk h.kept;
        kept' = (same-moves l').on_link t i k j (omega (arith, e)) hk h.kept';
      }

  pub twin-delete : (s t : State) (i : ℕ) → i < s.tally.faces → Twin s t → Twin (left (delete i s)) (left (delete i t))
  unfolding delete ◌>>=◌ look put
  twin-delete s t i hi h =
      let g = h.same in
      let e : s.tally.faces ≡ t.tally.faces = ap (λ (c : Tally). c.faces) g.tally in
      record {
        same = record {
          tally = g.tally;
          vertices = g.vertices;
          face_ids = g.face_ids;
          face_floats = g.face_floats;
          deleted = alike_set s.tally.faces s.lists.deleted t.lists.deleted i 1 g.deleted;
          edges = g.edges;
          heap_ids = g.heap_ids;
          heap_keys = g.heap_keys;
          pending = g.pending;
        };
        kept = (same-moves l).on_delete s i hi h.kept;
        kept' = (same-moves l').on_delete t i (omega (arith, e)) h.kept';
      }

  pub twin-clear : (s t : State) → Twin s t → Twin (left (clear_edges s)) (left (clear_edges t))
  unfolding clear_edges ◌>>=◌ look put
  twin-clear s t h =
      let g = h.same in
      record {
        same = record {
          tally = ap (edge_count 0) g.tally;
          vertices = g.vertices;
          face_ids = g.face_ids;
          face_floats = g.face_floats;
          deleted = g.deleted;
          edges = alike-none _ _;
          heap_ids = g.heap_ids;
          heap_keys = g.heap_keys;
          pending = g.pending;
        };
        kept = (same-moves l).on_clear s h.kept;
        kept' = (same-moves l').on_clear t h.kept';
      }

  pub twin-complete : (s t : State) → Twin s t → Twin (left (complete s)) (left (complete t))
  unfolding complete ◌>>=◌ look put
  twin-complete s t h =
      let g = h.same in
      record {
        same = record {
          tally = ap (λ (c : Tally). done_count (c.done + 1) c) g.tally;
          vertices = g.vertices;
          face_ids = g.face_ids;
          face_floats = g.face_floats;
          deleted = g.deleted;
          edges = g.edges;
          heap_ids = g.heap_ids;
          heap_keys = g.heap_keys;
          pending = g.pending;
        };
        kept = (same-moves l).on_complete s h.kept;
        kept' = (same-moves l').on_complete t h.kept';
      }

  pub twin-exchange : (s t : State) → 3 ≤ s.tally.vertices → Twin s t → Twin (with_exchange s) (with_exchange t)
  unfolding exchanged
  twin-exchange s t few h =
      let g = h.same in
      let n = s.tally.vertices in
      let e : n ≡ t.tally.vertices = ap (λ (c : Tally). c.vertices) g.tally in
      let v1 = same-vertex n s.lists.vertices t.lists.vertices 1 (omega arith) g.vertices in
      let v2 = same-vertex n s.lists.vertices t.lists.vertices 2 (omega arith) g.vertices in
      record {
        same = record {
          tally = g.tally;
          vertices = same-exchange n _ _ 2 (omega arith) _ _ v1 (same-exchange n s.lists.vertices t.lists.vertices 1 (omega arith) _ _ v2 g.vertices);
          face_ids = g.face_ids;
          face_floats = g.face_floats;
          deleted = g.deleted;
          edges = g.edges;
          heap_ids = g.heap_ids;
          heap_keys = g.heap_keys;
          pending = g.pending;
        };
        kept = (same-moves l).on_exchange s few h.kept;
        kept' = (same-moves l').on_exchange t (omega (arith, e)) h.kept';
      }

  -- ---- steps

  abbrev Pair : {A : Type 0} → Out A → Out A → Type 0
  Pair (onward a s) (onward b t) = (a ≡ b) × Twin s t
  Pair (onward a s) (ended f t) = Short l' l f
  Pair (ended e s) (onward b t) = Short l l' e
  Pair (ended e s) (ended f t) = Agreed l l' e f s t

  -- both go on, with the same value and stores; or both end the same, with the same stores; or one is refused for room, and the other has more of it
  pub record Twins {A : Type 0} (o p : Out A) : Type 0 where
    pub held : Pair o p

  pub both-on : {A : Type 0} {s t : State} (a b : A) → a ≡ b → Twin s t → Twins (onward a s) (onward b t)
  both-on a b e h = record { held = (e, h) }

  pub second_short_lem : {A : Type 0} (o : Out A) (f : End) (t : State) → Short l' l f → Twins o (ended f t)
  second_short_lem (onward a s) f t h = record { held = h }
  second_short_lem (ended e s) f t h = record { held = second_short h }

  pub first_short_lem : {A : Type 0} (o : Out A) (e : End) (s : State) → Short l l' e → Twins (ended e s) o
  first_short_lem (onward a t) e s h = record { held = h }
  first_short_lem (ended f t) e s h = record { held = first_short h }

  twins-next : {A B : Type 0} (P : A → State → Type 0) (E : End → State → Type 0) (o p : Out A) (k k' : A → Act B) → Meets P E o → Twins o p
      → ((a : A) (s t : State) → P a s → Twin s t → Twins (k a s) (k' a t)) → Twins (next o k) (next p k')
  twins-next P E (onward a s) (onward b t) k k' m h n = subst (λ (x : _). Twins (k a s) (k' x t)) h.held.0 (n a s t m.held h.held.1)
  twins-next P E (onward a s) (ended f t) k k' m h n = second_short_lem (k a s) f t h.held
  twins-next P E (ended e s) (onward b t) k k' m h n = first_short_lem (k' b t) e s h.held
  twins-next P E (ended e s) (ended f t) k k' m h n = record { held = h.held }

  pub twins-bind : {A B : Type 0} {P : A → State → Type 0} {E : End → State → Type 0} (m m' : Act A) (k k' : A → Act B) (s t : State) → Meets P E (m s) → Twins (m s) (m' t)
      → ((a : A) (s1 t1 : State) → P a s1 → Twin s1 t1 → Twins (k a s1) (k' a t1)) → Twins (◌>>=◌ m k s) (◌>>=◌ m' k' t)
  unfolding ◌>>=◌
  twins-bind {P = P} {E = E} m m' k k' s t h g n = twins-next P E (m s) (m' t) k k' h g n

  pub twins-then : {A B : Type 0} {P : A → State → Type 0} {E : End → State → Type 0} (m m' : Act A) (k k' : Act B) (s t : State) → Meets P E (m s) → Twins (m s) (m' t)
      → ((a : A) (s1 t1 : State) → P a s1 → Twin s1 t1 → Twins (k s1) (k' t1)) → Twins (◌>>◌ m k s) (◌>>◌ m' k' t)
  unfolding ◌>>◌
  twins-then {P = P} {E = E} m m' k k' s t h g n = twins-next P E (m s) (m' t) (λ _. k) (λ _. k') h g n

  pub twins-look : {B : Type 0} (k k' : State → Act B) (s t : State) → Twins (k s s) (k' t t) → Twins (◌>>=◌ look k s) (◌>>=◌ look k' t)
  unfolding ◌>>=◌ look
  twins-look k k' s t h = h

  pub twins-pure : {A : Type 0} (a b : A) (s t : State) → a ≡ b → Twin s t → Twins (pure a s) (pure b t)
  unfolding pure
  twins-pure a b s t e h = both-on a b e h

  pub twins-stop : {A : Type 0} (e f : End) (s t : State) → e ≡ f → Twin s t → Twins {A = A} (stop e s) (stop f t)
  unfolding stop
  twins-stop e f s t q h = record { held = alike q h.same }

  pub twins-put : (s1 t1 s t : State) → Twin s1 t1 → Twins (put s1 s) (put t1 t)
  unfolding put
  twins-put s1 t1 s t h = both-on tt tt refl h

  pub twins-ok : (s t : State) → Twin s t → Twins (ok s) (ok t)
  unfolding ok
  twins-ok s t h = both-on tt tt refl h

  -- a refusal for room, where the count n has come to it
  pub twins-room : {B : Type 0} (y : Store) (n n' : ℕ) (k k' : Act B) (s t : State) → n ≡ n' → Twin s t → (n < room_for y s.lists → n' < room_for y t.lists → Twins (k s) (k' t))
      → Twins (◌>>◌ (stop_if (leb (room_for y s.lists) n) (no_room y)) k s) (◌>>◌ (stop_if (leb (room_for y t.lists) n') (no_room y)) k' t)
  unfolding ◌>>◌ stop_if
  twins-room y n n' k k' s t same g h = by (leb (room_for y s.lists) n) (leb (room_for y t.lists) n') refl refl
    where
      by : (b d : Bool) → leb (room_for y s.lists) n ≡ b → leb (room_for y t.lists) n' ≡ d → Twins (◌>>◌ (stop_if b (no_room y)) k s) (◌>>◌ (stop_if d (no_room y)) k' t)
      by true true p q = record { held = alike refl g.same }
      by true false p q = first_short_lem (k' t) (no_room y) s (short y (omega (arith, same-rooms l s.lists g.kept y, same-rooms l' t.lists g.kept' y, leb-true (room_for y s.lists) n p, leb-false (room_for y t.lists) n' q)))
      by false true p q = second_short_lem (k s) (no_room y) t (short y (omega (arith, same-rooms l s.lists g.kept y, same-rooms l' t.lists g.kept' y, leb-false (room_for y s.lists) n p, leb-true (room_for y t.lists) n' q)))
      by false false p q = h (leb-false (room_for y s.lists) n p) (leb-false (room_for y t.lists) n' q)

  -- an end, by both
  pub twins-check : {B : Type 0} (b d : Bool) (e : End) (k k' : Act B) (s t : State) → b ≡ d → Twin s t → (b ≡ false → Twins (k s) (k' t))
      → Twins (◌>>◌ (stop_if b e) k s) (◌>>◌ (stop_if d e) k' t)
  unfolding ◌>>◌ stop_if
  twins-check b d e k k' s t q g h = subst (λ (x : Bool). Twins (◌>>◌ (stop_if b e) k s) (◌>>◌ (stop_if x e) k' t)) q (by b h)
    where
      by : (b : Bool) → (b ≡ false → Twins (k s) (k' t)) → Twins (◌>>◌ (stop_if b e) k s) (◌>>◌ (stop_if b e) k' t)
      by true h = record { held = alike refl g.same }
      by false h = h refl

  pub twins-stop_if : (b d : Bool) (e : End) (s t : State) → b ≡ d → Twin s t → Twins (stop_if b e s) (stop_if d e t)
  unfolding stop_if
  twins-stop_if true true e s t q g = record { held = alike refl g.same }
  twins-stop_if false false e s t q g = both-on tt tt refl g
  twins-stop_if true false e s t q g = let z : ◌≡◌ {A = ℕ} 0 1 = cc in let y : ⊥ = omega arith in absurd y
  twins-stop_if false true e s t q g = let z : ◌≡◌ {A = ℕ} 0 1 = cc in let y : ⊥ = omega arith in absurd y

  pub twins-do_if : (b d : Bool) (m m' : Act Nil) (s t : State) → b ≡ d → (b ≡ true → Twins (m s) (m' t)) → Twin s t → Twins (do_if b m s) (do_if d m' t)
  unfolding do_if
  twins-do_if true true m m' s t q h g = record { held = (h refl).held }
  twins-do_if false false m m' s t q h g = both-on tt tt refl g
  twins-do_if true false m m' s t q h g = let z : ◌≡◌ {A = ℕ} 0 1 = cc in let y : ⊥ = omega arith in absurd y
  twins-do_if false true m m' s t q h g = let z : ◌≡◌ {A = ℕ} 0 1 = cc in let y : ⊥ = omega arith in absurd y

  pub twins-branch : {A : Type 0} (b d : Bool) (m m' n n' : Act A) (s t : State) → b ≡ d → (b ≡ true → Twins (m s) (m' t)) → (b ≡ false → Twins (n s) (n' t)) → Twins (branch b m n s) (branch d m' n' t)
  unfolding branch
  twins-branch true true m m' n n' s t q h g = record { held = (h refl).held }
  twins-branch false false m m' n n' s t q h g = record { held = (g refl).held }
  twins-branch true false m m' n n' s t q h g = let z : ◌≡◌ {A = ℕ} 0 1 = cc in let y : ⊥ = omega arith in absurd y
  twins-branch false true m m' n n' s t q h g = let z : ◌≡◌ {A = ℕ} 0 1 = cc in let y : ⊥ = omega arith in absurd y

  -- ---- the pushes, and an answer

  pub twins-vertex : (v v' : Vertex) (s t : State) → v ≡ v' → Twin s t → Twins (push_vertex v s) (push_vertex v' t)
  unfolding push_vertex
  twins-vertex v v' s t e h =
      subst (λ (x : Vertex). Twins (push_vertex v s) (push_vertex x t)) e
      (twins-look _ _ s t (twins-room the_vertices s.tally.vertices t.tally.vertices _ _ s t (ap (λ (c : Tally). c.vertices) h.same.tally) h (λ p q. twins-put _ _ s t (twin-vertex s t v p q h))))

  pub twins-face : (corners neighbours : Three) (m m' : Made) (s t : State) → m ≡ m' → Twin s t → Twins (push_face corners neighbours m s) (push_face corners neighbours m' t)
  unfolding push_face
  twins-face corners neighbours m m' s t e h =
      subst (λ (n : Made). Twins (push_face corners neighbours m s) (push_face corners neighbours n t)) e
      (twins-look _ _ s t (twins-room the_faces s.tally.faces t.tally.faces _ _ s t (ap (λ (c : Tally). c.faces) h.same.tally) h (λ p q. twins-put _ _ s t (twin-face s t corners neighbours m p q h))))

  pub twins-enqueue : (i : ℕ) (key : Float) (s t : State) → s.tally.heap < s.tally.faces → Twin s t → Twins (enqueue i key s) (enqueue i key t)
  unfolding enqueue
  twins-enqueue i key s t k h =
      twins-look _ _ s t (twins-room the_heap s.tally.heap t.tally.heap _ _ s t (ap (λ (c : Tally). c.heap) h.same.tally) h (λ p q. twins-put _ _ s t (twin-queue s t _ p q k h)))

  pub twins-queue : (why : Lost) (tol : Float) (i : ℕ) (key key' : Float) (s t : State) → key ≡ key' → s.tally.heap < s.tally.faces → Twin s t
      → Twins (queue_face why tol i key s) (queue_face why tol i key' t)
  unfolding queue_face
  twins-queue why tol i key key' s t e k h =
      subst (λ (x : Float). Twins (queue_face why tol i key s) (queue_face why tol i x t)) e
      (twins-check _ _ (nothing why) _ _ s t refl h (λ _. twins-enqueue i key s t k h))

  pub twins-answer : {A : Type 0} (w : Numbers) (why : Found) (i : ℕ) (s t : State) → i < s.tally.faces → CornersIn s.tally.vertices s.tally.faces s.lists.face_ids → Twin s t
      → Twins {A = A} (answer w why i s) (answer w why i t)
  unfolding answer
  twins-answer w why i s t hi ins h = twins-look _ _ s t (twins-stop _ _ s t (same_answer w.format why s t i hi ins h.same) h)
