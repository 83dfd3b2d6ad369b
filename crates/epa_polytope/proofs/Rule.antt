-- The store rule, and that the counts stay within the rooms: each is a fact that every move of a run keeps (`Keeps` of Moves.antt), and so one of the state that
-- any run leaves (`run-keeps` of Start.antt). A push writes at the count; a link, a deletion and a pass write at faces that were made, as `Sound` says; a pop and the
-- end of an expansion give places back, and clear them. Between two expansions, besides, no index is out of range. Assumes nothing.
use mathlib.Core.Path.{◌≡◌, subst, ◌∙◌, ap}
use mathlib.Core.List.{List, []}
use Prim.Native.Nat.{ℕ, suc, ◌+◌, ◌*◌, ◌/◌, ◌<◌, ◌≤◌, max}
use native.Mathlib.Omega.{arith}
use lib.ListN.{length, set}
use lib.Dec.{ltb}
use lib.Ieee.{Float}
use Rattle.shape.specs.declared.vertex.Vertex.{Vertex}
use Rattle.heap.specs.declared.Entry.{Entry}
use Rattle.heap.specs.Heap.{Heap, no_entry, pushed, popped}
use Rattle.epa_polytope.specs.Stores.{the_vertices, the_faces, the_edges, the_heap, the_pending, Three, put_made, Lists, put_vertex, state_of, Tally, vec_cells, State, vertex_at, Made, put_face, none_yet, room_for, face_cells, Store, face_count, with_heap, vertex_count, heap_count, with_vertices, heap_of, done_count, edge_count, pending_count, most_count, missed_count}
use Rattle.epa_polytope.proofs.Places.{stays, after, one_set, some-sets, if-so, reads-set, none-used, used, given_back, blanked}
use Rattle.epa_polytope.proofs.Heaps.{inside-pushed, inside-popped}
use Rattle.epa_polytope.specs.Start.{Walk, World, exchanged, VoronoiSimplex}
use Rattle.epa_polytope.specs.Rule.{Untouched, Returned, Ruled, InRoom, count_for}
use Rattle.epa_polytope.specs.Steps.{Numbers, End, ◌>>=◌, look, put, ended, onward}
use Rattle.epa_polytope.proofs.Moves.{Keeps, with_link, with_pass, with_face, left, pass_from}
use Rattle.epa_polytope.specs.Run.{complete, run}
use Rattle.epa_polytope.specs.Expansion.{delete, clear_edges}
use Rattle.epa_polytope.specs.Silhouette.{recorded_of}
use Rattle.epa_polytope.specs.Bounds.{NeighboursIn, Sound}
use Rattle.epa_polytope.proofs.Lengths.{same-moves, SameLength, same-rooms, long-itself}
use Rattle.epa_polytope.specs.Demand3.{Carried, run_to}
use Rattle.epa_polytope.proofs.Walks.{edge_room}
use Rattle.epa_polytope.proofs.EitherWalk.{steady-from, steady-here}
use Rattle.epa_polytope.proofs.Start.{run-keeps, meets-run_to, empty-lent}

-- ---- what a record of nine or six numbers is written over

put-vertex : (l : List Float) (i : ℕ) (v : Vertex) (n : ℕ) → i < n → Untouched (n * 9) (put_vertex l i v) l
unfolding put_vertex
put-vertex l i v n h = if-so (ltb i (length l / 9)) _ l (n * 9) (some-sets l (i * 9) (vec_cells v.point (vec_cells v.orig1 (vec_cells v.orig2 []))) (n * 9) (omega arith))

put-made : (l : List Float) (i : ℕ) (m : Made) (n : ℕ) → i < n → Untouched (n * 6) (put_made l i m) l
unfolding put_made
put-made l i m n h = if-so (ltb i (length l / 6)) _ l (n * 6) (some-sets l (i * 6) (vec_cells m.normal (vec_cells m.weights [])) (n * 6) (omega arith))

put-ids : (l : List ℕ) (i : ℕ) (corners neighbours : Three) (n : ℕ) → i < n → Untouched (n * 6) (put_face l i corners neighbours) l
put-ids l i corners neighbours n h = some-sets l (i * 6) (face_cells corners neighbours) (n * 6) (omega arith)

exchange-two : (l : List Float) (n : ℕ) → 3 ≤ n → Untouched (n * 9) (exchanged l) l
unfolding exchanged
exchange-two l n h = after (omega arith) (put-vertex (put_vertex l 1 (vertex_at l 2)) 2 (vertex_at l 1) n (omega arith)) (put-vertex l 1 (vertex_at l 2) n (omega arith))

-- ---- the heap, where entries once ended at the place `top`, and made faces are m

record HeapRuled (m : ℕ) (ids0 : List ℕ) (keys0 : List Float) (h : Heap) : Type 0 where
  top : ℕ
  counted : h.count ≤ top
  few : top ≤ m
  faces : Returned no_entry.face h.count top h.faces ids0
  keys : Returned no_entry.key h.count top h.keys keys0

module _ (m : ℕ) (ids0 : List ℕ) (keys0 : List Float) (h : Heap) where
  one_entry : (e : Entry) → h.count < m → HeapRuled m ids0 keys0 h → HeapRuled m ids0 keys0 (pushed h e)
  one_entry e l r =
      let n = h.count + 1 in
      let p = inside-pushed h e in
      let fs : Returned no_entry.face n (max r.top n) (pushed h e).faces ids0 = used r.faces _ n (omega arith) p.of_faces in
      let ks : Returned no_entry.key n (max r.top n) (pushed h e).keys keys0 = used r.keys _ n (omega arith) p.of_keys in
      record { top = max r.top n; counted = omega (arith, p.counts); few = omega (arith, r.few); faces = rw p.counts fs; keys = rw p.counts ks }

  -- the last of n + 1 places is given back
  last-back : {A : Type 0} (z : A) (n m : ℕ) (k l l0 : List A) → suc n ≤ m → Untouched n k (set l n z) → Returned z (suc n) m l l0 → Returned z n m k l0
  last-back z n m k l l0 g u h =
      given_back h k n g (after (omega arith) (record { same = λ i d a. u.same i d (omega arith) }) (one_set l n z (suc n) (omega arith)))
      (record { zeros = λ i a b. let e : i ≡ n = omega arith in rw e (u.same n z (omega arith) ∙ reads-set l n z) })

  entry-out : (n : ℕ) → h.count ≡ suc n → HeapRuled m ids0 keys0 h → HeapRuled m ids0 keys0 (popped h n)
  entry-out n e r =
      let p = inside-popped h n in
      let g : suc n ≤ r.top = omega (arith, r.counted) in
      let fs = last-back no_entry.face n r.top (popped h n).faces h.faces ids0 g p.of_faces (rw e at r.faces) in
      let ks = last-back no_entry.key n r.top (popped h n).keys h.keys keys0 g p.of_keys (rw e at r.keys) in
      record { top = r.top; counted = omega (arith, p.counts); few = r.few; faces = rw p.counts fs; keys = rw p.counts ks }

-- ---- every move keeps the rule

module _ (l : Lists) where
  -- the heap's part of the rule, and the rule with another heap
  heap-ruled : (s : State) → Ruled l s → HeapRuled s.tally.faces l.heap_ids l.heap_keys (heap_of s)
  heap-ruled s h = record { top = h.top; counted = h.heap_counted; few = h.heap_few; faces = h.heap_ids; keys = h.heap_keys }

  with-heap : (s : State) (q : Heap) → Ruled l s → HeapRuled s.tally.faces l.heap_ids l.heap_keys q → Ruled l (state_of (with_heap q.faces q.keys s.lists) (heap_count q.count s.tally))
  with-heap s q h r = record {
    vertices = h.vertices;
    face_ids = h.face_ids;
    face_floats = h.face_floats;
    deleted = h.deleted;
    edges_counted = h.edges_counted;
    edges = h.edges;
    top = r.top;
    heap_counted = r.counted;
    heap_few = r.few;
    heap_ids = r.faces;
    heap_keys = r.keys;
    most_held = h.most_held;
    pending_counted = h.pending_counted;
    pending_few = h.pending_few;
    pending = h.pending;
  }

  rule-vertices : (s : State) (v : List Float) (n : ℕ) → s.tally.vertices ≤ n → Untouched (n * 9) v s.lists.vertices → Ruled l s → Ruled l (state_of (with_vertices v s.lists) (vertex_count n s.tally))
  rule-vertices s v n g u h = record {
    vertices = after (omega arith) u h.vertices;
    face_ids = h.face_ids;
    face_floats = h.face_floats;
    deleted = h.deleted;
    edges_counted = h.edges_counted;
    edges = h.edges;
    top = h.top;
    heap_counted = h.heap_counted;
    heap_few = h.heap_few;
    heap_ids = h.heap_ids;
    heap_keys = h.heap_keys;
    most_held = h.most_held;
    pending_counted = h.pending_counted;
    pending_few = h.pending_few;
    pending = h.pending;
  }

  rule-face : (s : State) (corners neighbours : Three) (m : Made) → Ruled l s → Ruled l (with_face s corners neighbours m)
  rule-face s corners neighbours m h =
      let n = s.tally.faces in
      record {
        vertices = h.vertices;
        face_ids = after (omega arith) (put-ids _ _ corners neighbours (n + 1) (omega arith)) h.face_ids;
        face_floats = after (omega arith) (put-made _ _ m (n + 1) (omega arith)) h.face_floats;
        deleted = after (omega arith) (one_set _ _ 0 (n + 1) (omega arith)) h.deleted;
        edges_counted = h.edges_counted;
        edges = h.edges;
        top = h.top;
        heap_counted = h.heap_counted;
        heap_few = omega (arith, h.heap_few);
        heap_ids = h.heap_ids;
        heap_keys = h.heap_keys;
        most_held = h.most_held;
        pending_counted = h.pending_counted;
        pending_few = h.pending_few;
        pending = h.pending;
      }

  -- with lists as long as those lent
  rule-pass : (y : Walk) (w : Numbers) (s : State) (p i : ℕ) → NeighboursIn s.tally.faces s.tally.faces s.lists.face_ids → i < s.tally.faces
      → (s.tally.edges ≡ 0) × (s.tally.pending ≡ 0) → SameLength l s.lists → Ruled l s → Ruled l (with_pass y w s p i)
  rule-pass y w s p i a b z long h =
      let none = subst (λ (n : ℕ). Returned 0 (n * 2) (h.most_held * 2) s.lists.pending l.pending) z.1 h.pending in
      let st = steady-from y w s p i a b l.pending h.most_held long.of_pending h.pending_few none in
      let t = (pass_from y w s p i).walk in
      let r = st.reached in
      let room : edge_room t ≡ room_for the_edges s.lists = ap (λ (n : ℕ). n / 2) r.same_room in
      record {
        vertices = h.vertices;
        face_ids = h.face_ids;
        face_floats = h.face_floats;
        deleted = after (omega arith) r.of_deleted h.deleted;
        edges_counted = omega arith;
        edges = subst (λ (n : ℕ). Returned 0 (n * 2) (max s.tally.most n * 2) t.edges l.edges) (ap (λ (n : ℕ). recorded_of n t.answer) room)
            (doubled s.tally.edges s.tally.most (recorded_of (edge_room t) t.answer) _ _ _ (omega (arith, z.0)) h.edges r.of_edges);
        top = h.top;
        heap_counted = h.heap_counted;
        heap_few = h.heap_few;
        heap_ids = h.heap_ids;
        heap_keys = h.heap_keys;
        most_held = st.top;
        pending_counted = st.held_below;
        pending_few = st.top_fits;
        pending = st.given;
      }
    where
      doubled : (n m c : ℕ) (k e e0 : List ℕ) → n ≤ c → Returned 0 (n * 2) (m * 2) e e0 → Untouched (c * 2) k e → Returned 0 (c * 2) (max m c * 2) k e0
      doubled n m c k e e0 g h u = let q : max (m * 2) (c * 2) ≡ max m c * 2 = omega arith in rw (← q) (used h k (c * 2) (omega arith) u)

  rule-delete : (s : State) (i : ℕ) → i < s.tally.faces → Ruled l s → Ruled l (left (delete i s))
  unfolding delete ◌>>=◌ look put
  rule-delete s i b h = record {
    vertices = h.vertices;
    face_ids = h.face_ids;
    face_floats = h.face_floats;
    deleted = after (omega arith) (one_set s.lists.deleted i 1 s.tally.faces b) h.deleted;
    edges_counted = h.edges_counted;
    edges = h.edges;
    top = h.top;
    heap_counted = h.heap_counted;
    heap_few = h.heap_few;
    heap_ids = h.heap_ids;
    heap_keys = h.heap_keys;
    most_held = h.most_held;
    pending_counted = h.pending_counted;
    pending_few = h.pending_few;
    pending = h.pending;
  }

  rule-link : (s : State) (i k j : ℕ) → i < s.tally.faces → k < 3 → Ruled l s → Ruled l (with_link s i k j)
  rule-link s i k j b c h = record {
    vertices = h.vertices;
    face_ids = after (omega arith) (one_set s.lists.face_ids (i * 6 + (3 + k)) j (s.tally.faces * 6) (omega arith)) h.face_ids;
    face_floats = h.face_floats;
    deleted = h.deleted;
    edges_counted = h.edges_counted;
    edges = h.edges;
    top = h.top;
    heap_counted = h.heap_counted;
    heap_few = h.heap_few;
    heap_ids = h.heap_ids;
    heap_keys = h.heap_keys;
    most_held = h.most_held;
    pending_counted = h.pending_counted;
    pending_few = h.pending_few;
    pending = h.pending;
  }

  rule-clear : (s : State) → Ruled l s → Ruled l (left (clear_edges s))
  unfolding clear_edges ◌>>=◌ look put
  rule-clear s h = record {
    vertices = h.vertices;
    face_ids = h.face_ids;
    face_floats = h.face_floats;
    deleted = h.deleted;
    edges_counted = omega arith;
    edges = blanked s.tally.edges (omega arith) (omega (arith, h.edges_counted)) h.edges;
    top = h.top;
    heap_counted = h.heap_counted;
    heap_few = h.heap_few;
    heap_ids = h.heap_ids;
    heap_keys = h.heap_keys;
    most_held = h.most_held;
    pending_counted = h.pending_counted;
    pending_few = h.pending_few;
    pending = h.pending;
  }

  rule-complete : (s : State) → Ruled l s → Ruled l (left (complete s))
  unfolding complete ◌>>=◌ look put
  rule-complete s h = record {
    vertices = h.vertices;
    face_ids = h.face_ids;
    face_floats = h.face_floats;
    deleted = h.deleted;
    edges_counted = h.edges_counted;
    edges = h.edges;
    top = h.top;
    heap_counted = h.heap_counted;
    heap_few = h.heap_few;
    heap_ids = h.heap_ids;
    heap_keys = h.heap_keys;
    most_held = h.most_held;
    pending_counted = h.pending_counted;
    pending_few = h.pending_few;
    pending = h.pending;
  }

  abbrev LongRuled : State → Type 0
  LongRuled s = SameLength l s.lists × Ruled l s

  rule-moves : Keeps LongRuled
  rule-moves =
      let long = same-moves l in
      record {
        on_vertex = λ s v b h. (
          long.on_vertex s v b h.0,
          rule-vertices s _ (s.tally.vertices + 1) (omega arith) (put-vertex s.lists.vertices s.tally.vertices v (s.tally.vertices + 1) (omega arith)) h.1,
        );
        on_exchange = λ s b h. (long.on_exchange s b h.0, rule-vertices s _ s.tally.vertices (omega arith) (exchange-two s.lists.vertices s.tally.vertices b) h.1);
        on_face = λ s corners neighbours m b h. (long.on_face s corners neighbours m b h.0, rule-face s corners neighbours m h.1);
        on_queue = λ s e r b h. (long.on_queue s e r b h.0, with-heap s _ h.1 (one_entry s.tally.faces l.heap_ids l.heap_keys (heap_of s) e b (heap-ruled s h.1)));
        on_pop = λ s n e h. (long.on_pop s n e h.0, with-heap s _ h.1 (entry-out s.tally.faces l.heap_ids l.heap_keys (heap_of s) n e (heap-ruled s h.1)));
        on_delete = λ s i b h. (long.on_delete s i b h.0, rule-delete s i b h.1);
        on_pass = λ y w s p i a b z h. (long.on_pass y w s p i a b z h.0, rule-pass y w s p i a b z h.0 h.1);
        on_link = λ s i k j b c h. (long.on_link s i k j b c h.0, rule-link s i k j b c h.1);
        on_clear = λ s h. (long.on_clear s h.0, rule-clear s h.1);
        on_complete = λ s h. (long.on_complete s h.0, rule-complete s h.1);
      }

-- THE STORE RULE, however a run ends
pub store_rule : (w : World) (x : VoronoiSimplex) (l : Lists) (e : End) (t : State) → run w x l ≡ ended e t → Ruled l t
store_rule w x l e t q =
    (run-keeps (LongRuled l) w x l (rule-moves l) (
      long-itself l,
      record {
        vertices = stays 0 l.vertices;
        face_ids = stays 0 l.face_ids;
        face_floats = stays 0 l.face_floats;
        deleted = stays 0 l.deleted;
        edges_counted = omega arith;
        edges = none-used 0 l.edges;
        top = 0;
        heap_counted = omega arith;
        heap_few = omega arith;
        heap_ids = none-used no_entry.face l.heap_ids;
        heap_keys = none-used no_entry.key l.heap_keys;
        most_held = 0;
        pending_counted = omega arith;
        pending_few = omega arith;
        pending = none-used 0 l.pending;
      },
    )
    e
    t
    q
    ).1

-- ---- every move keeps the counts within the rooms

module _ (l : Lists) where
  -- with lists as long as l
  abbrev Roomy : State → Type 0
  Roomy s = SameLength l s.lists × InRoom l s.tally

  -- one more in a store that has room for it
  counted : (c d : Tally) → ((y : Store) → count_for y d ≤ room_for y l) → d.most ≤ room_for the_edges l → InRoom l d
  counted c d h m = record { counts = h; most = m }

  room-vertex : (c : Tally) → c.vertices < room_for the_vertices l → InRoom l c → InRoom l (vertex_count (c.vertices + 1) c)
  room-vertex c b h = record { counts = by; most = h.most }
    where
      by : (y : Store) → count_for y (vertex_count (c.vertices + 1) c) ≤ room_for y l
      by the_vertices = omega arith
      by the_faces = h.counts the_faces
      by the_edges = h.counts the_edges
      by the_heap = h.counts the_heap
      by the_pending = h.counts the_pending

  room-face : (c : Tally) → c.faces < room_for the_faces l → InRoom l c → InRoom l (face_count (c.faces + 1) c)
  room-face c b h = record { counts = by; most = h.most }
    where
      by : (y : Store) → count_for y (face_count (c.faces + 1) c) ≤ room_for y l
      by the_vertices = h.counts the_vertices
      by the_faces = omega arith
      by the_edges = h.counts the_edges
      by the_heap = h.counts the_heap
      by the_pending = h.counts the_pending

  room-heap : (c : Tally) (n : ℕ) → n ≤ room_for the_heap l → InRoom l c → InRoom l (heap_count n c)
  room-heap c n b h = record { counts = by; most = h.most }
    where
      by : (y : Store) → count_for y (heap_count n c) ≤ room_for y l
      by the_vertices = h.counts the_vertices
      by the_faces = h.counts the_faces
      by the_edges = h.counts the_edges
      by the_heap = b
      by the_pending = h.counts the_pending

  room-edges : (c : Tally) (n j m x : ℕ) → n ≤ room_for the_edges l → j ≤ room_for the_pending l → m ≤ room_for the_edges l → InRoom l c → InRoom l (edge_count n (pending_count j (most_count m (missed_count x c))))
  room-edges c n j m x b g d h = record { counts = by; most = d }
    where
      by : (y : Store) → count_for y (edge_count n (pending_count j (most_count m (missed_count x c)))) ≤ room_for y l
      by the_vertices = h.counts the_vertices
      by the_faces = h.counts the_faces
      by the_edges = b
      by the_heap = h.counts the_heap
      by the_pending = g

  room-done : (c : Tally) (n : ℕ) → InRoom l c → InRoom l (done_count n c)
  room-done c n h = record { counts = by; most = h.most }
    where
      by : (y : Store) → count_for y (done_count n c) ≤ room_for y l
      by the_vertices = h.counts the_vertices
      by the_faces = h.counts the_faces
      by the_edges = h.counts the_edges
      by the_heap = h.counts the_heap
      by the_pending = h.counts the_pending

  room-pass : (y : Walk) (w : Numbers) (s : State) (p i : ℕ) → NeighboursIn s.tally.faces s.tally.faces s.lists.face_ids → i < s.tally.faces → Roomy s → InRoom l (with_pass y w s p i).tally
  room-pass y w s p i a b h =
      let st = steady-here y w s p i a b in
      let t = (pass_from y w s p i).walk in
      let room : edge_room t ≡ room_for the_edges s.lists = ap (λ (n : ℕ). n / 2) st.reached.same_room in
      let fits : recorded_of (room_for the_edges s.lists) t.answer ≤ room_for the_edges s.lists = rw room at st.reached.fits in
      let same = same-rooms l s.lists h.0 the_edges in
      room-edges s.tally _ _ _ _ (omega arith) (omega (arith, st.fits, same-rooms l s.lists h.0 the_pending)) (omega (arith, h.1.most)) h.1

  room-clear : (s : State) → Roomy s → InRoom l (left (clear_edges s)).tally
  unfolding clear_edges ◌>>=◌ look put
  room-clear s h = room-edges s.tally 0 s.tally.pending s.tally.most s.tally.missed (omega arith) (h.1.counts the_pending) h.1.most h.1

  room-delete : (s : State) (i : ℕ) → Roomy s → InRoom l (left (delete i s)).tally
  unfolding delete ◌>>=◌ look put
  room-delete s i h = h.1

  room-complete : (s : State) → Roomy s → InRoom l (left (complete s)).tally
  unfolding complete ◌>>=◌ look put
  room-complete s h = room-done s.tally _ h.1

  room-moves : Keeps Roomy
  room-moves = record {
    on_vertex = λ s v b h. ((same-moves l).on_vertex s v b h.0, room-vertex s.tally (rw (← same-rooms l s.lists h.0 the_vertices) b) h.1);
    on_exchange = λ s b h. ((same-moves l).on_exchange s b h.0, h.1);
    on_face = λ s corners neighbours m b h. ((same-moves l).on_face s corners neighbours m b h.0, room-face s.tally (rw (← same-rooms l s.lists h.0 the_faces) b) h.1);
    on_queue = λ s e b d h. ((same-moves l).on_queue s e b d h.0, room-heap s.tally _ (omega (arith, b, same-rooms l s.lists h.0 the_heap, (inside-pushed (heap_of s) e).counts)) h.1);
    on_pop = λ s n e h. ((same-moves l).on_pop s n e h.0, room-heap s.tally _ (omega (arith, h.1.counts the_heap, (inside-popped (heap_of s) n).counts)) h.1);
    on_delete = λ s i b h. ((same-moves l).on_delete s i b h.0, room-delete s i h);
    on_pass = λ y w s p i a b z h. ((same-moves l).on_pass y w s p i a b z h.0, room-pass y w s p i a b h);
    on_link = λ s i k j b c h. ((same-moves l).on_link s i k j b c h.0, h.1);
    on_clear = λ s h. ((same-moves l).on_clear s h.0, room-clear s h);
    on_complete = λ s h. ((same-moves l).on_complete s h.0, room-complete s h);
  }

  room-lent : Roomy (state_of l none_yet)
  room-lent = (long-itself l, record { counts = by; most = omega arith })
    where
      by : (y : Store) → count_for y none_yet ≤ room_for y l
      by the_vertices = omega arith
      by the_faces = omega arith
      by the_edges = omega arith
      by the_heap = omega arith
      by the_pending = omega arith

-- THE COUNTS ARE WITHIN THE ROOMS, however a run ends
pub in-room : (w : World) (x : VoronoiSimplex) (l : Lists) (e : End) (t : State) → run w x l ≡ ended e t → InRoom l t.tally
in-room w x l e t q = (run-keeps (λ s. SameLength l s.lists × InRoom l s.tally) w x l (room-moves l) (room-lent l) e t q).1

-- NO INDEX IS OUT OF RANGE between two expansions: each corner is a vertex, each neighbour, each entry of the heap and the best face is a face, and all have room
pub in-range : (w : World) (x : VoronoiSimplex) (l : Lists) (k : ℕ) → k ≤ 101 → (g : Carried) (t : State) → run_to w x k (state_of l none_yet) ≡ onward g t
    → Sound t × InRoom l t.tally × (g.best.face < t.tally.faces)
in-range w x l k b g t q =
    let h = (rw q at (meets-run_to (λ s. SameLength l s.lists × InRoom l s.tally) (room-moves l) w x (state_of l none_yet) (empty-lent l) (room-lent l) k b)).held in
    (h.ready.sound, h.ready.kept.1, h.best_in)
