-- Each list keeps its length, at every move of a run, and so whatever way it ends; and so does the room of each store. Assumes nothing.
use mathlib.Core.Path.{◌≡◌, refl, ap, subst, ◌∙◌}
use mathlib.Core.Bool.{Bool, true, false, cond}
use mathlib.Core.List.{List, []}
use Prim.Native.Nat.{ℕ, zero, suc, ◌+◌, ◌*◌, ◌/◌, ◌<◌, ◌≤◌}
use native.Mathlib.Omega.{arith}
use lib.ListN.{length, length-set, set}
use lib.Seq.{length-sets}
use lib.Dec.{ltb, eqb}
use lib.Ieee.{Float}
use Rattle.shape.specs.declared.vertex.Vertex.{Vertex}
use Rattle.heap.specs.declared.Entry.{Entry}
use Rattle.heap.specs.Heap.{Heap, heap, entry_at, put as put_entry, swap, less, rise_in, rise, placed, greater, sink_in, sink, pushed, cleared, settled, popped}
use Rattle.epa_polytope.proofs.Moves.{Keeps, with_link, with_pass, with_face, left}
use Rattle.epa_polytope.specs.Start.{Walk, World, VoronoiSimplex, exchanged}
use Rattle.epa_polytope.specs.Expansion.{blank, clear_edges, delete}
use Rattle.epa_polytope.specs.Stores.{Lists, put_made, put_vertex, vec_cells, Made, Store, State, heap_of, vertex_at, room_for, Three, with_vertices, face_cells, with_heap}
use Rattle.epa_polytope.specs.Run.{complete, run}
use Rattle.epa_polytope.specs.Steps.{Numbers, End, ◌>>=◌, look, ended, put, no_room, Out, Over}
use Rattle.epa_polytope.specs.Bounds.{NeighboursIn, suffices, Starting, faces_at_start, Ended, Ends}
use Rattle.epa_polytope.proofs.Start.{run-keeps, start-most, demand-3}
use Rattle.epa_polytope.specs.Stores.{the_vertices, the_faces, the_edges, the_heap, the_pending}
use Rattle.epa_polytope.specs.Bounds.{without, with_all}
use Rattle.epa_polytope.proofs.EitherWalk.{steady-here}
use Rattle.epa_polytope.proofs.Sizes.{bound-most}

-- eight lists as long as eight others
pub record SameLength (l k : Lists) : Type 0 where
  pub of_vertices : length k.vertices ≡ length l.vertices
  pub of_face_ids : length k.face_ids ≡ length l.face_ids
  pub of_face_floats : length k.face_floats ≡ length l.face_floats
  pub of_deleted : length k.deleted ≡ length l.deleted
  pub of_edges : length k.edges ≡ length l.edges
  pub of_heap_ids : length k.heap_ids ≡ length l.heap_ids
  pub of_heap_keys : length k.heap_keys ≡ length l.heap_keys
  pub of_pending : length k.pending ≡ length l.pending

-- have the same room
pub same-rooms : (l k : Lists) → SameLength l k → (y : Store) → room_for y k ≡ room_for y l
same-rooms l k h the_vertices = ap (λ (n : ℕ). n / 9) h.of_vertices
same-rooms l k h the_faces = rw (h.of_face_ids, h.of_face_floats, h.of_deleted)
same-rooms l k h the_edges = ap (λ (n : ℕ). n / 2) h.of_edges
same-rooms l k h the_heap = rw (h.of_heap_ids, h.of_heap_keys)
same-rooms l k h the_pending = ap (λ (n : ℕ). n / 2) h.of_pending

-- ---- lists

length-cond : {A : Type 0} (b : Bool) (k l : List A) → length k ≡ length l → length (cond b k l) ≡ length l
length-cond true k l e = e
length-cond false k l e = refl

length-vertex : (l : List Float) (i : ℕ) (v : Vertex) → length (put_vertex l i v) ≡ length l
unfolding put_vertex
length-vertex l i v = length-cond (ltb i (length l / 9)) _ l (length-sets l (i * 9) (vec_cells v.point (vec_cells v.orig1 (vec_cells v.orig2 []))))

length-made : (l : List Float) (i : ℕ) (m : Made) → length (put_made l i m) ≡ length l
unfolding put_made
length-made l i m = length-cond (ltb i (length l / 6)) _ l (length-sets l (i * 6) (vec_cells m.normal (vec_cells m.weights [])))

length-blank : (n : ℕ) (l : List ℕ) → length (blank n l) ≡ length l
unfolding blank
length-blank zero l = refl
length-blank (suc n) l = length-set (set (blank n l) (n * 2) 0) (n * 2 + 1) 0 ∙ length-set (blank n l) (n * 2) 0 ∙ length-blank n l

-- ---- the heap

record SameHeap (h k : Heap) : Type 0 where
  of_faces : length k.faces ≡ length h.faces
  of_keys : length k.keys ≡ length h.keys

same-trans : {h k l : Heap} → SameHeap h k → SameHeap k l → SameHeap h l
same-trans p q = record { of_faces = q.of_faces ∙ p.of_faces; of_keys = q.of_keys ∙ p.of_keys }

same-put : (h : Heap) (n i : ℕ) (e : Entry) → SameHeap h (put_entry (heap h.faces h.keys n) i e)
same-put h n i e = record { of_faces = length-set h.faces i e.face; of_keys = length-set h.keys i e.key }

same-swap : (h : Heap) (i j : ℕ) → SameHeap h (swap h i j)
unfolding swap
same-swap h i j = same-trans (same-put h h.count i (entry_at h j)) (same-put (put_entry h i (entry_at h j)) h.count j (entry_at h i))

same-rise-in : (n : ℕ) (h : Heap) (i : ℕ) → SameHeap h (rise_in n h i)
unfolding rise_in
same-rise-in zero h i = record { of_faces = refl; of_keys = refl }
same-rise-in (suc n) h zero = record { of_faces = refl; of_keys = refl }
same-rise-in (suc n) h (suc i) = by (less h (i / 2) (suc i)) (same-trans (same-swap h (suc i) (i / 2)) (same-rise-in n (swap h (suc i) (i / 2)) (i / 2)))
  where
    by : (b : Bool) → SameHeap h (rise_in n (swap h (suc i) (i / 2)) (i / 2)) → SameHeap h (cond b (rise_in n (swap h (suc i) (i / 2)) (i / 2)) h)
    by true x = x
    by false x = record { of_faces = refl; of_keys = refl }

same-rise : (h : Heap) (i : ℕ) → SameHeap h (rise h i)
unfolding rise
same-rise h i = same-rise-in (suc i) h i

same-sink-in : (n : ℕ) (h : Heap) (i : ℕ) → SameHeap h (sink_in n h i).heap
unfolding sink_in
same-sink-in zero h i = record { of_faces = refl; of_keys = refl }
same-sink-in (suc n) h i =
    by (ltb (i * 2 + 1 + 1) h.count) (ltb (i * 2 + 1) h.count)
    (same-trans (same-swap h i (greater h.keys (i * 2 + 1))) (same-sink-in n (swap h i (greater h.keys (i * 2 + 1))) (greater h.keys (i * 2 + 1))))
  where
    by : (a b : Bool) → SameHeap h (sink_in n (swap h i (greater h.keys (i * 2 + 1))) (greater h.keys (i * 2 + 1))).heap
        → SameHeap h (cond a (sink_in n (swap h i (greater h.keys (i * 2 + 1))) (greater h.keys (i * 2 + 1))) (cond b (placed (swap h i (i * 2 + 1)) (i * 2 + 1)) (placed h i))).heap
    by true b x = x
    by false true x = same-swap h i (i * 2 + 1)
    by false false x = record { of_faces = refl; of_keys = refl }

same-settled : (h : Heap) → SameHeap h (settled h)
unfolding settled sink
same-settled h = same-trans (same-sink-in h.count h 0) (same-rise (sink_in h.count h 0).heap (sink_in h.count h 0).place)

same-pushed : (h : Heap) (e : Entry) → SameHeap h (pushed h e)
unfolding pushed
same-pushed h e = same-trans (same-put h (h.count + 1) h.count e) (same-rise (put_entry (heap h.faces h.keys (h.count + 1)) h.count e) h.count)

same-popped : (h : Heap) (n : ℕ) → SameHeap h (popped h n)
unfolding popped
same-popped h zero = same-put h 0 0 _
same-popped h (suc n) =
    same-trans (same-trans (same-put h (suc n) (suc n) _) (same-put (cleared h (suc n)) (suc n) 0 (entry_at h (suc n)))) (same-settled (put_entry (cleared h (suc n)) 0 (entry_at h (suc n))))

-- ---- the moves of a run, from lists as long as those of l
module _ (l : Lists) where
  abbrev Long : State → Type 0
  Long s = SameLength l s.lists

  same-vertices : (s : State) (v : List Float) → Long s → length v ≡ length s.lists.vertices → SameLength l (with_vertices v s.lists)
  same-vertices s v h e = record { of_vertices = e ∙ h.of_vertices; of_face_ids = h.of_face_ids; of_face_floats = h.of_face_floats; of_deleted = h.of_deleted; of_edges = h.of_edges; of_heap_ids = h.of_heap_ids; of_heap_keys = h.of_heap_keys; of_pending = h.of_pending }

  same_queue : (s : State) (q : Heap) → Long s → SameHeap (heap_of s) q → SameLength l (with_heap q.faces q.keys s.lists)
  same_queue s q h e = record { of_vertices = h.of_vertices; of_face_ids = h.of_face_ids; of_face_floats = h.of_face_floats; of_deleted = h.of_deleted; of_edges = h.of_edges; of_heap_ids = e.of_faces ∙ h.of_heap_ids; of_heap_keys = e.of_keys ∙ h.of_heap_keys; of_pending = h.of_pending }

  same-link : (s : State) (i k j : ℕ) → Long s → Long (with_link s i k j)
  same-link s i k j h = record { of_vertices = h.of_vertices; of_face_ids = length-set s.lists.face_ids (i * 6 + (3 + k)) j ∙ h.of_face_ids; of_face_floats = h.of_face_floats; of_deleted = h.of_deleted; of_edges = h.of_edges; of_heap_ids = h.of_heap_ids; of_heap_keys = h.of_heap_keys; of_pending = h.of_pending }

  same-face : (s : State) (corners neighbours : Three) (m : Made) → Long s → Long (with_face s corners neighbours m)
  same-face s corners neighbours m h =
      let n = s.tally.faces in
      record {
        of_vertices = h.of_vertices;
        of_face_ids = length-sets s.lists.face_ids (n * 6) (face_cells corners neighbours) ∙ h.of_face_ids;
        of_face_floats = length-made _ _ m ∙ h.of_face_floats;
        of_deleted = length-set s.lists.deleted n 0 ∙ h.of_deleted;
        of_edges = h.of_edges;
        of_heap_ids = h.of_heap_ids;
        of_heap_keys = h.of_heap_keys;
        of_pending = h.of_pending;
      }

  pub same-walked : (y : Walk) (w : Numbers) (s : State) (p i : ℕ) → NeighboursIn s.tally.faces s.tally.faces s.lists.face_ids → i < s.tally.faces → Long s → Long (with_pass y w s p i)
  same-walked y w s p i a b h =
      let st = steady-here y w s p i a b in
      record {
        of_vertices = h.of_vertices;
        of_face_ids = h.of_face_ids;
        of_face_floats = h.of_face_floats;
        of_deleted = st.marks ∙ h.of_deleted;
        of_edges = st.reached.same_room ∙ h.of_edges;
        of_heap_ids = h.of_heap_ids;
        of_heap_keys = h.of_heap_keys;
        of_pending = st.places ∙ h.of_pending;
      }

  same-exchanged : (v : List Float) → length (exchanged v) ≡ length v
  unfolding exchanged
  same-exchanged v = length-vertex (put_vertex v 1 (vertex_at v 2)) 2 (vertex_at v 1) ∙ length-vertex v 1 (vertex_at v 2)

  same-delete : (s : State) (i : ℕ) → Long s → Long (left (delete i s))
  unfolding delete ◌>>=◌ look put
  same-delete s i h = record { of_vertices = h.of_vertices; of_face_ids = h.of_face_ids; of_face_floats = h.of_face_floats; of_deleted = length-set s.lists.deleted i 1 ∙ h.of_deleted; of_edges = h.of_edges; of_heap_ids = h.of_heap_ids; of_heap_keys = h.of_heap_keys; of_pending = h.of_pending }

  same-complete : (s : State) → Long s → Long (left (complete s))
  unfolding complete ◌>>=◌ look put
  same-complete s h = h

  same-clear : (s : State) → Long s → Long (left (clear_edges s))
  unfolding clear_edges ◌>>=◌ look put
  same-clear s h = record { of_vertices = h.of_vertices; of_face_ids = h.of_face_ids; of_face_floats = h.of_face_floats; of_deleted = h.of_deleted; of_edges = length-blank _ s.lists.edges ∙ h.of_edges; of_heap_ids = h.of_heap_ids; of_heap_keys = h.of_heap_keys; of_pending = h.of_pending }

  pub same-moves : Keeps Long
  same-moves = record {
    on_vertex = λ s v _ h. same-vertices s _ h (length-vertex s.lists.vertices s.tally.vertices v);
    on_exchange = λ s _ h. same-vertices s _ h (same-exchanged s.lists.vertices);
    on_face = λ s corners neighbours m _ h. same-face s corners neighbours m h;
    on_queue = λ s e _ _ h. same_queue s _ h (same-pushed (heap_of s) e);
    on_pop = λ s n _ h. same_queue s _ h (same-popped (heap_of s) n);
    on_delete = λ s i _ h. same-delete s i h;
    on_pass = λ y w s p i a b _ h. same-walked y w s p i a b h;
    on_link = λ s i k j _ _ h. same-link s i k j h;
    on_clear = λ s h. same-clear s h;
    on_complete = λ s h. same-complete s h;
  }

pub long-itself : (l : Lists) → SameLength l l
long-itself l = record { of_vertices = refl; of_face_ids = refl; of_face_floats = refl; of_deleted = refl; of_edges = refl; of_heap_ids = refl; of_heap_keys = refl; of_pending = refl }

-- EACH LIST KEEPS ITS LENGTH, however a run ends
pub keeps-lengths : (w : World) (x : VoronoiSimplex) (l : Lists) (e : End) (t : State) → run w x l ≡ ended e t → SameLength l t.lists
keeps-lengths w x l e t q = run-keeps (λ s. SameLength l s.lists) w x l (same-moves l) (long-itself l) e t q

-- ---- the room that suffices

-- A STORE of 105 vertices, of 10,710 faces, of 206 edges, of 10,710 heap entries or of 206 pending questions is never refused, whatever the others hold
pub always-suffices : (w : World) (x : VoronoiSimplex) (l : Lists) (y : Store) → suffices y ≤ room_for y l → (t : State) → run w x l ≡ ended (no_room y) t → ⊥
always-suffices w x l y enough t e =
    tight y (rw (same-rooms l t.lists (keeps-lengths w x l (no_room y) t e) y) enough) (subst (λ (o : Out Over). Ends (faces_at_start x) o) e (demand-3 w x l))
  where
    few : {n : ℕ} → Starting (faces_at_start x) n → n ≤ 4
    few without = omega arith
    few with_all = start-most (eqb x.dim 3)

    tight : (y : Store) → suffices y ≤ room_for y t.lists → Ended (faces_at_start x) (no_room y) t → ⊥
    tight the_vertices a h = omega (arith, h.tight, h.at_most, a)
    tight the_faces a h = omega (arith, h.tight, h.at_most, a, bound-most h.from h.expansions (few h.starting) h.at_most)
    tight the_edges a h = omega (arith, h.tight, h.at_most, a, few h.starting)
    tight the_pending a h = omega (arith, h.tight, h.at_most, a, few h.starting)
    tight the_heap a h = omega (arith, h.tight, h.at_most, a, bound-most h.from h.expansions (few h.starting) h.at_most)
