-- The pushes of a run, told of the lists and the answer that the code leaves. Assumes nothing.
use mathlib.Core.Path.{◌≡◌, refl, sym, ap, ◌∙◌}
use mathlib.Core.Bool.{Bool, true, false, cond}
use mathlib.Core.List.{List, [], ◌∷◌}
use lib.ListN.{length, set}
use lib.Seq.{sets}
use Prim.Native.Nat.{ℕ, suc, ◌+◌, ◌/◌, ◌<◌, ◌≤◌}
use native.Mathlib.Omega.{arith}
use lib.Dec.{ltb}
use lib.Ieee.{Float, lt}
use borrow.Author.Tests.{lt-leb, le-leb, ltb-true, ltb-false}
use Rattle.heap.specs.Heap.{Heap, heap, entry, pushed}
use Rattle.heap.specs.Calls.{After, after, leaves, push_of}
use Rattle.refusal.specs.Refusal.{no_room}
use Rattle.refusal.specs.declared.NoRoom.{NoRoom}
use Rattle.epa_polytope.specs.declared.types.Store.TheVariants.{Vertices as VertexStore, Faces as FaceStore, Heap as HeapStore}
use Rattle.epa_polytope.specs.declared.types.Three.{Three}
use Rattle.epa_polytope.specs.declared.types.Made.{Made}
use Rattle.shape.specs.declared.vertex.Vertex.{Vertex}
use Rattle.epa_polytope.specs.declared.types.End.TheVariants.{Nothing, NoRoom as NoRoomIn}
use Rattle.epa_polytope.specs.declared.types.FaceId.{FaceId}
use Rattle.epa_polytope.specs.declared.types.Lost.{Lost}
use Rattle.epa_polytope.specs.Promises.{Step, finish}
use Rattle.std.proofs.lemmas.Option.{none-some}
use Rattle.std.specs.Prelude.{Option, Some, None, Result, Ok, Err}
use Rattle.epa_polytope.specs.declared.types.Tally.{Tally}
use Rattle.epa_polytope.specs.Stores.{Lists, state_of, with_vertices, with_face_ids, with_face_floats, with_deleted, with_heap, vertex_count, face_count, heap_count, face_room, heap_room, put_vertex, put_face, put_made}
use Rattle.epa_polytope.specs.Steps.{onward, push_vertex, push_face, enqueue, face_id_new, queue_face, stop_if, put, look, ◌>>=◌, ◌>>◌}
use Rattle.epa_polytope.specs.Promises.{Does, step_out}
use Rattle.epa_polytope.proofs.Ways.{pushed-count}
use Rattle.epa_polytope.proofs.Doing.{stopped, not_stopped}

-- ---- a vertex

module _ (v : Vertex) (l : Lists) (c : Tally) where
  pub vertex-refused : length l.vertices / 9 ≤ c.vertices → Does step_out (push_vertex v) l c l (Err (finish (NoRoomIn VertexStore) c))
  unfolding push_vertex ◌>>=◌ ◌>>◌ look stop_if put
  vertex-refused h = record { same = rw (le-leb _ _ h) }

  pub vertex-written : {vertices : List Float} → c.vertices < length l.vertices / 9 → vertices ≡ put_vertex l.vertices c.vertices v
      → Does step_out (push_vertex v) l c (with_vertices vertices l) (Ok (vertex_count (c.vertices + 1) c))
  unfolding push_vertex ◌>>=◌ ◌>>◌ look stop_if put
  vertex-written h e = record { same = rw (lt-leb _ _ h, e) }

-- ---- a face

-- six places of a record, as the code writes them
six-sets : (l : List ℕ) (i a b c d e f : ℕ) → set (set (set (set (set (set l (i + 0) a) (i + 1) b) (i + 2) c) (i + (3 + 0)) d) (i + (3 + 1)) e) (i + (3 + 2)) f ≡ sets l i (a ∷ b ∷ c ∷ d ∷ e ∷ f ∷ [])
six-sets l i a b c d e f =
    let e0 : i + 0 ≡ i = omega arith in
    let e1 : i + 1 ≡ suc i = omega arith in
    let e2 : i + 2 ≡ suc (suc i) = omega arith in
    let e3 : i + 3 ≡ suc (suc (suc i)) = omega arith in
    let e4 : i + 4 ≡ suc (suc (suc (suc i))) = omega arith in
    let e5 : i + 5 ≡ suc (suc (suc (suc (suc i)))) = omega arith in
    rw (e0, e1, e2, e3, e4, e5)

pub six-written : (l : List ℕ) (i a b c d e f : ℕ) {l1 l2 l3 l4 l5 l6 : List ℕ} → l1 ≡ set l (i + 0) a → l2 ≡ set l1 (i + 1) b → l3 ≡ set l2 (i + 2) c → l4 ≡ set l3 (i + (3 + 0)) d
    → l5 ≡ set l4 (i + (3 + 1)) e → l6 ≡ set l5 (i + (3 + 2)) f → l6 ≡ sets l i (a ∷ b ∷ c ∷ d ∷ e ∷ f ∷ [])
six-written l i a b c d e f h1 h2 h3 h4 h5 h6 =
    h6
    ∙ ap (λ (x : List ℕ). set x (i + (3 + 2)) f) (h5 ∙ ap (λ (x : List ℕ). set x (i + (3 + 1)) e) (h4
    ∙ ap (λ (x : List ℕ). set x (i + (3 + 0)) d) (h3 ∙ ap (λ (x : List ℕ). set x (i + 2) c) (h2 ∙ ap (λ (x : List ℕ). set x (i + 1) b) h1))))
    ∙ six-sets l i a b c d e f

module _ (corners neighbours : Three) (m : Made) (l : Lists) (c : Tally) where
  pub face-refused : {room : ℕ} → room ≡ face_room l → room ≤ c.faces → Does step_out (push_face corners neighbours m) l c l (Err (finish (NoRoomIn FaceStore) c))
  unfolding push_face ◌>>=◌ ◌>>◌ look stop_if put
  face-refused is h = record { same = rw (← is, le-leb _ _ h) }

  pub face-written : {room : ℕ} {ids : List ℕ} {floats : List Float} {deleted : List ℕ} → room ≡ face_room l → c.faces < room → ids ≡ put_face l.face_ids c.faces corners neighbours
      → floats ≡ put_made l.face_floats c.faces m → deleted ≡ set l.deleted c.faces 0
      → Does step_out (push_face corners neighbours m) l c (with_face_ids ids (with_face_floats floats (with_deleted deleted l))) (Ok (face_count (c.faces + 1) c))
  unfolding push_face ◌>>=◌ ◌>>◌ look stop_if put
  face-written is h e1 e2 e3 = record { same = rw (← is, lt-leb _ _ h, e1, e2, e3) }

-- ---- a key

-- what `FaceId::new` says of it
pub not-accepted : (i : ℕ) (key tol : Float) → None ≡ face_id_new i key tol → lt tol key ≡ true
unfolding face_id_new
not-accepted i key tol e = by (lt tol key) e
  where
    by : (b : Bool) → ◌≡◌ {A = Option FaceId} None (cond b None (Some (record { id = i; neg_dist = key }))) → b ≡ true
    by true q = refl
    by false q = absurd (none-some _ q)

pub accepted : (i : ℕ) (key tol : Float) (x : FaceId) → Some x ≡ face_id_new i key tol → (lt tol key ≡ false) × (x ≡ record { id = i; neg_dist = key })
unfolding face_id_new
accepted i key tol x e = by (lt tol key) e
  where
    by : (b : Bool) → Some x ≡ cond b None (Some (record { id = i; neg_dist = key })) → (b ≡ false) × (x ≡ record { id = i; neg_dist = key })
    by true q = absurd (none-some x (sym q))
    by false q = (refl, cc)

-- `FaceId::new` answers o
module _ (why : Lost) (i : ℕ) (key tol : Float) {o : Option FaceId} (is : o ≡ face_id_new i key tol) {l : Lists} {c : Tally} where
  pub key-refused : o ≡ None → Does step_out (queue_face why tol i key) l c l (Err (finish (Nothing why) c))
  unfolding queue_face
  key-refused t = stopped _ _ refl (not-accepted i key tol (sym t ∙ is))

  pub key-accepted : {x : FaceId} {l' : Lists} {r : Step} → o ≡ Some x → Does step_out (enqueue x.id x.neg_dist) l c l' r → Does step_out (queue_face why tol i key) l c l' r
  unfolding queue_face
  key-accepted {x} t does = let ok = accepted i key tol x (sym t ∙ is) in not_stopped _ ok.0 (rw ok.1 at does)

-- ---- an entry of the heap

same_count : {j k : ℕ} → ◌≡◌ {A = Result ℕ NoRoom} (Ok j) (Ok k) → j ≡ k
same_count e = cc

unlike : {k : ℕ} {e : NoRoom} → ◌≡◌ {A = Result ℕ NoRoom} (Err e) (Ok k) → ⊥
unlike e = let z : ◌≡◌ {A = ℕ} 0 1 = cc in omega arith

-- `heap::push` answers o
module _ (i : ℕ) (key : Float) (l : Lists) (c : Tally) {ids : List ℕ} {keys : List Float} {o : Result ℕ NoRoom} (does : after ids keys o ≡ push_of (heap l.heap_ids l.heap_keys c.heap) (entry i key)) where
  abbrev h0 : Heap
  h0 = heap l.heap_ids l.heap_keys c.heap

  does-so : {y : Result ℕ NoRoom} → o ≡ y → after ids keys y ≡ push_of h0 (entry i key)
  does-so t = rw t at does

  pub heap-refused : {e : NoRoom} → o ≡ Err e → Does step_out (enqueue i key) l c (with_heap ids keys l) (Err (finish (NoRoomIn HeapStore) c))
  unfolding push_of enqueue ◌>>=◌ ◌>>◌ look stop_if put
  heap-refused t = by (ltb c.heap (heap_room l)) refl (does-so t)
    where
      by : (b : Bool) → ltb c.heap (heap_room l) ≡ b → after ids keys (Err no_room) ≡ cond b (leaves (pushed h0 (entry i key)) (Ok (c.heap + 1))) (leaves h0 (Err no_room))
          → Does step_out (enqueue i key) l c (with_heap ids keys l) (Err (finish (NoRoomIn HeapStore) c))
      by true q z = absurd (unlike (ap (λ (x : After (Result ℕ NoRoom)). x.answer) z))
      by false q z =
          let full : heap_room l ≤ c.heap = omega (arith, ltb-false c.heap (heap_room l) q) in
          let e1 : ids ≡ l.heap_ids = ap (λ (x : After (Result ℕ NoRoom)). x.faces) z in
          let e2 : keys ≡ l.heap_keys = ap (λ (x : After (Result ℕ NoRoom)). x.keys) z in
          record { same = rw (le-leb _ _ full, e1, e2) }

  pub queued : {k : ℕ} → o ≡ Ok k → Does step_out (enqueue i key) l c (with_heap ids keys l) (Ok (heap_count k c))
  unfolding push_of enqueue ◌>>=◌ ◌>>◌ look stop_if put
  queued {k} t = by (ltb c.heap (heap_room l)) refl (does-so t)
    where
      by : (b : Bool) → ltb c.heap (heap_room l) ≡ b → after ids keys (Ok k) ≡ cond b (leaves (pushed h0 (entry i key)) (Ok (c.heap + 1))) (leaves h0 (Err no_room))
          → Does step_out (enqueue i key) l c (with_heap ids keys l) (Ok (heap_count k c))
      by true q z =
          let free : c.heap < heap_room l = omega (arith, ltb-true c.heap (heap_room l) q) in
          let e1 : ids ≡ (pushed h0 (entry i key)).faces = ap (λ (x : After (Result ℕ NoRoom)). x.faces) z in
          let e2 : keys ≡ (pushed h0 (entry i key)).keys = ap (λ (x : After (Result ℕ NoRoom)). x.keys) z in
          let e3 : k ≡ c.heap + 1 = same_count (ap (λ (x : After (Result ℕ NoRoom)). x.answer) z) in
          let e4 : heap ids keys k ≡ pushed h0 (entry i key) = rw (e1, e2, e3 ∙ sym (pushed-count h0 (entry i key))) in
          record { same = rw (lt-leb _ _ free) (ap (λ (h : Heap). onward tt (state_of (with_heap h.faces h.keys l) (heap_count h.count c))) e4) }
      by false q z = absurd (unlike (sym (ap (λ (x : After (Result ℕ NoRoom)). x.answer) z)))
