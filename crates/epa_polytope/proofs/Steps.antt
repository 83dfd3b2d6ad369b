-- What a step of the run leaves: P of the value and the stores if it goes on, E of the end and the stores if the run ends. Assumes nothing.
use mathlib.Core.Path.{◌≡◌, refl, subst}
use mathlib.Core.Bool.{Bool, true, false}
use Prim.Native.Nat.{ℕ, ◌<◌, ◌≤◌}
use lib.Ieee.{Float}
use borrow.Author.Tests.{leb-true, leb-false}
use Rattle.shape.specs.declared.vertex.Vertex.{Vertex}
use Rattle.heap.specs.Heap.{entry}
use Rattle.epa_polytope.specs.Stores.{State, the_vertices, the_faces, the_heap, room_for, Three, Made}
use Rattle.epa_polytope.specs.Steps.{End, nothing, no_room, Lost, Out, onward, ended, Act, next, ◌>>=◌, ◌>>◌, Nil, pure, stop, look, put, ok, stop_if, do_if, branch, push_vertex, push_face, enqueue, queue_face}
use Rattle.epa_polytope.specs.Expansion.{link}
use Rattle.epa_polytope.proofs.Moves.{with_link, with_vertex, with_entry, with_face}

abbrev Holds : {A : Type 0} → (A → State → Type 0) → (End → State → Type 0) → Out A → Type 0
Holds P E (onward a s) = P a s
Holds P E (ended e s) = E e s

-- a record, so that antt reads P, E and the step off a goal
pub record Meets {A : Type 0} (P : A → State → Type 0) (E : End → State → Type 0) (o : Out A) : Type 0 where
  pub held : Holds P E o

pub goes : {A : Type 0} {P : A → State → Type 0} {E : End → State → Type 0} {a : A} {s : State} → P a s → Meets P E (onward a s)
goes h = record { held = h }

pub ends : {A : Type 0} {P : A → State → Type 0} {E : End → State → Type 0} {e : End} {s : State} → E e s → Meets P E (ended e s)
ends h = record { held = h }

pub meets-ends : {A : Type 0} {P : A → State → Type 0} {E E' : End → State → Type 0} {o : Out A} → ((e : End) (s : State) → E e s → E' e s) → Meets P E o → Meets P E' o
meets-ends {A} {P = P} {E = E} {E' = E'} {o = o} g h = by o h
  where
    by : (o : Out A) → Meets P E o → Meets P E' o
    by (onward a s) h = goes h.held
    by (ended e s) h = ends (g e s h.held)

module _ (E : End → State → Type 0) where
  meets-next : {A B : Type 0} (P : A → State → Type 0) (Q : B → State → Type 0) (o : Out A) (k : A → Act B)
      → Meets P E o → ((a : A) (s : State) → P a s → Meets Q E (k a s)) → Meets Q E (next o k)
  meets-next P Q (onward a s) k h n = n a s h.held
  meets-next P Q (ended e s) k h n = record { held = h.held }

  pub meets-bind : {A B : Type 0} (P : A → State → Type 0) (Q : B → State → Type 0) (m : Act A) (k : A → Act B) (s : State)
      → Meets P E (m s) → ((a : A) (t : State) → P a t → Meets Q E (k a t)) → Meets Q E (◌>>=◌ m k s)
  unfolding ◌>>=◌
  meets-bind P Q m k s h n = meets-next P Q (m s) k h n

  pub meets-then : {A B : Type 0} (P : A → State → Type 0) (Q : B → State → Type 0) (m : Act A) (k : Act B) (s : State)
      → Meets P E (m s) → ((a : A) (t : State) → P a t → Meets Q E (k t)) → Meets Q E (◌>>◌ m k s)
  unfolding ◌>>◌
  meets-then P Q m k s h n = meets-next P Q (m s) (λ _. k) h n

  pub meets-look : {B : Type 0} (Q : B → State → Type 0) (k : State → Act B) (s : State) → Meets Q E (k s s) → Meets Q E (◌>>=◌ look k s)
  unfolding ◌>>=◌ look
  meets-look Q k s h = h

  pub meets-pure : {A : Type 0} (Q : A → State → Type 0) (a : A) (s : State) → Q a s → Meets Q E (pure a s)
  unfolding pure
  meets-pure Q a s h = goes h

  pub meets-stop : {A : Type 0} (Q : A → State → Type 0) (e : End) (s : State) → E e s → Meets Q E (stop e s)
  unfolding stop
  meets-stop Q e s h = ends h

  module _ (Q : Nil → State → Type 0) where
    pub meets-put : (t s : State) → Q tt t → Meets Q E (put t s)
    unfolding put
    meets-put t s h = goes h

    pub meets-ok : (s : State) → Q tt s → Meets Q E (ok s)
    unfolding ok
    meets-ok s h = goes h

    pub meets-stop_if : (b : Bool) (e : End) (s : State) → (b ≡ true → E e s) → (b ≡ false → Q tt s) → Meets Q E (stop_if b e s)
    unfolding stop_if
    meets-stop_if true e s h k = ends (h refl)
    meets-stop_if false e s h k = goes (k refl)

    pub meets-do_if : (b : Bool) (a : Act Nil) (s : State) → (b ≡ true → Meets Q E (a s)) → (b ≡ false → Q tt s) → Meets Q E (do_if b a s)
    unfolding do_if
    meets-do_if true a s h k = record { held = (h refl).held }
    meets-do_if false a s h k = goes (k refl)

    pub meets-link : (i k j : ℕ) (s : State) → Q tt (with_link s i k j) → Meets Q E (link i k j s)
    unfolding link
    meets-link i k j s h = meets-look Q _ s (meets-put _ s h)

  pub meets-face : (Q : Nil → State → Type 0) (corners neighbours : Three) (m : Made) (s : State)
      → (room_for the_faces s.lists ≤ s.tally.faces → E (no_room the_faces) s) → (s.tally.faces < room_for the_faces s.lists → Q tt (with_face s corners neighbours m))
      → Meets Q E (push_face corners neighbours m s)
  unfolding push_face
  meets-face Q corners neighbours m s h k =
      meets-look Q _ s
      (meets-then (λ _ t. s.tally.faces < room_for the_faces s.lists) Q _ _ s
      (meets-stop_if (λ _ t. s.tally.faces < room_for the_faces s.lists) _ _ s (λ e. h (leb-true _ _ e)) (λ e. leb-false _ _ e))
      (λ _ t l. meets-put Q _ t (k l)))

  pub meets-enqueue : (Q : Nil → State → Type 0) (i : ℕ) (key : Float) (s : State)
      → (room_for the_heap s.lists ≤ s.tally.heap → E (no_room the_heap) s)
      → (s.tally.heap < room_for the_heap s.lists → Q tt (with_entry s (entry i key)))
      → Meets Q E (enqueue i key s)
  unfolding enqueue
  meets-enqueue Q i key s h k =
      meets-look Q _ s
      (meets-then (λ _ t. s.tally.heap < room_for the_heap s.lists) Q _ _ s
      (meets-stop_if (λ _ t. s.tally.heap < room_for the_heap s.lists) _ _ s (λ e. h (leb-true _ _ e)) (λ e. leb-false _ _ e))
      (λ _ t l. meets-put Q _ t (k l)))

  pub meets-queue : (Q : Nil → State → Type 0) (why : Lost) (tol : Float) (i : ℕ) (key : Float) (s : State)
      → E (nothing why) s → (room_for the_heap s.lists ≤ s.tally.heap → E (no_room the_heap) s)
      → (s.tally.heap < room_for the_heap s.lists → Q tt (with_entry s (entry i key)))
      → Meets Q E (queue_face why tol i key s)
  unfolding queue_face
  meets-queue Q why tol i key s g h k =
      meets-then (λ _ t. s ≡ t) Q _ _ s
      (meets-stop_if (λ _ t. s ≡ t) _ _ s (λ _. g) (λ _. refl))
      (λ _ t e. subst (λ (x : State). Meets Q E (enqueue i key x)) e (meets-enqueue Q i key s h k))

  pub meets-branch : {A : Type 0} (Q : A → State → Type 0) (b : Bool) (x y : Act A) (s : State)
      → (b ≡ true → Meets Q E (x s)) → (b ≡ false → Meets Q E (y s)) → Meets Q E (branch b x y s)
  unfolding branch
  meets-branch Q true x y s h k = record { held = (h refl).held }
  meets-branch Q false x y s h k = record { held = (k refl).held }

  pub meets-vertex : (Q : Nil → State → Type 0) (v : Vertex) (s : State)
      → (room_for the_vertices s.lists ≤ s.tally.vertices → E (no_room the_vertices) s)
      → (s.tally.vertices < room_for the_vertices s.lists → Q tt (with_vertex s v))
      → Meets Q E (push_vertex v s)
  unfolding push_vertex
  meets-vertex Q v s h k =
      meets-look Q _ s
      (meets-then (λ _ t. s.tally.vertices < room_for the_vertices s.lists) Q _ _ s
      (meets-stop_if (λ _ t. s.tally.vertices < room_for the_vertices s.lists) _ _ s (λ e. h (leb-true _ _ e)) (λ e. leb-false _ _ e))
      (λ _ t l. meets-put Q _ t (k l)))

  pub meets-map : {A : Type 0} {P Q : A → State → Type 0} {o : Out A} → ((a : A) (s : State) → P a s → Q a s) → Meets P E o → Meets Q E o
  meets-map {A} {P = P} {Q = Q} {o = o} g h = by o h
    where
      by : (o : Out A) → Meets P E o → Meets Q E o
      by (onward a s) h = goes (g a s h.held)
      by (ended e s) h = ends h.held

-- what two laws say of a step
pub meets-both : {A : Type 0} {P Q : A → State → Type 0} {E F : End → State → Type 0} {o : Out A} → Meets P E o → Meets Q F o → Meets (λ a s. P a s × Q a s) E o
meets-both {o = onward a s} m n = goes (m.held, n.held)
meets-both {o = ended e s} m n = ends m.held
