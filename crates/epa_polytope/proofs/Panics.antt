-- A run that panics has made no face yet (`panics-early`): both panics come before the first. And only the plain walk is refused for a question (`refused-by-plain`). Up to there the counts of all but the vertices stay zero, and none of the acts from
-- there on ends in a panic, which is shown of each (`Calm`). Assumes nothing.
use mathlib.Core.Path.{◌≡◌, refl, ap}
use mathlib.Core.Bool.{Bool, true, false, cond}
use native.Mathlib.Omega.{arith}
use Rattle.std.specs.Prelude.{Option, None, Some}
use Prim.Native.Nat.{ℕ, zero, suc, ◌+◌}
use lib.Ieee.{Float}
use Rattle.shape.specs.declared.vertex.Vertex.{Vertex}
use Rattle.heap.specs.declared.Entry.{Entry}
use Rattle.epa_polytope.specs.Start.{Walk, recursive, plain, World, VoronoiSimplex, first_far, queue_start, four_faces, queue_four, start_four, third, two_faces, start_two, second, bootstrap, push_points, start_vertices, start_faces, begin, exchange}
use Rattle.epa_polytope.specs.Stores.{Store, the_vertices, the_faces, the_edges, the_heap, the_pending, State, Made, live_to, live, vertex_at, point_at, Lists, Three, state_of, none_yet}
use Rattle.epa_polytope.specs.Expansion.{Expansion, delete, pass_by, passed_if, silhouette, link, queue_new, grow_at, grow, grow_all, clear_edges, close_ring, regrow, expand}
use Rattle.epa_polytope.specs.Run.{Best, pop_entry, pop_live, settle, visit, visit_if, complete, iterate, loop, expansions, epa, run}
use Rattle.epa_polytope.specs.Steps.{Found, Lost, Site, End, answers, nothing, panics, no_room, Act, ended, Nil, ◌>>=◌, ◌>>◌, look, put, pure, ok, stop_if, do_if, branch, push_vertex, push_face, enqueue, queue_face, answer_of, answer}
use Rattle.epa_polytope.specs.Silhouette.{WalkAnswer, Ok, Err}
use Rattle.epa_polytope.proofs.Moves.{pass_from, with_pass}
use Rattle.epa_polytope.proofs.Steps.{Meets, goes, ends, meets-bind, meets-then, meets-look, meets-put, meets-pure, meets-ok, meets-stop, meets-stop_if, meets-do_if, meets-branch, meets-link, meets-face, meets-enqueue, meets-queue, meets-vertex}

-- no face, no edge, no entry of the heap, no expansion
pub record Unbegun (s : State) : Type 0 where
  pub no_faces : s.tally.faces ≡ 0
  pub no_edges : s.tally.edges ≡ 0
  pub no_queue : s.tally.heap ≡ 0
  pub none_done : s.tally.done ≡ 0
  pub none_most : s.tally.most ≡ 0

-- nor a live face
pub unbegun-live : (s : State) → Unbegun s → live s ≡ 0
unfolding live_to
unbegun-live s h = rw h.no_faces

-- only the plain walk is refused for a question
abbrev PlainOnly : Walk → Store → Type 0
PlainOnly y the_vertices = Unit {0}
PlainOnly y the_faces = Unit {0}
PlainOnly y the_edges = Unit {0}
PlainOnly y the_heap = Unit {0}
PlainOnly y the_pending = y ≡ plain

module _ (w : World) where
  -- what is said of the ends: of the panics, and of a refusal for a question
  abbrev Quiet : End → State → Type 0
  Quiet (answers y a b n) t = Unit {0}
  Quiet (nothing y) t = Unit {0}
  Quiet (panics y) t = Unbegun t
  Quiet (no_room y) t = PlainOnly w.walk_by y

  abbrev Any : {A : Type 0} → A → State → Type 0
  Any a t = Unit {0}

  abbrev Still : Nil → State → Type 0
  Still a t = Unbegun t

  -- ---- before the first face

  still-vertex : (v : Vertex) (s : State) → Unbegun s → Meets Still Quiet (push_vertex v s)
  still-vertex v s h =
      meets-vertex Quiet _ v s (λ _. tt)
      (λ _. record { no_faces = h.no_faces; no_edges = h.no_edges; no_queue = h.no_queue; none_done = h.none_done; none_most = h.none_most })

  still-points : (x : VoronoiSimplex) (n i : ℕ) (s : State) → Unbegun s → Meets Still Quiet (push_points x n i s)
  unfolding push_points
  still-points x zero i s h = meets-ok Quiet _ s h
  still-points x (suc n) i s h = meets-then Quiet Still _ _ _ s (still-vertex _ s h) λ _ t h1. still-points x n (i + 1) t h1

  still-second : (v : Vertex) (o : Option Vertex) (s : State) → Unbegun s → Meets Still Quiet (second v o s)
  still-second v None s h = meets-stop Quiet _ _ s tt
  still-second v (Some p) s h = still-vertex p s h

  still-bootstrap : (s : State) → Unbegun s → Meets Still Quiet (bootstrap w s)
  unfolding bootstrap
  still-bootstrap s h = meets-look Quiet _ _ s (still-second (vertex_at s.lists.vertices 0) (first_far w (point_at s 0) 6 0) s h)

  still-vertices : (x : VoronoiSimplex) (s : State) → Unbegun s → Meets Still Quiet (start_vertices w x s)
  unfolding start_vertices
  still-vertices x s h =
      meets-then Quiet Still _ _ _ s (still-points x (x.dim + 1) 0 s h) λ _ t h1.
      meets-do_if Quiet _ _ _ t (λ _. still-bootstrap t h1) (λ _. h1)

  still-third : (s : State) → Unbegun s → Meets Still Quiet (third w s)
  unfolding third
  still-third s h =
      meets-look Quiet _ _ s
      (meets-then Quiet Still _ _ _ s (meets-stop_if Quiet _ _ _ s (λ _. h) (λ _. h)) λ _ t h1. still-vertex _ t h1)

  -- ---- an act that does not end in a panic, from any stores

  record Calm {A : Type 0} (m : Act A) : Type 0 where
    from : (s : State) → Meets Any Quiet (m s)

  calm_bind : {A B : Type 0} (m : Act A) (k : A → Act B) → Calm m → ((a : A) → Calm (k a)) → Calm (◌>>=◌ m k)
  calm_bind m k h n = record { from = λ s. meets-bind Quiet Any Any m k s (h.from s) (λ a t _. (n a).from t) }

  calm-then : {A B : Type 0} (m : Act A) (k : Act B) → Calm m → Calm k → Calm (◌>>◌ m k)
  calm-then m k h n = record { from = λ s. meets-then Quiet Any Any m k s (h.from s) (λ a t _. n.from t) }

  calm-look : {B : Type 0} (k : State → Act B) → ((s : State) → Calm (k s)) → Calm (◌>>=◌ look k)
  calm-look k n = record { from = λ s. meets-look Quiet Any k s ((n s).from s) }

  calm_put : (t : State) → Calm (put t)
  calm_put t = record { from = λ s. meets-put Quiet Any t s tt }

  calm-pure : {A : Type 0} (a : A) → Calm (pure a)
  calm-pure a = record { from = λ s. meets-pure Quiet Any a s tt }

  calm-ok : Calm ok
  calm-ok = record { from = λ s. meets-ok Quiet Any s tt }

  calm-stop_if : (b : Bool) (y : Lost) → Calm (stop_if b (nothing y))
  calm-stop_if b y = record { from = λ s. meets-stop_if Quiet Any b (nothing y) s (λ _. tt) (λ _. tt) }

  calm-do_if : (b : Bool) (m : Act Nil) → Calm m → Calm (do_if b m)
  calm-do_if b m h = record { from = λ s. meets-do_if Quiet Any b m s (λ _. h.from s) (λ _. tt) }

  calm_branch : {A : Type 0} (b : Bool) (m n : Act A) → Calm m → Calm n → Calm (branch b m n)
  calm_branch b m n h k = record { from = λ s. meets-branch Quiet Any b m n s (λ _. h.from s) (λ _. k.from s) }

  calm-vertex : (v : Vertex) → Calm (push_vertex v)
  calm-vertex v = record { from = λ s. meets-vertex Quiet Any v s (λ _. tt) (λ _. tt) }

  calm-face : (corners neighbours : Three) (m : Made) → Calm (push_face corners neighbours m)
  calm-face ps ns m = record { from = λ s. meets-face Quiet Any ps ns m s (λ _. tt) (λ _. tt) }

  calm-enqueue : (i : ℕ) (key : Float) → Calm (enqueue i key)
  calm-enqueue i key = record { from = λ s. meets-enqueue Quiet Any i key s (λ _. tt) (λ _. tt) }

  calm-queue : (why : Lost) (tol : Float) (i : ℕ) (key : Float) → Calm (queue_face why tol i key)
  calm-queue why tol i key = record { from = λ s. meets-queue Quiet Any why tol i key s tt (λ _. tt) (λ _. tt) }

  calm-link : (i c j : ℕ) → Calm (link i c j)
  calm-link i c j = record { from = λ s. meets-link Quiet Any i c j s tt }

  calm-answer : {A : Type 0} (why : Found) (i : ℕ) → Calm {A = A} (answer w.numbers why i)
  unfolding answer answer_of
  calm-answer why i = record { from = λ s. meets-look Quiet Any _ s (meets-stop Quiet Any _ s tt) }

  -- ---- the first faces

  calm-queue_start : (tol : Float) (i : ℕ) (holds : Bool) → Calm (queue_start w.numbers tol i holds)
  unfolding queue_start
  calm-queue_start tol i holds = calm-do_if _ _ (calm-look _ λ s. calm-queue _ tol i _)

  calm-four_faces : (m1 m2 m3 m4 : Made) → Calm (four_faces m1 m2 m3 m4)
  unfolding four_faces
  calm-four_faces m1 m2 m3 m4 = calm-then _ _ (calm-face _ _ m1) (calm-then _ _ (calm-face _ _ m2) (calm-then _ _ (calm-face _ _ m3) (calm-face _ _ m4)))

  calm-queue_four : (tol : Float) (a b c d : Bool) → Calm (queue_four w.numbers tol a b c d)
  unfolding queue_four
  calm-queue_four tol a b c d =
      calm-then _ _ (calm-queue_start tol 0 a)
      (calm-then _ _ (calm-queue_start tol 1 b)
      (calm-then _ _ (calm-queue_start tol 2 c)
      (calm-then _ _ (calm-queue_start tol 3 d) (calm-stop_if _ _))))

  calm-start_four : (tol : Float) → Calm (start_four w.numbers tol)
  unfolding start_four exchange
  calm-start_four tol =
      calm-look _ λ s.
      calm-then _ _ (calm-do_if _ _ (calm-look _ λ s1. calm_put _))
      (calm-look _ λ t.
      calm-then _ _ (calm-four_faces _ _ _ _) (calm-queue_four tol _ _ _ _))

  calm-two_faces : Calm (two_faces w.numbers)
  unfolding two_faces
  calm-two_faces =
      calm-look _ λ t.
      calm-then _ _ (calm-face _ _ _)
      (calm-then _ _ (calm-face _ _ _)
      (calm-then _ _ (calm-enqueue 0 _) (calm-enqueue 1 _)))

  -- the panic of the third vertex is before the two faces
  quiet-start_two : (s : State) → Unbegun s → Meets Any Quiet (start_two w s)
  unfolding start_two
  quiet-start_two s h =
      meets-look Quiet _ _ s
      (meets-then Quiet Still _ _ _ s (meets-do_if Quiet _ _ _ s (λ _. still-third s h) (λ _. h)) λ _ t _. calm-two_faces.from t)

  quiet-start_faces : (dim : ℕ) (tol : Float) (s : State) → Unbegun s → Meets Any Quiet (start_faces w dim tol s)
  unfolding start_faces
  quiet-start_faces dim tol s h = meets-branch Quiet _ _ _ _ s (λ _. (calm-start_four tol).from s) (λ _. quiet-start_two s h)

  -- ---- an expansion

  calm-pop_entry : (n : ℕ) → Calm (pop_entry n)
  unfolding pop_entry
  calm-pop_entry n = calm-look _ λ s. calm-then _ _ (calm_put _) (calm-pure _)

  calm-pop_live : (n : ℕ) → Calm (pop_live n)
  unfolding pop_live
  calm-pop_live zero = calm-pure None
  calm-pop_live (suc n) = calm_bind _ _ (calm-pop_entry n) λ e. calm-look _ λ s. calm_branch _ _ _ (calm-pure _) (calm-pop_live n)

  calm-delete : (i : ℕ) → Calm (delete i)
  unfolding delete
  calm-delete i = calm-look _ λ s. calm_put _

  quiet-passed : (b : Bool) (a : WalkAnswer) (t : State) → (b ≡ true → w.walk_by ≡ plain) → Meets Any Quiet (passed_if b a t)
  quiet-passed true (Ok n) t h = ends (h refl)
  quiet-passed true (Err _) t h = ends (h refl)
  quiet-passed false (Ok n) t h = goes tt
  quiet-passed false (Err _) t h = ends tt

  -- the recursive walk holds no question
  short-by-plain : (y : Walk) (s : State) (point i : ℕ) → (pass_from y w.numbers s point i).short ≡ true → y ≡ plain
  unfolding pass_by
  short-by-plain recursive s point i e = let z : ◌≡◌ {A = ℕ} 0 1 = ap (λ (b : Bool). cond b 1 0) e in let no : ⊥ = omega arith in absurd no
  short-by-plain plain s point i e = refl

  calm-silhouette : (point i : ℕ) → Calm (silhouette w.walk_by w.numbers point i)
  unfolding silhouette
  calm-silhouette point i = record {
    from = λ s.
        let t = pass_from w.walk_by w.numbers s point i in
        quiet-passed t.short t.walk.answer (with_pass w.walk_by w.numbers s point i) (short-by-plain w.walk_by s point i);
  }

  calm-queue_new : (u : Expansion) (i : ℕ) → Calm (queue_new w.numbers u i)
  unfolding queue_new
  calm-queue_new u i = calm-look _ λ s. calm_branch _ _ _ (calm-answer _ u.face) (calm-queue _ u.tol i _)

  calm-grow_at : (u : Expansion) (f c : ℕ) → Calm (grow_at w.numbers u f c)
  unfolding grow_at
  calm-grow_at u f c = calm-look _ λ s. calm-then _ _ (calm-link f _ _) (calm-then _ _ (calm-face _ _ _) (calm-do_if _ _ (calm-queue_new u _)))

  calm-grow : (u : Expansion) (i : ℕ) → Calm (grow w.numbers u i)
  unfolding grow
  calm-grow u i = calm-look _ λ s. calm-do_if _ _ (calm-grow_at u _ _)

  calm-grow_all : (u : Expansion) (n i : ℕ) → Calm (grow_all w.numbers u n i)
  unfolding grow_all
  calm-grow_all u zero i = calm-ok
  calm-grow_all u (suc n) i = calm-then _ _ (calm-grow u i) (calm-grow_all u n (i + 1))

  calm-close_ring : (first : ℕ) → Calm (close_ring first)
  unfolding close_ring clear_edges
  calm-close_ring first =
      calm-look _ λ s.
      calm-then _ _ (calm-stop_if _ _)
      (calm-then _ _ (calm-link first 2 _)
      (calm-then _ _ (calm-link _ 1 first) (calm-look _ λ t. calm_put _)))

  calm-expand : (u : Expansion) → Calm (expand w.walk_by w.numbers u)
  unfolding expand regrow
  calm-expand u =
      calm-then _ _ (calm-delete u.face)
      (calm-then _ _ (calm-silhouette u.point u.face)
      (calm-look _ λ s.
      calm-then _ _ (calm-stop_if _ _)
      (calm-then _ _ (calm-grow_all u _ 0) (calm-close_ring _))))

  -- ---- all of them

  calm-turn : (tol : Float) (b : Best) (e : Entry) → Calm (visit w tol b e)
  unfolding visit settle
  calm-turn tol b e =
      calm-look _ λ s.
      calm-then _ _ (calm-vertex _)
      (calm-then _ _ (calm-do_if _ _ (calm-answer _ _))
      (calm-then _ _ (calm-do_if _ _ (calm-answer _ _))
      (calm-then _ _ (calm-expand _) (calm-pure _))))

  calm-turn_if : (tol : Float) (b : Best) (o : Option Entry) → Calm (visit_if w tol b o)
  calm-turn_if tol b None = calm-answer _ _
  calm-turn_if tol b (Some e) = calm-turn tol b e

  calm-next_turn : (tol : Float) (b : Best) → Calm (iterate w tol b)
  unfolding iterate complete
  calm-next_turn tol b =
      calm-look _ λ s.
      calm_bind _ _ (calm-pop_live _) λ o.
      calm_bind _ _ (calm-turn_if tol b o) λ b1.
      calm-then _ _ (calm-look _ λ t. calm_put _) (calm-pure b1)

  calm_turns : (tol : Float) (n : ℕ) (b : Best) → Calm (loop w tol n b)
  unfolding loop
  calm_turns tol zero b = calm-answer _ _
  calm_turns tol (suc n) b = calm_bind _ _ (calm-next_turn tol b) λ b1. calm_turns tol n b1

  calm-expansions : (tol : Float) → Calm (expansions w tol)
  unfolding expansions
  calm-expansions tol = calm-look _ λ s. calm_turns tol 101 _

  -- ---- the run

  quiet-begin : (x : VoronoiSimplex) (s : State) → Unbegun s → Meets Any Quiet (begin w x s)
  unfolding begin
  quiet-begin x s h =
      meets-then Quiet Still _ _ _ s (meets-stop_if Quiet _ _ _ s (λ _. h) (λ _. h)) λ _ s1 h1.
      meets-then Quiet Still _ _ _ s1 (still-vertices x s1 h1) λ _ s2 h2.
      meets-look Quiet _ _ s2
      (meets-then Quiet Any _ _ _ s2 (quiet-start_faces x.dim _ s2 h2) λ _ s3 _. (calm-pure _).from s3)

  quiet-epa : (x : VoronoiSimplex) (s : State) → Unbegun s → Meets Any Quiet (epa w x s)
  unfolding epa
  quiet-epa x s h = meets-bind Quiet Any _ _ _ s (quiet-begin x s h) λ tol s1 _. (calm-expansions tol).from s1

unbegun-lent : (l : Lists) → Unbegun (state_of l none_yet)
unbegun-lent l = record { no_faces = refl; no_edges = refl; no_queue = refl; none_done = refl; none_most = refl }

-- A RUN THAT PANICS HAS MADE NO FACE YET: no face, no edge, no entry of the heap, no expansion
pub panics-early : (w : World) (x : VoronoiSimplex) (l : Lists) (y : Site) (t : State) → run w x l ≡ ended (panics y) t → Unbegun t
unfolding run
panics-early w x l y t e = (rw e at (quiet-epa w x (state_of l none_yet) (unbegun-lent l))).held

-- so it has no live face
pub panics-none-live : (w : World) (x : VoronoiSimplex) (l : Lists) (y : Site) (t : State) → run w x l ≡ ended (panics y) t → live t ≡ 0
panics-none-live w x l y t e = unbegun-live t (panics-early w x l y t e)

-- A RUN BY THE RECURSIVE WALK IS NEVER REFUSED FOR A QUESTION: what is so refused is by the plain walk
pub refused-by-plain : (w : World) (x : VoronoiSimplex) (l : Lists) (t : State) → run w x l ≡ ended (no_room the_pending) t → w.walk_by ≡ plain
unfolding run
refused-by-plain w x l t e = (rw e at (quiet-epa w x (state_of l none_yet) (unbegun-lent l))).held
