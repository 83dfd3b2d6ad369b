-- THE LOOKUPS THAT MISS ARE FEW: three before a pass, and two for each face that it deletes; so after k expansions no more than 3k and twice the faces made, where a run ends no more than 303 and
-- twice the faces made, and no sum of them wraps. By a bound that each step of an expansion keeps, wherever it ends. Assumes nothing.
use mathlib.Core.Path.{◌≡◌, refl, sym, ◌∙◌}
use mathlib.Core.List.{List}
use mathlib.Core.Bool.{Bool}
use Rattle.std.specs.Prelude.{Option, None, Some}
use Prim.Native.Nat.{ℕ, zero, suc, ◌+◌, ◌*◌, ◌≤◌}
use native.Mathlib.Nat.{mod-eq_of_lt}
use native.Mathlib.Omega.{arith}
use lib.Ieee.{Float}
use Rattle.shape.specs.declared.vertex.Vertex.{Vertex}
use Rattle.heap.specs.declared.Entry.{Entry}
use Rattle.epa_polytope.specs.Stores.{Lists, State, Three, state_of, none_yet, Made, live_to, live, vertex_at}
use Rattle.epa_polytope.specs.Steps.{End, Out, onward, ended, Nil, ◌>>◌, put, Found, converged, stuck, heap_empty, enough_expansions, new_face_nearer, answer, push_vertex, push_face, Lost, enqueue, queue_face}
use Rattle.epa_polytope.specs.Start.{World, VoronoiSimplex, push_points, second, bootstrap, first_far, start_vertices, exchange, four_faces, queue_start, queue_four, start_four, third, two_faces, start_two, start_faces, begin}
use Rattle.epa_polytope.specs.Expansion.{Expansion, delete, queue_new, grow_at, grow, grow_all, clear_edges, close_ring, regrow}
use Rattle.epa_polytope.specs.Run.{pop_entry, pop_live, complete, loop, run}
use Rattle.epa_polytope.specs.Bounds.{faces_at_start}
use Rattle.epa_polytope.specs.Demand3.{Carried, Passing, opened, one_more, run_to, rest, up_to_pass_of, up_to_pass, the_pass, after_the_pass, stores_left}
use Rattle.epa_polytope.specs.Silhouette.{lookup, misses, with_missed}
use Rattle.epa_polytope.proofs.Walks.{misses-one}
use Rattle.epa_polytope.proofs.Basics.{live-set, live-push}
use Rattle.epa_polytope.proofs.Steps.{Meets, goes, ends, meets-ends, meets-both, meets-bind, meets-then, meets-look, meets-put, meets-pure, meets-ok, meets-stop, meets-stop_if, meets-do_if, meets-branch, meets-link, meets-face, meets-enqueue, meets-queue, meets-vertex}
use Rattle.epa_polytope.proofs.Growth.{Ready}
use Rattle.epa_polytope.proofs.Iterations.{Best-ready}
use Rattle.epa_polytope.proofs.Start.{nothing-kept, empty-lent, meets-run_to}
use Rattle.epa_polytope.proofs.Stages.{expansion-by-pass, run-through}
use Rattle.epa_polytope.proofs.Passes.{J, Passed, pass-law, Passable, meets-up_to_pass}

-- the lookups that missed, with two for each live face: no more than B, and two for each face that was made
abbrev pub Few : ℕ → State → Type 0
Few B s = s.tally.missed + 2 * live s ≤ B + 2 * s.tally.faces

module _ (B : ℕ) where
  abbrev F : {A : Type 0} → A → State → Type 0
  F a s = Few B s

  abbrev E : End → State → Type 0
  E e s = Few B s

  -- ---- the pushes

  few-vertex : (v : Vertex) (s : State) → Few B s → Meets F E (push_vertex v s)
  few-vertex v s h = meets-vertex E F v s (λ _. h) (λ _. h)

  few-face : (a b : Three) (m : Made) (s : State) → Few B s → Meets F E (push_face a b m s)
  few-face a b m s h = meets-face E F a b m s (λ _. h) (λ _. omega (arith, h, live-push s.tally.faces s.lists.deleted))

  few-enqueue : (i : ℕ) (key : Float) (s : State) → Few B s → Meets F E (enqueue i key s)
  few-enqueue i key s h = meets-enqueue E F i key s (λ _. h) (λ _. h)

  few-queue : (why : Lost) (tol : Float) (i : ℕ) (key : Float) (s : State) → Few B s → Meets F E (queue_face why tol i key s)
  few-queue why tol i key s h = meets-queue E F why tol i key s h (λ _. h) (λ _. h)

  -- ---- the start

  few-points : (x : VoronoiSimplex) (n i : ℕ) (s : State) → Few B s → Meets F E (push_points x n i s)
  unfolding push_points
  few-points x zero i s h = meets-ok E F s h
  few-points x (suc n) i s h = meets-then E F F _ _ s (few-vertex _ s h) λ _ t h1. few-points x n (i + 1) t h1

  few-second : (v : Vertex) (o : Option Vertex) (s : State) → Few B s → Meets F E (second v o s)
  few-second v None s h = meets-stop E F _ s h
  few-second v (Some p) s h = few-vertex p s h

  module _ (w : World) where
    few-vertices : (x : VoronoiSimplex) (s : State) → Few B s → Meets F E (start_vertices w x s)
    unfolding start_vertices bootstrap
    few-vertices x s h =
        meets-then E F F _ _ s (few-points x _ 0 s h) λ _ t h1.
        meets-do_if E F _ _ t (λ _. meets-look E F _ t (few-second (vertex_at t.lists.vertices 0) (first_far w (vertex_at t.lists.vertices 0).point 6 0) t h1)) (λ _. h1)

    few-start : (tol : Float) (i : ℕ) (b : Bool) (s : State) → Few B s → Meets F E (queue_start w.numbers tol i b s)
    unfolding queue_start
    few-start tol i b s h = meets-do_if E F b _ s (λ _. meets-look E F _ s (few-queue _ tol i _ s h)) (λ _. h)

    few-four : (tol : Float) (s : State) → Few B s → Meets F E (start_four w.numbers tol s)
    unfolding start_four queue_four four_faces exchange
    few-four tol s h =
        meets-look E F _ s
        (meets-then E F F _ _ s (meets-do_if E F _ _ s (λ _. meets-look E F _ s (meets-put E F _ s h)) (λ _. h)) λ _ s1 h1.
        meets-look E F _ s1
        (meets-then E F F _ _ s1
        (meets-then E F F _ _ s1 (few-face _ _ _ s1 h1) λ _ a g1.
        meets-then E F F _ _ a (few-face _ _ _ a g1) λ _ b g2.
        meets-then E F F _ _ b (few-face _ _ _ b g2) λ _ c g3.
        few-face _ _ _ c g3) λ _ s2 h2.
        meets-then E F F _ _ s2 (few-start tol 0 _ s2 h2) λ _ s3 h3.
        meets-then E F F _ _ s3 (few-start tol 1 _ s3 h3) λ _ s4 h4.
        meets-then E F F _ _ s4 (few-start tol 2 _ s4 h4) λ _ s5 h5.
        meets-then E F F _ _ s5 (few-start tol 3 _ s5 h5) λ _ s6 h6.
        meets-stop_if E F _ _ s6 (λ _. h6) (λ _. h6)))

    few-two : (s : State) → Few B s → Meets F E (start_two w s)
    unfolding start_two third two_faces
    few-two s h =
        meets-look E F _ s
        (meets-then E F F _ _ s
        (meets-do_if E F _ _ s (λ _. meets-look E F _ s (meets-then E F F _ _ s (meets-stop_if E F _ _ s (λ _. h) (λ _. h)) λ _ t h1. few-vertex _ t h1)) (λ _. h)) λ _ t h1.
        meets-look E F _ t
        (meets-then E F F _ _ t (few-face _ _ _ t h1) λ _ a g1.
        meets-then E F F _ _ a (few-face _ _ _ a g1) λ _ b g2.
        meets-then E F F _ _ b (few-enqueue 0 _ b g2) λ _ c g3.
        few-enqueue 1 _ c g3))

    few-begin : (x : VoronoiSimplex) (s : State) → Few B s → Meets F E (begin w x s)
    unfolding begin start_faces
    few-begin x s h =
        meets-then E F F _ _ s (meets-stop_if E F _ _ s (λ _. h) (λ _. h)) λ _ s1 h1.
        meets-then E F F _ _ s1 (few-vertices x s1 h1) λ _ s2 h2.
        meets-look E F _ s2
        (meets-then E F F _ _ s2 (meets-branch E F _ _ _ s2 (λ _. few-four _ s2 h2) (λ _. few-two s2 h2)) λ _ s3 h3.
        meets-pure E F _ s3 h3)

    -- ---- an expansion, up to its pass

    few-answer : {A : Type 0} (Q : A → State → Type 0) (why : Found) (i : ℕ) (t : State) → Few B t → Meets Q E (answer w.numbers why i t)
    unfolding answer
    few-answer Q why i t h = meets-look E Q _ t (meets-stop E Q _ t h)

    few-pop_live : (n : ℕ) (t : State) → Few B t → Meets F E (pop_live n t)
    unfolding pop_live pop_entry ◌>>◌ put
    few-pop_live zero t h = meets-pure E _ _ t h
    few-pop_live (suc n) t h =
        meets-bind E F _ _ _ t (meets-look E _ _ t (meets-pure E _ _ _ h)) λ e t1 h1.
        meets-look E _ _ t1 (meets-branch E _ _ _ _ t1 (λ _. meets-pure E _ _ t1 h1) (λ _. few-pop_live n t1 h1))

    few-delete : (i : ℕ) (t : State) → Few B t → Meets F E (delete i t)
    unfolding delete
    few-delete i t h = meets-look E F _ t (meets-put E F _ t (omega (arith, h, live-set t.tally.faces t.lists.deleted i)))

    few-of : (g : Carried) (o : Option Entry) (t : State) → Few B t → Meets F E (up_to_pass_of w g o t)
    few-of g None t h = few-answer F heap_empty _ t h
    few-of g (Some e) t h =
        meets-look E F _ t
        (meets-then E F F _ _ t (few-vertex _ t h) λ _ t1 h1.
        meets-then E F F _ _ t1 (meets-do_if E F _ _ t1 (λ _. few-answer F converged _ t1 h1) (λ _. h1)) λ _ t2 h2.
        meets-then E F F _ _ t2 (meets-do_if E F _ _ t2 (λ _. few-answer F stuck _ t2 h2) (λ _. h2)) λ _ t3 h3.
        meets-then E F F _ _ t3 (few-delete _ t3 h3) λ _ t4 h4.
        meets-pure E F _ t4 h4)

    few-up_to_pass : (g : Carried) (s : State) → Few B s → Meets F E (up_to_pass w g s)
    unfolding up_to_pass
    few-up_to_pass g s h = meets-look E F _ s (meets-bind E F F _ _ s (few-pop_live _ s h) λ o t h1. few-of g o t h1)

    -- ---- and what follows its pass

    few-new : (u : Expansion) (i : ℕ) (t : State) → Few B t → Meets F E (queue_new w.numbers u i t)
    unfolding queue_new
    few-new u i t h = meets-look E F _ t (meets-branch E F _ _ _ t (λ _. few-answer F new_face_nearer _ t h) (λ _. few-queue _ _ i _ t h))

    few-grow_at : (u : Expansion) (f c : ℕ) (t : State) → Few B t → Meets F E (grow_at w.numbers u f c t)
    unfolding grow_at
    few-grow_at u f c t h =
        meets-look E F _ t
        (meets-then E F F _ _ t (meets-link E F _ _ _ t h) λ _ t1 h1.
        meets-then E F F _ _ t1 (few-face _ _ _ t1 h1) λ _ t2 h2.
        meets-do_if E F _ _ t2 (λ _. few-new u _ t2 h2) (λ _. h2))

    few-grow_all : (u : Expansion) (n i : ℕ) (t : State) → Few B t → Meets F E (grow_all w.numbers u n i t)
    unfolding grow_all grow
    few-grow_all u zero i t h = meets-ok E F t h
    few-grow_all u (suc n) i t h =
        meets-then E F F _ _ t (meets-look E F _ t (meets-do_if E F _ _ t (λ _. few-grow_at u _ _ t h) (λ _. h))) λ _ t1 h1.
        few-grow_all u n (i + 1) t1 h1

    few-after : (g : Carried) (p : Passing) (t : State) → Few B t → Meets F E (after_the_pass w g p t)
    unfolding after_the_pass regrow close_ring clear_edges complete
    few-after g p t h =
        meets-then E F F _ _ t
        (meets-look E F _ t
        (meets-then E F F _ _ t (meets-stop_if E F _ _ t (λ _. h) (λ _. h)) λ _ t1 h1.
        meets-then E F F _ _ t1 (few-grow_all _ _ 0 t1 h1) λ _ t2 h2.
        meets-look E F _ t2
        (meets-then E F F _ _ t2 (meets-stop_if E F _ _ t2 (λ _. h2) (λ _. h2)) λ _ t3 h3.
        meets-then E F F _ _ t3 (meets-link E F _ _ _ t3 h3) λ _ t4 h4.
        meets-then E F F _ _ t4 (meets-link E F _ _ _ t4 h4) λ _ t5 h5.
        meets-look E F _ t5 (meets-put E F _ t5 h5)))) λ _ t6 h6.
        meets-then E F F _ _ t6 (meets-look E F _ t6 (meets-put E F _ t6 h6)) λ _ t7 h7.
        meets-pure E F _ t7 h7

-- ---- a pass brings three more

few-pass : (B : ℕ) (s : State) (o : Out Nil) → Passed s (stores_left o) → Few B s → Meets (λ _ t. Few (B + 3) t) (λ _ t. Few (B + 3) t) o
few-pass B s (onward a t) p h = goes (omega (arith, h, p.few_missed, p.same_made))
few-pass B s (ended e t) p h = ends (omega (arith, h, p.few_missed, p.same_made))

few-more : (B : ℕ) (w : World) (f k : ℕ) → k ≤ 100 → (g : Carried) (s : State) → Ready J f k s → Few B s → Meets (λ _ t. Few (B + 3) t) (λ _ t. Few (B + 3) t) (one_more w g s)
unfolding the_pass
few-more B w f k l g s r h =
    rw (expansion-by-pass w g s)
    (meets-bind (E (B + 3)) (λ p t. Few B t × Passable f k p t) _ _ _ s
    (meets-both (meets-ends (λ _ _ b. omega (arith, b)) (few-up_to_pass B w g s h)) (meets-up_to_pass f w k l g s r)) λ p t y.
    meets-then (E (B + 3)) (λ _ v. Few (B + 3) v) _ _ _ t (few-pass B t _ (pass-law w.walk_by w.numbers _ _ t y.1.sound.neighbours_in y.1.face_in) y.0) λ _ v z.
    few-after (B + 3) w g p v z)

-- ---- the run

module _ (w : World) (x : VoronoiSimplex) (l : Lists) where
  none-live : live (state_of l none_yet) ≡ 0
  unfolding live_to
  none-live = refl

  few-to : (k : ℕ) → k ≤ 101 → Meets (λ _ t. Few (k * 3) t) (λ _ t. Few (k * 3) t) (run_to w x k (state_of l none_yet))
  unfolding run_to opened
  few-to zero few = meets-bind (E 0) (λ _ t. Few 0 t) _ _ _ _ (few-begin 0 w x (state_of l none_yet) (omega (arith, none-live))) λ tol t h. meets-look (E 0) _ _ t (meets-pure (E 0) _ _ t h)
  few-to (suc k) few =
      let e : suc k * 3 ≡ k * 3 + 3 = omega arith in
      let ready = meets-run_to J nothing-kept w x (state_of l none_yet) (empty-lent l) tt k (omega arith) in
      rw e
      (meets-bind (E (k * 3 + 3)) (λ g t. Few (k * 3) t × Best-ready J nothing-kept (faces_at_start x) w k g.best t) _ _ _ _
      (meets-both (meets-ends (λ _ _ b. omega (arith, b)) (few-to k (omega arith))) ready) λ g t y.
      few-more (k * 3) w (faces_at_start x) k (omega arith) g t y.1.ready y.0)

  -- AFTER k EXPANSIONS no more lookups have missed than three for each of them, and two for each face made
  pub few-missed : (k : ℕ) → k ≤ 101 → (g : Carried) (t : State) → run_to w x k (state_of l none_yet) ≡ onward g t → t.tally.missed ≤ 3 * k + 2 * t.tally.faces
  few-missed k few g t q = let h = (rw q at (few-to k few)).held in omega (arith, h)

  few-rest : (g : Carried) (t : State) → Few 303 t → Meets (λ _ v. Few 303 v) (λ _ v. Few 303 v) (rest w 0 g t)
  unfolding rest loop
  few-rest g t h = few-answer 303 w _ enough_expansions _ t h

  -- WHERE A RUN ENDS, however it does, no more than for 101 expansions
  pub few-at-end : (e : End) (t : State) → run w x l ≡ ended e t → t.tally.missed ≤ 303 + 2 * t.tally.faces
  unfolding run
  few-at-end e t q =
      let m = meets-bind (E 303) (λ _ v. Few 303 v) (λ _ v. Few 303 v) (run_to w x 101) (rest w 0) (state_of l none_yet) (few-to 101 (omega arith)) few-rest in
      let h = (rw (sym (run-through w x 101 0 refl (state_of l none_yet)) ∙ q) at m).held in
      omega (arith, h)

-- so that no sum of them wraps: with as many as that before it, a lookup counts one more where it misses, and none where it finds
pub counts-one : (ids : List ℕ) (f k n : ℕ) → n ≤ 303 + 2 * 10710 → with_missed ids f k n ≡ n + misses (lookup ids f k)
unfolding with_missed
counts-one ids f k n h = mod-eq_of_lt (omega (arith, misses-one (lookup ids f k)))
