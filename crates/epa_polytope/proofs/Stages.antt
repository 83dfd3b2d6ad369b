-- A run is its start, its expansions one after another, and its end; and an expansion is what comes before its silhouette pass, the pass, and what follows it. By the cases of each step.
-- Assumes nothing.
use mathlib.Core.Path.{◌≡◌, refl, ◌∙◌}
use mathlib.Core.Bool.{Bool, true, false}
use Rattle.std.specs.Prelude.{Option, None, Some}
use Prim.Native.Nat.{ℕ, zero, suc, ◌+◌, ◌%◌}
use native.Mathlib.Omega.{arith}
use lib.Dec.{eqb}
use lib.Ieee.{Float}
use Rattle.heap.specs.declared.Entry.{Entry}
use Rattle.epa_polytope.specs.Start.{World, VoronoiSimplex, begin}
use Rattle.epa_polytope.specs.Stores.{State, deleted_at}
use Rattle.epa_polytope.specs.Run.{Best, complete, settle, visit, visit_if, pop_live, iterate, loop, expansions, epa}
use Rattle.epa_polytope.specs.Steps.{Out, onward, ended, Nil, Act, next, ◌>>=◌, ◌>>◌, pure, stop, look, put, answer, ok, do_if, branch, push_face, Numbers}
use Rattle.epa_polytope.specs.Expansion.{delete, silhouette, regrow, expand, Expansion, link, queue_new, grow_at, grow, grow_all, edge_face, edge_corner}
use Rattle.epa_polytope.specs.Demand3.{Carried, opened, run_to, rest, Passing, up_to_pass_of, up_to_pass, the_pass, after_the_pass, stores_left, Joined, joined_at, up_to_queue, queue_joined, one_more}
use Rattle.epa_polytope.proofs.Moves.{with_link}

module _ (w : World) (x : VoronoiSimplex) where
  -- the start
  through-start : (o : Out Float) → next o (expansions w) ≡ next (next o (opened w)) (rest w 101)
  unfolding expansions opened rest ◌>>=◌ look pure
  through-start (ended e t) = refl
  through-start (onward tol t) = refl

  -- an expansion
  through-expansion : (n : ℕ) (o : Out Carried) → next o (rest w (suc n)) ≡ next (next o (one_more w)) (rest w n)
  unfolding loop rest one_more ◌>>=◌ pure
  through-expansion n (ended e t) = refl
  through-expansion n (onward g t) = by (iterate w g.tol g.best t)
    where
      by : (o : Out Best) → next o (loop w g.tol n) ≡ next (next o (λ b. pure (record { tol = g.tol; best = b }))) (rest w n)
      by (ended e t) = refl
      by (onward b t) = refl

  -- THE RUN PASSES THROUGH THESE STATES: it is the start and k expansions, and then the rest of its 101
  pub run-through : (k n : ℕ) → k + n ≡ 101 → (s : State) → epa w x s ≡ ◌>>=◌ (run_to w x k) (rest w n) s
  unfolding epa run_to ◌>>=◌
  run-through zero n e s = let q : n ≡ 101 = omega arith in rw q (through-start (begin w x s))
  run-through (suc k) n e s = run-through k (suc n) (omega arith) s ∙ through-expansion n (run_to w x k s)

-- ---- an expansion

-- one step after another, either way they are bracketed
assoc : {A B C : Type 0} (o : Out A) (f : A → Act B) (k : B → Act C) → next (next o f) k ≡ next o (λ a t. next (f a t) k)
assoc (onward a t) f k = refl
assoc (ended e t) f k = refl

-- two runs that take the same step, and go on alike
alike : {A B C D : Type 0} (m : Act A) (f : Act B) (f' : Act C) (k : B → Act D) (k' : C → Act D) (s : State) → ((t : State) → next (f t) k ≡ next (f' t) k')
    → next (◌>>◌ m f s) k ≡ next (◌>>◌ m f' s) k'
unfolding ◌>>◌
alike {A} {B} {C} {D} m f f' k k' s h = by (m s)
  where
    by : (o : Out A) → next (next o (λ _. f)) k ≡ next (next o (λ _. f')) k'
    by (onward a t) = h t
    by (ended e t) = refl

module _ (w : World) (g : Carried) where
  -- the pass, and what follows it
  abbrev onwards : Passing → Act Carried
  onwards p = ◌>>◌ (the_pass w p) (after_the_pass w g p)

  abbrev counted : Best → Act Carried
  counted b t = next (next (complete t) (λ _. pure b)) (λ b1. pure (record { tol = g.tol; best = b1 }))

  -- the faces grow
  from-regrow : (b : Best) (o : Out Nil) → next (next o (λ _. pure b)) counted ≡ next o (λ _ t. next (complete t) (λ _. pure (record { tol = g.tol; best = b })))
  unfolding complete ◌>>=◌ look put pure
  from-regrow b (ended e t) = refl
  from-regrow b (onward a t) = refl

  from-pass : (p : Passing) (o : Out Nil) → next (next (next o (λ _. regrow w.numbers p.expansion)) (λ _. pure p.best)) counted ≡ next o (λ _. after_the_pass w g p)
  unfolding after_the_pass ◌>>◌
  from-pass p (ended e t) = refl
  from-pass p (onward a t) = from-regrow p.best (regrow w.numbers p.expansion t)

  -- the face is deleted
  from-delete : (p : Passing) (t : State) → next (◌>>◌ (expand w.walk_by w.numbers p.expansion) (pure p.best) t) counted ≡ next (◌>>◌ (delete p.expansion.face) (pure p) t) onwards
  unfolding expand delete the_pass ◌>>=◌ ◌>>◌ look put pure
  from-delete p t = from-pass p (silhouette w.walk_by w.numbers p.expansion.point p.expansion.face (stores_left (delete p.expansion.face t)))

  from-visit : (e : Entry) (t : State) → next (visit w g.tol g.best e t) counted ≡ next (up_to_pass_of w g (Some e) t) onwards
  unfolding visit settle ◌>>=◌ look
  from-visit e t =
      alike _ _ _ counted onwards t λ t1. alike _ _ _ counted onwards t1 λ t2. alike _ _ _ counted onwards t2 λ t3. from-delete _ t3

  from-pop : (o : Out (Option Entry)) → next (next o (λ e. ◌>>=◌ (visit_if w g.tol g.best e) (λ b. ◌>>◌ complete (pure b)))) (λ b. pure (record { tol = g.tol; best = b })) ≡ next (next o (up_to_pass_of w g)) onwards
  unfolding ◌>>=◌ ◌>>◌ answer look stop
  from-pop (ended e t) = refl
  from-pop (onward None t) = refl
  from-pop (onward (Some e) t) = assoc (visit w g.tol g.best e t) _ _ ∙ from-visit e t

  -- AN EXPANSION IS ONE PASS, with what comes before it and what follows
  pub expansion-by-pass : (s : State) → one_more w g s ≡ ◌>>=◌ (up_to_pass w g) (λ p. ◌>>◌ (the_pass w p) (after_the_pass w g p)) s
  unfolding one_more iterate up_to_pass ◌>>=◌ look
  expansion-by-pass s = from-pop (pop_live s.tally.heap s)

-- ---- the new faces of an expansion

module _ (w : Numbers) (u : Expansion) where
  -- THE EDGES ARE TAKEN ONE AFTER ANOTHER: of all from the i-th on, n, and then the others, from the j-th on
  pub edges-through : (n m all i j : ℕ) → all ≡ n + m → j ≡ i + n → (s : State) → grow_all w u all i s ≡ ◌>>◌ (grow_all w u n i) (grow_all w u m j) s
  unfolding grow_all ◌>>◌ ok
  edges-through zero m all i j a b s =
      let p : all ≡ m = omega arith in
      let q : j ≡ i = omega arith in
      rw (p, q)
  edges-through (suc n) m all i j a b s =
      let p : all ≡ suc (n + m) = omega arith in
      rw p (by (grow w u i s) (λ t. edges-through n m (n + m) (i + 1) j refl (omega arith) t))
    where
      by : (o : Out Nil) → ((t : State) → grow_all w u (n + m) (i + 1) t ≡ next (grow_all w u n (i + 1) t) (λ _. grow_all w u m j)) → next o (λ _. grow_all w u (n + m) (i + 1)) ≡ next (next o (λ _. grow_all w u n (i + 1))) (λ _. grow_all w u m j)
      by (ended e t) h = refl
      by (onward _ t) h = h t

  -- AN EDGE'S NEW FACE IS PUSHED, and then queued
  by-pushes : (j : Joined) (o : Out Nil) → next o (λ _. do_if j.queues (queue_new w u j.face)) ≡ next (next o (λ _. pure j)) (queue_joined w u)
  unfolding queue_joined pure
  by-pushes j (onward _ t) = refl
  by-pushes j (ended e t) = refl

  pub edge-by-pushes : (i : ℕ) (s : State) → grow w u i s ≡ ◌>>=◌ (up_to_queue w u i) (queue_joined w u) s
  unfolding grow up_to_queue grow_at joined_at link queue_joined ◌>>=◌ ◌>>◌ look put pure do_if branch
  edge-by-pushes i s = by (eqb (deleted_at s (edge_face s.lists.edges i)) 0)
    where
      f : ℕ
      f = edge_face s.lists.edges i

      c : ℕ
      c = edge_corner s.lists.edges i

      by : (b : Bool) → do_if b (grow_at w u f c) s ≡ next (branch b (joined_at w u f c) (pure (record { face = 0; queues = false })) s) (queue_joined w u)
      by true = by-pushes _ (push_face _ _ _ (with_link s f ((c + 1) % 3) s.tally.faces))
      by false = refl
