-- Where a run is within the sizes of demand 3: between its expansions, around a pass and between two pushes of an expansion under way, and at its end; and the expansions that it counts are those it completes.
-- The statements, one beside the other, stand in Demand3.antt. Assumes nothing.
use mathlib.Core.Path.{◌≡◌, refl, sym, ap, subst, ◌∙◌}
use Rattle.std.specs.Prelude.{Some}
use Prim.Native.Nat.{ℕ, zero, suc, ◌+◌, ◌-◌, ◌*◌, ◌<◌, ◌≤◌}
use native.Mathlib.Nat.{mul-le-mul}
use native.Mathlib.Numerals.{add-one}
use native.Mathlib.Omega.{arith}
use Rattle.epa_polytope.specs.Start.{World, VoronoiSimplex}
use Rattle.epa_polytope.specs.Expansion.{Expansion}
use Rattle.epa_polytope.specs.Stores.{State, Lists, state_of, none_yet}
use Rattle.epa_polytope.specs.Steps.{End, answers, nothing, panics, no_room, Found, single_point, converged, stuck, new_face_nearer, enough_expansions, heap_empty, Out, onward, ended, next, ◌>>=◌, pure, answer}
use Rattle.epa_polytope.specs.Run.{Best, iterate, loop, run}
use Rattle.epa_polytope.specs.Bounds.{FromPoint, bound, Within, Starting, without, with_all, Part, the_start, the_loop, expansions_at, Ended, faces_at_start}
use Rattle.epa_polytope.specs.Demand3.{Carried, Completes, run_to, rest, stores_in, state_after, part_by, expansions_of, WithinAtEnd, faces_found, starting_faces, the_pass, Pass, FewEdges, Growth, Joined, up_to_queue, one_more}
use Rattle.epa_polytope.proofs.Steps.{Meets, goes, ends, meets-bind, meets-look, meets-stop, meets-map}
use Rattle.epa_polytope.proofs.Growth.{Ending, Lined, Growing, growing, meets-silhouette, meets-grow_all}
use Rattle.epa_polytope.proofs.Iterations.{Best-ready, meets-loop}
use Rattle.epa_polytope.proofs.Stages.{run-through}
use Rattle.epa_polytope.proofs.Start.{nothing-kept, empty-lent, meets-opened, meets-run_to, meets-rest}
use Rattle.epa_polytope.proofs.Panics.{unbegun-live, panics-early}
use Rattle.epa_polytope.proofs.Passes.{J, Passable, Passed, pass-law, meets-up_to_pass, meets-up_to_queue}
use Rattle.epa_polytope.proofs.Counted.{done-moves, done-iterate}

-- ---- after k expansions

-- what every outcome of a step has is had of the stores that it leaves, if it goes on
of-stores : {A : Type 0} (P : State → Type 0) {E : End → State → Type 0} (o : Out A) (t : State) → stores_in o ≡ Some t → Meets (λ _ u. P u) E o → P t
of-stores P (onward a u) t e m = let q : u ≡ t = cc in rw q at m.held
of-stores P (ended y u) t e m = let z : ◌≡◌ {A = ℕ} 0 1 = cc in absurd (omega arith)

module _ (w : World) (x : VoronoiSimplex) (l : Lists) where
  pub started_with : (t : State) → state_after w x l 0 ≡ Some t → t.tally.faces ≡ faces_at_start x
  unfolding state_after
  started_with t e = of-stores (λ u. u.tally.faces ≡ faces_at_start x) _ t e (meets-map _ (λ _ _ y. y.1) (meets-opened J nothing-kept w x (state_of l none_yet) (empty-lent l) tt))

  pub after-expansions : (k : ℕ) → k ≤ 101 → (t : State) → state_after w x l k ≡ Some t → (t.tally.done ≡ k) × Within (faces_at_start x) k t
  unfolding state_after
  after-expansions k few t e =
      of-stores (λ u. (u.tally.done ≡ k) × Within (faces_at_start x) k u) _ t e (meets-map _ (λ _ _ y. (y.ready.completed, y.ready.within)) (meets-run_to J nothing-kept w x (state_of l none_yet) (empty-lent l) tt k few))

-- ---- where a run ends

bound-more : (f f' k : ℕ) → f ≤ f' → bound f k ≤ bound f' k
unfolding bound
bound-more f f' k l =
    let q : k ≤ k = omega arith in
    let m : k * f ≤ k * f' = mul-le-mul q l in
    omega arith

within_more : (f f' k : ℕ) (t : State) → f ≤ f' → Within f k t → Within f' k t
within_more f f' k t l v =
    let b = bound-more f f' k l in
    record { few_verts = v.few_verts; few_live = omega (arith, v.few_live); few_made = omega (arith, v.few_made); few_edges = omega (arith, v.few_edges); few_queued = omega (arith, v.few_queued) }

at-most : {f n : ℕ} → Starting f n → n ≤ f
at-most without = omega arith
at-most with_all = omega arith

module _ (w : World) (x : VoronoiSimplex) (l : Lists) where
  -- by the faces that the start has
  by-found : (y : Found) (k n : ℕ) (t : State) → Starting (faces_at_start x) n → FromPoint n y → Within n k t → Within (faces_found (faces_at_start x) y) k t
  by-found single_point k n t g z v = rw z at v
  by-found converged k n t g z v = within_more n (faces_at_start x) k t (at-most g) v
  by-found stuck k n t g z v = within_more n (faces_at_start x) k t (at-most g) v
  by-found new_face_nearer k n t g z v = within_more n (faces_at_start x) k t (at-most g) v
  by-found enough_expansions k n t g z v = within_more n (faces_at_start x) k t (at-most g) v
  by-found heap_empty k n t g z v = within_more n (faces_at_start x) k t (at-most g) v

  by_end : (e : End) (t : State) → run w x l ≡ ended e t → (h : Ended (faces_at_start x) e t) → Within (starting_faces x e) h.expansions t
  by_end (answers y a b n) t q h = by-found y h.expansions h.from t h.starting h.tight h.within
  by_end (nothing y) t q h = within_more h.from (faces_at_start x) h.expansions t (at-most h.starting) h.within
  by_end (no_room y) t q h = within_more h.from (faces_at_start x) h.expansions t (at-most h.starting) h.within
  by_end (panics y) t q h =
      let u = panics-early w x l y t q in
      record { few_verts = h.within.few_verts; few_live = omega (arith, unbegun-live t u); few_made = omega (arith, u.no_faces); few_edges = omega (arith, u.none_most); few_queued = omega (arith, u.no_queue) }

  -- the part is the one that the run's start says
  by_part : (q : Part) (e : End) (t : State) → run w x l ≡ ended e t → Ending J q (faces_at_start x) e t
      → (expansions_at q e t ≤ 101) × (t.tally.done ≤ expansions_at q e t) × Within (starting_faces x e) (expansions_at q e t) t
  by_part q e t is h =
      let c : h.end.expansions ≡ expansions_at q e t = h.end.counted ∙ ap (λ (p : Part). expansions_at p e t) h.in_part in
      (subst (λ (n : ℕ). n ≤ 101) c h.end.at_most, subst (λ (n : ℕ). t.tally.done ≤ n) c h.end.completed, subst (λ (n : ℕ). Within (starting_faces x e) n t) c (by_end e t is h.end))

  pub at-the-end : (e : End) (t : State) → run w x l ≡ ended e t → WithinAtEnd w x l e t
  unfolding run expansions_of state_after ◌>>=◌
  at-the-end e t is =
      let y = by (run_to w x 0 (state_of l none_yet)) (meets-opened J nothing-kept w x (state_of l none_yet) (empty-lent l) tt) (sym (run-through w x 0 101 refl (state_of l none_yet)) ∙ is) in
      record { few = y.0; completed = y.1; within = y.2 }
    where
      by : (o : Out Carried) → Meets (λ g u. Best-ready J nothing-kept (faces_at_start x) w 0 g.best u × (u.tally.faces ≡ faces_at_start x)) (Ending J the_start (faces_at_start x)) o
          → next o (rest w 101) ≡ ended e t
          → (expansions_at (part_by (stores_in o)) e t ≤ 101) × (t.tally.done ≤ expansions_at (part_by (stores_in o)) e t) × Within (starting_faces x e) (expansions_at (part_by (stores_in o)) e t) t
      by (ended y u) m q =
          let a : y ≡ e = cc in
          let b : u ≡ t = cc in
          by_part the_start e t is (rw (a, b) at m.held)
      by (onward g u) m q =
          by_part the_loop e t is (rw q at (meets-rest J nothing-kept w x (state_of l none_yet) (empty-lent l) tt 0 101 refl g u m.held.0)).held

-- ---- the silhouette passes

module _ (w : World) (x : VoronoiSimplex) (l : Lists) (k : ℕ) (few : k ≤ 100) (before after : State) (p : Pass w x l k before after) where
  passable : Passable (faces_at_start x) k p.passing before
  passable =
      let h = (rw p.reached at (meets-run_to J nothing-kept w x (state_of l none_yet) (empty-lent l) tt k (omega arith))).held in
      (rw p.as_far at (meets-up_to_pass (faces_at_start x) w k few p.carried p.stores h.ready)).held

  pass-both : Passed before after
  unfolding the_pass
  pass-both = subst (Passed before) p.passes (pass-law w.walk_by w.numbers p.passing.expansion.point p.passing.expansion.face before passable.sound.neighbours_in passable.face_in)

  pub pass-records : FewEdges before after
  pass-records = record { from_none = passable.clean.0; none_live = pass-both.none_live; three_more = omega (arith, pass-both.none_live, pass-both.three_more) }

  pub under-way : Within (faces_at_start x) (k + 1) before × Within (faces_at_start x) (k + 1) after
  under-way = rw (add-one k) (passable.stage.within, later)
    where
      later : Within (faces_at_start x) (suc k) after
      later =
          let v = passable.stage.within in
          let q = pass-both in
          record {
            few_verts = omega (arith, v.few_verts, q.same_verts);
            few_live = omega (arith, v.few_live, q.none_live);
            few_made = omega (arith, v.few_made, q.same_made);
            few_edges = omega (arith, v.few_edges, q.most_edges, q.three_more, passable.less_live);
            few_queued = omega (arith, v.few_queued, q.same_queued);
          }

-- ---- between two pushes

module _ (w : World) (x : VoronoiSimplex) (l : Lists) (k : ℕ) (few : k ≤ 100) (after : State) (i : ℕ) (t : State) (g : Growth w x l k after i t) where
  abbrev u : Expansion
  u = g.pass.passing.expansion

  lined : Lined J (faces_at_start x) k u.point g.before.tally.faces after
  unfolding the_pass
  lined =
      (rw g.goes_on at (meets-silhouette J nothing-kept (faces_at_start x) w.numbers k u w.walk_by u.face g.before.tally.faces g.before (passable w x l k few g.before after g.pass))).held

  -- the faces of i edges are made, and those of the others are left
  grown-to : Growing J (faces_at_start x) k u.point after.tally.faces after.tally.edges (after.tally.edges - i) t
  grown-to =
      let n = after.tally.edges in
      (rw g.grows at (meets-grow_all J nothing-kept (faces_at_start x) w.numbers k u after.tally.faces n i (n - i) n after 0 (omega arith) (omega (arith, g.few))
      (growing J nothing-kept (faces_at_start x) w.numbers k u g.before.tally.faces after lined))).held

  pub between-edges : Within (faces_at_start x) (k + 1) t
  between-edges = rw (add-one k) grown-to.stage.within

  pub before-queued : i < after.tally.edges → (j : Joined) (v : State) → up_to_queue w.numbers u i t ≡ onward j v → Within (faces_at_start x) (k + 1) v
  before-queued more j v e =
      let q : after.tally.edges - i ≡ suc (after.tally.edges - i - 1) = omega arith in
      rw (add-one k) (rw e at (meets-up_to_queue (faces_at_start x) w.numbers k u after.tally.faces after.tally.edges (after.tally.edges - i - 1) t i more (rw q at grown-to))).held.stage.within

-- ---- the expansions that a run counts are those it completes

module _ (w : World) (x : VoronoiSimplex) (l : Lists) where
  rest-counts : (k n : ℕ) → k + n ≡ 101 → (g : Carried) (v : State) → Best-ready (λ c. k ≤ c.tally.done) (done-moves k) (faces_at_start x) w k g.best v
      → Meets (λ _ u. ⊥) (Ending (λ c. k ≤ c.tally.done) the_loop (faces_at_start x)) (rest w n g v)
  unfolding rest
  rest-counts k n e g v h = meets-loop (λ c. k ≤ c.tally.done) (done-moves k) (faces_at_start x) w n k g.tol g.best v e h

  -- A RUN THAT HAS COMPLETED k EXPANSIONS COUNTS AT LEAST k at its end
  pub counts_all : (k : ℕ) → k ≤ 101 → (u : State) → state_after w x l k ≡ Some u → (e : End) (t : State) → run w x l ≡ ended e t → k ≤ t.tally.done
  unfolding run state_after ◌>>=◌
  counts_all k few u is e t q =
      by (run_to w x k (state_of l none_yet)) (meets-run_to J nothing-kept w x (state_of l none_yet) (empty-lent l) tt k few) is
      (sym (run-through w x k (101 - k) (omega arith) (state_of l none_yet)) ∙ q)
    where
      by : (o : Out Carried) → Meets (λ g v. Best-ready J nothing-kept (faces_at_start x) w k g.best v) (λ e v. Ended (faces_at_start x) e v × Unit {0}) o
          → stores_in o ≡ Some u → next o (rest w (101 - k)) ≡ ended e t → k ≤ t.tally.done
      by (ended y v) m z p = let no : ◌≡◌ {A = ℕ} 0 1 = cc in absurd (omega arith)
      by (onward g v) m z p =
          let h = m.held.ready in
          (rw p at (rest-counts k (101 - k) (omega arith) g v
          (record { ready = record { sound = h.sound; within = h.within; completed = h.completed; clean = h.clean; kept = omega (arith, h.completed) }; best_in = m.held.best_in }))).held.kept

module _ (w : World) (x : VoronoiSimplex) (l : Lists) where
  abbrev CE : End → State → Type 0
  CE e t = Completes w x l t.tally.done

  completes-at : (k : ℕ) (g : Carried) (u v : State) → run_to w x k (state_of l none_yet) ≡ onward g u → v.tally.done ≡ k → Completes w x l v.tally.done
  unfolding state_after
  completes-at k g u v is h = rw h (record { stores = u; are = ap stores_in is })

  one_further : (k : ℕ) (g : Carried) (u v : State) (b : Best) → run_to w x k (state_of l none_yet) ≡ onward g u → iterate w g.tol g.best u ≡ onward b v
      → run_to w x (suc k) (state_of l none_yet) ≡ onward (record { tol = g.tol; best = b }) v
  unfolding run_to one_more ◌>>=◌ pure
  one_further k g u v b is q = ap (λ (o : Out Carried). next o (one_more w)) is ∙ ap (λ (o : Out Best). next o (λ c. pure (record { tol = g.tol; best = c }))) q

  completes-rest : (n k : ℕ) (g : Carried) (u : State) → run_to w x k (state_of l none_yet) ≡ onward g u → u.tally.done ≡ k → Meets (λ _ _. Unit {0}) CE (loop w g.tol n g.best u)
  unfolding loop answer
  completes-rest zero k g u is h = meets-look CE _ _ u (meets-stop CE _ _ u (completes-at k g u u is h))
  completes-rest (suc n) k g u is h =
      meets-bind CE (λ b v. (run_to w x (suc k) (state_of l none_yet) ≡ onward (record { tol = g.tol; best = b }) v) × (v.tally.done ≡ suc k)) _ _ _ u
      (by (iterate w g.tol g.best u) refl (done-iterate w k g.tol g.best u h)) λ b v y.
      completes-rest n (suc k) (record { tol = g.tol; best = b }) v y.0 y.1
    where
      by : (o : Out Best) → iterate w g.tol g.best u ≡ o → Meets (λ _ v. v.tally.done ≡ suc k) (λ _ v. v.tally.done ≡ k) o
          → Meets (λ b v. (run_to w x (suc k) (state_of l none_yet) ≡ onward (record { tol = g.tol; best = b }) v) × (v.tally.done ≡ suc k)) CE o
      by (onward b v) q m = goes (one_further k g u v b is q, m.held)
      by (ended e v) q m = ends (completes-at k g u v is m.held)

  -- THE EXPANSIONS THAT A RUN COUNTS it completes, if it comes to its first; by `counts_all` it completes no more
  pub completes-counted : (e : End) (t : State) → run w x l ≡ ended e t → Completes w x l 0 → Completes w x l t.tally.done
  unfolding run state_after ◌>>=◌ rest
  completes-counted e t q c =
      by (run_to w x 0 (state_of l none_yet)) refl (meets-run_to J nothing-kept w x (state_of l none_yet) (empty-lent l) tt 0 (omega arith)) c.are
      (sym (run-through w x 0 101 refl (state_of l none_yet)) ∙ q)
    where
      by : (o : Out Carried) → run_to w x 0 (state_of l none_yet) ≡ o
          → Meets (λ g v. Best-ready J nothing-kept (faces_at_start x) w 0 g.best v) (λ e v. Ended (faces_at_start x) e v × Unit {0}) o
          → stores_in o ≡ Some c.stores → next o (rest w 101) ≡ ended e t → Completes w x l t.tally.done
      by (ended y v) is m z p = let no : ◌≡◌ {A = ℕ} 0 1 = cc in absurd (omega arith)
      by (onward g v) is m z p = (rw p at (completes-rest 101 0 g v is m.held.ready.completed)).held
