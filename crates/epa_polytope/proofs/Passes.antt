-- A silhouette pass of a run: what the stores are before it, and what it leaves. Assumes nothing.
use mathlib.Core.Path.{◌≡◌, refl, subst}
use mathlib.Core.Bool.{Bool, true, false}
use Rattle.std.specs.Prelude.{Option, None, Some}
use Prim.Native.Nat.{ℕ, suc, ◌+◌, ◌-◌, ◌*◌, ◌%◌, ◌<◌, ◌≤◌, max}
use native.Mathlib.Omega.{arith}
use Rattle.heap.specs.declared.Entry.{Entry}
use Rattle.epa_polytope.specs.Silhouette.{with_missed, WalkAnswer, recorded_of}
use Rattle.epa_polytope.specs.PlainWalk.{Walking}
use Rattle.epa_polytope.specs.Start.{Walk, World}
use Rattle.epa_polytope.specs.Stores.{State, live_to, live, corner_at, room_for}
use Rattle.epa_polytope.specs.Steps.{End, ◌>>◌, pure, Found, converged, stuck, heap_empty, answer, made_of, three, push_face, Numbers}
use Rattle.epa_polytope.specs.Expansion.{Expansion, after_pass, passed_if, silhouette}
use Rattle.epa_polytope.specs.Bounds.{NeighboursIn}
use Rattle.epa_polytope.specs.Demand3.{Carried, Passing, up_to_pass_of, up_to_pass, stores_left, Joined, joined_at, up_to_queue}
use Rattle.epa_polytope.proofs.Walks.{asked_of, one_more}
use Rattle.epa_polytope.proofs.EitherWalk.{steady-here}
use Rattle.epa_polytope.proofs.Moves.{pass_from}
use Rattle.epa_polytope.proofs.Steps.{Meets, meets-ends, meets-bind, meets-then, meets-look, meets-pure, meets-stop, meets-do_if, meets-branch, meets-link, meets-face, meets-vertex}
use Rattle.epa_polytope.proofs.Growth.{Ready, Visited, Deleted, Growing, linked, grown, one_fewer, meets-delete}
use Rattle.epa_polytope.proofs.Iterations.{IsLive, meets-pop_live, visited}
use Rattle.epa_polytope.proofs.Start.{nothing-kept}
use Rattle.epa_polytope.specs.Stores.{the_edges}
use Rattle.epa_polytope.specs.Silhouette.{Ok, Err}

-- no fact besides is carried along
abbrev pub J : State → Type 0
J s = Unit {0}

-- ---- the silhouette passes

-- what a pass leaves: no face is made live, and at most three edges more are recorded than faces deleted
pub record Passed (s t : State) : Type 0 where
  pub none_live : live t ≤ live s
  pub three_more : t.tally.edges + live t ≤ live s + 3
  pub same_verts : t.tally.vertices ≡ s.tally.vertices
  pub same_made : t.tally.faces ≡ s.tally.faces
  pub same_queued : t.tally.heap ≡ s.tally.heap
  pub most_edges : t.tally.most ≡ max s.tally.most t.tally.edges
  pub few_missed : t.tally.missed + 2 * live t ≤ s.tally.missed + 3 + 2 * live s

-- of faces whose neighbours are faces
pub pass-law : (y : Walk) (w : Numbers) (p i : ℕ) (s : State) → NeighboursIn s.tally.faces s.tally.faces s.lists.face_ids → i < s.tally.faces
    → Passed s (stores_left (silhouette y w p i s))
unfolding silhouette
pass-law y w p i s a l =
    let n0 = s.tally.missed in
    let ids = s.lists.face_ids in
    let st = steady-here y w s p i a l in
    let few : (pass_from y w s p i).walk.missed + 2 * live_to s.tally.faces (pass_from y w s p i).walk.deleted ≤ s.tally.missed + 3 + 2 * live s =
    omega (arith, st.missed, one_more ids i 0 n0, one_more ids i 1 (with_missed ids i 0 n0), one_more ids i 2 (with_missed ids i 1 (with_missed ids i 0 n0))) in
    left (pass_from y w s p i).short (pass_from y w s p i) (pass_from y w s p i).walk.answer few st.fewer (omega (arith, st.few))
  where
    R : ℕ
    R = room_for the_edges s.lists

    by : (t : Walking) (n : ℕ) → t.walk.missed + 2 * live_to s.tally.faces t.walk.deleted ≤ s.tally.missed + 3 + 2 * live s → live_to s.tally.faces t.walk.deleted ≤ live s
        → n + live_to s.tally.faces t.walk.deleted ≤ live s + 3 → Passed s (after_pass s t n)
    by t n x f e = record { none_live = f; three_more = e; same_verts = refl; same_made = refl; same_queued = refl; most_edges = refl; few_missed = x }

    left : (b : Bool) (t : Walking) (a : WalkAnswer) → t.walk.missed + 2 * live_to s.tally.faces t.walk.deleted ≤ s.tally.missed + 3 + 2 * live s
        → live_to s.tally.faces t.walk.deleted ≤ live s → asked_of R a + live_to s.tally.faces t.walk.deleted ≤ live s + 3 → Passed s (stores_left (passed_if b a (after_pass s t (recorded_of R a))))
    left true t (Ok n) x f e = by t n x f e
    left true t (Err _) x f e = by t R x f (omega (arith, e))
    left false t (Ok n) x f e = by t n x f e
    left false t (Err _) x f e = by t R x f (omega (arith, e))

-- whatever ends the run
abbrev Ever : End → State → Type 0
Ever e t = Unit {0}

-- before its pass an expansion after k has popped and deleted its face, and pushed its vertex
abbrev pub Passable : ℕ → ℕ → Passing → State → Type 0
Passable f k p t = Deleted J f k p.expansion.point p.expansion.face t.tally.faces t

module _ (f : ℕ) (w : World) (k : ℕ) (l : k ≤ 100) where
  answers-ever : {A : Type 0} (Q : A → State → Type 0) (why : Found) (i : ℕ) (t : State) → Meets Q Ever (answer w.numbers why i t)
  unfolding answer
  answers-ever Q why i t = meets-look Ever Q _ t (meets-stop Ever Q _ t tt)

  meets-of : (g : Carried) (o : Option Entry) (t : State) → Ready J f k t → IsLive o t → Meets (λ p u. Passable f k p u) Ever (up_to_pass_of w g o t)
  meets-of g None t h a = answers-ever _ heap_empty _ t
  meets-of g (Some e) t h a =
      let T : State → Type 0 = λ u. Visited J f k t.tally.vertices e.face u in
      meets-look Ever _ _ t
      (meets-then Ever (λ _ u. T u) _ _ _ t (meets-vertex Ever _ _ t (λ _. tt) (λ room. visited J nothing-kept f w k t e.face _ l h a room)) λ _ t1 u1.
      meets-then Ever (λ _ u. T u) _ _ _ t1 (meets-do_if Ever _ _ _ t1 (λ _. answers-ever _ converged _ t1) (λ _. u1)) λ _ t2 u2.
      meets-then Ever (λ _ u. T u) _ _ _ t2 (meets-do_if Ever _ _ _ t2 (λ _. answers-ever _ stuck _ t2) (λ _. u2)) λ _ t3 u3.
      meets-then Ever (λ _ u. Deleted J f k t.tally.vertices e.face t3.tally.faces u) _ _ _ t3
      (meets-ends (λ _ _ _. tt) (meets-delete J nothing-kept f w.numbers k (record { face = e.face; dist = lib.Ieee.nan; point = t.tally.vertices; tol = g.tol }) e.face t3 u3)) λ _ t4 u4.
      meets-pure Ever _ _ t4 (record { stage = u4.stage; same = refl; sound = u4.sound; face_in = u4.face_in; less_live = u4.less_live; old_made = u4.old_made; clean = u4.clean }))

  pub meets-up_to_pass : (g : Carried) (s : State) → Ready J f k s → Meets (λ p u. Passable f k p u) Ever (up_to_pass w g s)
  unfolding up_to_pass
  meets-up_to_pass g s h =
      meets-look Ever _ _ s
      (meets-bind Ever (λ o t. Ready J f k t × IsLive o t × (t.tally.faces ≡ s.tally.faces)) _ _ _ s
      (meets-ends (λ _ _ _. tt) (meets-pop_live J nothing-kept f w k s.tally.heap s refl h)) λ o t p.
      meets-of g o t p.0 p.1)

-- ---- the new face of an edge, before it is queued

module _ (f : ℕ) (w : Numbers) (k : ℕ) (u : Expansion) (first all left : ℕ) where
  abbrev Gone : State → Type 0
  Gone t = Growing J f k u.point first all left t

  meets-joined_at : (s : State) (g c : ℕ) → g < first → c < 3 → Growing J f k u.point first all (suc left) s → Meets (λ _ t. Gone t) Ever (joined_at w u g c s)
  unfolding joined_at
  meets-joined_at s g c hg hc h =
      let K = nothing-kept in
      let n = s.tally.faces in
      let a = corner_at s g ((c + 2) % 3) in
      let b = corner_at s g ((c + 1) % 3) in
      let m = made_of w s a b u.point in
      let ain = h.corners_in.below g ((c + 2) % 3) (omega (arith, h.first_in)) (omega arith) in
      let bin = h.corners_in.below g ((c + 1) % 3) (omega (arith, h.first_in)) (omega arith) in
      let made = grown J K f w k u first all left s h g c a b m hg ain bin in
      meets-look Ever _ _ s
      (meets-then Ever (λ _ t. linked J K f w k u first all left s h g c a b m hg ain bin ≡ t) _ _ _ s
      (meets-link Ever _ g ((c + 1) % 3) n s refl)
      (λ _ t e. subst (λ (x : State). Meets {A = Joined} (λ _ t. Gone t) Ever (◌>>◌ (push_face (three a b u.point) (three g (n + 1) (n - 1)) m) (pure (record { face = n; queues = m.holds })) x)) e
      (meets-then Ever (λ _ t. Gone t) _ _ _ _
      (meets-face Ever (λ _ t. Gone t) (three a b u.point) (three g (n + 1) (n - 1)) m _ (λ _. tt) (λ room. (made room).0))
      (λ _ t y. meets-pure Ever _ _ t y))))

  pub meets-up_to_queue : (s : State) (i : ℕ) → i < all → Growing J f k u.point first all (suc left) s → Meets (λ _ t. Gone t) Ever (up_to_queue w u i s)
  unfolding up_to_queue
  meets-up_to_queue s i hi h =
      meets-look Ever _ _ s (meets-branch Ever _ _ _ _ s
      (λ _. meets-joined_at s _ _ (h.edges_in.faces i hi) (h.edges_in.corners i hi) h)
      (λ _. meets-pure Ever _ _ s (one_fewer J nothing-kept f w k u first all left s h)))
