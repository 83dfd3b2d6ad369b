-- The expansions, one after another: each keeps what every move keeps. Assumes nothing.
use mathlib.Core.Path.{◌≡◌, refl, ◌∙◌}
use mathlib.Core.Bool.{Bool, true, false, cond}
use Rattle.std.specs.Prelude.{Option, None, Some}
use Prim.Native.Nat.{ℕ, zero, suc, ◌+◌, ◌<◌, ◌≤◌}
use native.Mathlib.Omega.{arith}
use lib.ListN.{get_or}
use lib.Ieee.{Float, lt}
use Rattle.vector.specs.Vector.{dot_v}
use Rattle.shape.specs.declared.vertex.Vertex.{Vertex}
use borrow.Author.Tests.{eqb-true}
use Rattle.heap.specs.declared.Entry.{Entry}
use Rattle.heap.specs.Heap.{popped}
use Rattle.epa_polytope.specs.Start.{World, format_of}
use Rattle.epa_polytope.specs.Stores.{State, normal_at, room_for, the_vertices, heap_of}
use Rattle.epa_polytope.specs.Steps.{End, Found, ◌>>=◌, ◌>>◌, pure, look, put, answer_of, answer, converged, stuck, heap_empty, enough_expansions}
use Rattle.epa_polytope.specs.Run.{pop_entry, pop_live, Best, bettered, complete, visit, settle, visit_if, iterate, loop}
use Rattle.epa_polytope.specs.Bounds.{Good, Within, Tight, with_all, the_loop, under_way, under_way_found, FromPoint}
use Rattle.epa_polytope.proofs.Basics.{all-as, corners-as}
use Rattle.epa_polytope.proofs.Sizes.{bound-suc}
use Rattle.epa_polytope.proofs.Heaps.{good-popped}
use Rattle.epa_polytope.proofs.Growth.{Ready, Grown, Visited, Ending, end-answer, meets-expand}
use Rattle.epa_polytope.proofs.Moves.{Keeps, with_vertex, with_pop}
use Rattle.epa_polytope.proofs.Steps.{Meets, goes, meets-bind, meets-then, meets-look, meets-pure, meets-stop, meets-do_if, meets-branch, meets-vertex, meets-map}

-- an entry that was popped is of a live face
abbrev pub IsLive : Option Entry → State → Type 0
IsLive None s = Unit {0}
IsLive (Some e) s = (e.face < s.tally.faces) × (get_or s.lists.deleted e.face 1 ≡ 0)

module _ (J : State → Type 0) (K : Keeps J) (f : ℕ) (w : World) where
  abbrev E : End → State → Type 0
  E = Ending J the_loop f

  -- ---- pop

  pub popped-ready : (k n : ℕ) (s : State) → s.tally.heap ≡ suc n → Ready J f k s → Ready J f k (with_pop s n) × ((popped (heap_of s) n).count ≡ n)
  popped-ready k n s e h =
      let x = h.sound in
      let v = h.within in
      let g0 : Good s.tally.faces (n + 1) (heap_of s) = record { counts = omega arith; each = all-as _ _ _ s.tally.heap _ (omega arith) (omega arith) x.queue_in.each } in
      let g = good-popped s.tally.faces n (heap_of s) g0 in (
        record {
          sound = record { some = x.some; neighbours_in = x.neighbours_in; corners_in = x.corners_in; queue_in = record { counts = refl; each = rw g.counts g.each }; queue_few = omega (arith, g.counts, x.queue_few) };
          within = record { few_verts = v.few_verts; few_live = v.few_live; few_made = v.few_made; few_edges = v.few_edges; few_queued = omega (arith, g.counts, v.few_queued) };
          completed = h.completed;
          clean = h.clean;
          kept = K.on_pop s n e h.kept;
        },
        g.counts,
      )

  abbrev pub Popped : ℕ → ℕ → Entry → State → Type 0
  Popped k n e t = Ready J f k t × (t.tally.heap ≡ n) × (e.face < t.tally.faces)

  pub meets-pop_entry : (k n : ℕ) (s : State) → s.tally.heap ≡ suc n → Ready J f k s → Meets (λ e t. Popped k n e t × (t.tally.faces ≡ s.tally.faces)) E (pop_entry n s)
  unfolding pop_entry ◌>>=◌ ◌>>◌ look put pure
  meets-pop_entry k n s e h = let p = popped-ready k n s e h in goes ((p.0, p.1, h.sound.queue_in.each.below 0 (omega arith)), refl)

  pub meets-pop_live : (k n : ℕ) (s : State) → s.tally.heap ≡ n → Ready J f k s → Meets (λ o t. Ready J f k t × IsLive o t × (t.tally.faces ≡ s.tally.faces)) E (pop_live n s)
  unfolding pop_live
  meets-pop_live k zero s e h = meets-pure E _ None s (h, tt, refl)
  meets-pop_live k (suc n) s e h =
      meets-bind E (λ e t. Popped k n e t × (t.tally.faces ≡ s.tally.faces)) _ _ _ s (meets-pop_entry k n s e h) λ a t p.
      meets-look E _ _ t (meets-branch E _ _ _ _ t
      (λ z. meets-pure E _ (Some a) t (p.0.0, (p.0.2, eqb-true _ _ z), p.1))
      (λ _. meets-map E (λ o t' q. (q.0, q.1, q.2 ∙ p.1)) (meets-pop_live k n t p.0.1 p.0.0)))

  -- ---- a visit

  pub visited : (k : ℕ) (s : State) (i : ℕ) (p : Vertex) → k ≤ 100 → Ready J f k s → IsLive (Some (record { face = i; key = lib.Ieee.nan })) s → s.tally.vertices < room_for the_vertices s.lists
      → Visited J f k s.tally.vertices i (with_vertex s p)
  visited k s i p l h a room =
      let x = h.sound in
      let v = h.within in
      record {
        stage = record {
          completed = h.completed;
          early = l;
          within = record { few_verts = omega (arith, v.few_verts); few_live = omega (arith, v.few_live); few_made = omega (arith, v.few_made, bound-suc f k); few_edges = omega (arith, v.few_edges); few_queued = omega (arith, v.few_queued, bound-suc f k) };
          point_in = omega arith;
          kept = K.on_vertex s p room h.kept;
        };
        sound = record { some = x.some; neighbours_in = x.neighbours_in; corners_in = corners-as _ s.tally.vertices _ _ _ (omega arith) (omega arith) x.corners_in; queue_in = x.queue_in; queue_few = x.queue_few };
        face_in = a.0;
        face_live = a.1;
        old_live = v.few_live;
        old_made = v.few_made;
        clean = h.clean;
      }

  within-suc : (k : ℕ) (s : State) → Within f k s → Within f (suc k) s
  within-suc k s v = record { few_verts = omega (arith, v.few_verts); few_live = omega (arith, v.few_live); few_made = omega (arith, v.few_made, bound-suc f k); few_edges = omega (arith, v.few_edges); few_queued = omega (arith, v.few_queued, bound-suc f k) }

  pub better-in : (b : Best) (i n : ℕ) (c : Float) → b.face < n → i < n → (bettered b i c).face < n
  unfolding bettered
  better-in b i n c hb hi = by (lt c b.bound)
    where
      by : (y : Bool) → (cond y (record { face = i; bound = c; last = b.last }) b).face < n
      by true = hi
      by false = hb

  -- the best face is one that was made
  pub record Best-ready (k : ℕ) (b : Best) (s : State) : Type 0 where
    pub ready : Ready J f k s
    pub best_in : b.face < s.tally.faces

  -- the same, before the expansion is counted
  pub record Best-grown (k : ℕ) (b : Best) (s : State) : Type 0 where
    pub grown : Grown J f k s
    pub best_in : b.face < s.tally.faces

  pub meets-visit : (k : ℕ) (tol : Float) (b : Best) (e : Entry) (s : State) → k ≤ 100 → Best-ready k b s → IsLive (Some e) s
      → Meets (λ b1 t. Best-grown k b1 t) E (visit w tol b e s)
  unfolding visit settle
  meets-visit k tol b e s l hb a =
      let h = hb.ready in
      let n = s.tally.faces in
      let c = dot_v (format_of w) (w.supp (normal_at s e.face)).point (normal_at s e.face) in
      meets-look E _ _ s
      (meets-then E (λ _ t. Visited J f k s.tally.vertices e.face t × (t.tally.faces ≡ n)) _ _ _ s
      (meets-vertex E _ _ s
      (λ full. record {
        end = record { from = f; starting = with_all; expansions = suc k; at_most = omega arith; part = the_loop; counted = omega (arith, h.completed); completed = omega (arith, h.completed); within = within-suc k s h.within; tight = omega (arith, h.within.few_verts) };
        in_part = refl;
        kept = h.kept;
      })
      (λ room. (visited k s e.face _ l h a room, refl)))
      λ _ t u.
      meets-then E (λ _ t. Visited J f k s.tally.vertices e.face t × (t.tally.faces ≡ n)) _ _ _ t
      (meets-do_if E _ _ _ t (λ _. end-answer J K f w.numbers k (record { face = e.face; dist = lib.Ieee.nan; point = s.tally.vertices; tol = tol }) _ converged tt refl _ t u.0.stage) (λ _. u)) λ _ t1 u1.
      meets-then E (λ _ t. Visited J f k s.tally.vertices e.face t × (t.tally.faces ≡ n)) _ _ _ t1
      (meets-do_if E _ _ _ t1 (λ _. end-answer J K f w.numbers k (record { face = e.face; dist = lib.Ieee.nan; point = s.tally.vertices; tol = tol }) _ stuck tt refl _ t1 u1.0.stage) (λ _. u1)) λ _ t2 u2.
      meets-then E (λ _ t. Grown J f k t × (t2.tally.faces ≤ t.tally.faces)) _ _ _ t2
      (meets-expand J K f w.numbers k _ w.walk_by t2 u2.0) λ _ t3 u3.
      meets-pure E _ _ t3 (record { grown = u3.0; best_in = better-in b e.face t3.tally.faces c (omega (arith, hb.best_in, u2.1, u3.1)) (omega (arith, a.0, u2.1, u3.1)) }))

  -- ---- the loop

  end-ready : (k : ℕ) (e : End) (s : State) → k ≤ 101 → Ready J f k s → Tight f k s.lists e → under_way e ≡ 0 → E e s
  end-ready k e s l h t y = record {
    end = record { from = f; starting = with_all; expansions = k; at_most = l; part = the_loop; counted = omega (arith, h.completed); completed = omega (arith, h.completed); within = h.within; tight = t };
    in_part = refl;
    kept = h.kept;
  }

  answer-ready : {A : Type 0} (Q : A → State → Type 0) (k : ℕ) (why : Found) → FromPoint f why → under_way_found why ≡ 0 → (i : ℕ) (s : State) → k ≤ 101 → Ready J f k s → Meets Q E (answer w.numbers why i s)
  unfolding answer answer_of
  answer-ready Q k why y o i s l h = meets-look E Q _ s (meets-stop E Q _ s (end-ready k _ s l h y o))

  pub meets-visit_if : (k : ℕ) (tol : Float) (b : Best) (o : Option Entry) (s : State) → k ≤ 100 → Best-ready k b s → IsLive o s → Meets (λ b1 t. Best-grown k b1 t) E (visit_if w tol b o s)
  meets-visit_if k tol b None s l h a = answer-ready _ k heap_empty tt refl _ s (omega arith) h.ready
  meets-visit_if k tol b (Some e) s l h a = meets-visit k tol b e s l h a

  -- the expansion is counted
  pub meets-complete : (k : ℕ) (b : Best) (s : State) → Best-grown k b s → Meets (λ _ t. Best-ready (suc k) b t) E (complete s)
  unfolding complete ◌>>=◌ look put
  meets-complete k b s h =
      let g = h.grown in
      let x = g.sound in
      let v = g.within in
      goes (record {
        ready = record {
          sound = record { some = x.some; neighbours_in = x.neighbours_in; corners_in = x.corners_in; queue_in = x.queue_in; queue_few = x.queue_few };
          within = record { few_verts = v.few_verts; few_live = v.few_live; few_made = v.few_made; few_edges = v.few_edges; few_queued = v.few_queued };
          completed = omega (arith, g.completed);
          clean = g.clean;
          kept = K.on_complete s g.kept;
        };
        best_in = h.best_in;
      })

  pub meets-iterate : (k : ℕ) (tol : Float) (b : Best) (s : State) → k ≤ 100 → Best-ready k b s → Meets (λ b1 t. Best-ready (suc k) b1 t) E (iterate w tol b s)
  unfolding iterate
  meets-iterate k tol b s l h =
      meets-look E _ _ s
      (meets-bind E (λ o t. Ready J f k t × IsLive o t × (t.tally.faces ≡ s.tally.faces)) _ _ _ s (meets-pop_live k s.tally.heap s refl h.ready) λ o t p.
      meets-bind E (λ b1 t. Best-grown k b1 t) _ _ _ t (meets-visit_if k tol b o t l (record { ready = p.0; best_in = rw p.2 h.best_in }) p.1) λ b1 t1 h1.
      meets-then E (λ _ t. Best-ready (suc k) b1 t) _ _ _ t1 (meets-complete k b1 t1 h1) λ _ t2 h2.
      meets-pure E _ _ t2 h2)

  -- the loop ends the run
  pub meets-loop : (n k : ℕ) (tol : Float) (b : Best) (s : State) → k + n ≡ 101 → Best-ready k b s → Meets (λ _ t. ⊥) E (loop w tol n b s)
  unfolding loop
  meets-loop zero k tol b s l h = answer-ready _ k enough_expansions tt refl _ s (omega arith) h.ready
  meets-loop (suc n) k tol b s l h =
      meets-bind E (λ b1 t. Best-ready (suc k) b1 t) _ _ _ s (meets-iterate k tol b s (omega arith) h) λ b1 t h1.
      meets-loop n (suc k) tol b1 t (omega arith) h1
