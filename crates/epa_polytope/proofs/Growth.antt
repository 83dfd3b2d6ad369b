-- One expansion: the polytope stays sound, grows by no more than it may, and keeps what every move keeps. Assumes nothing.
use mathlib.Core.Path.{◌≡◌, refl, sym, ap, subst, ◌∙◌}
use mathlib.Core.Bool.{Bool, true, false, cond}
use mathlib.Core.List.{List}
use Prim.Native.Nat.{ℕ, zero, suc, ◌+◌, ◌-◌, ◌*◌, ◌/◌, ◌%◌, ◌<◌, ◌≤◌}
use native.Mathlib.Omega.{arith}
use native.Mathlib.Decide.{ℕ_discrete, dec_le}
use lib.ListN.{get_or, length}
use lib.Seq.{get_or-set_other}
use borrow.Author.Tests.{eqb-false}
use Rattle.heap.specs.declared.Entry.{Entry}
use Rattle.epa_polytope.specs.Silhouette.{WalkAnswer, Ok, Err, facing, recorded_of}
use Rattle.epa_polytope.specs.PlainWalk.{Walking}
use Rattle.epa_polytope.specs.Start.{Walk}
use Rattle.epa_polytope.specs.Stores.{State, the_edges, the_pending, live, corner_at, Made, room_for, the_faces, neighbour_in, linked_in, the_heap, heap_of}
use Rattle.epa_polytope.specs.Steps.{End, no_room, key_later, Found, new_face_nearer, ◌>>=◌, ◌>>◌, Nil, look, put, do_if, push_face, answer_of, answer, made_of, three, Numbers}
use Rattle.epa_polytope.specs.Expansion.{delete, mesh_of, before_pass, after_pass, passed_if, passed, silhouette, link, Expansion, queue_new, grow_at, grow, grow_all, clear_edges, expand, regrow, close_ring}
use Rattle.epa_polytope.specs.Bounds.{Good, Sound, bound, Within, Tight, with_all, Part, the_loop, under_way, under_way_found, Ended, FromPoint, CornersIn, NeighboursIn}
use Rattle.epa_polytope.proofs.Basics.{at_set, in-set, all-as, EdgesIn, corners-linked, neighbours-linked, neighbours-as, corners-put, neighbours-put, but-second, live-delete, live-push}
use Rattle.epa_polytope.proofs.Sizes.{bound-suc}
use Rattle.epa_polytope.proofs.Heaps.{good-pushed}
use Rattle.epa_polytope.proofs.Walks.{asked_of, Recorded}
use Rattle.epa_polytope.proofs.PlainPasses.{Steady}
use Rattle.epa_polytope.proofs.EitherWalk.{steady-here, none_left}
use Rattle.epa_polytope.proofs.Moves.{Keeps, pass_from, with_link, with_face, with_entry}
use Rattle.epa_polytope.proofs.Steps.{Meets, goes, ends, meets-then, meets-look, meets-ok, meets-stop, meets-stop_if, meets-do_if, meets-link, meets-face, meets-queue, meets-branch, meets-map}

module _ (J : State → Type 0) where
  -- ---- what is known at each stage of the expansion after k, from f faces

  -- between two expansions
  pub record Ready (f k : ℕ) (s : State) : Type 0 where
    pub sound : Sound s
    pub within : Within f k s
    pub completed : s.tally.done ≡ k
    pub clean : (s.tally.edges ≡ 0) × (s.tally.pending ≡ 0)
    pub kept : J s

  -- the new faces are linked, and the edges cleared; the expansion is not counted yet
  pub record Grown (f k : ℕ) (s : State) : Type 0 where
    pub sound : Sound s
    pub within : Within f (suc k) s
    pub completed : s.tally.done ≡ k
    pub clean : (s.tally.edges ≡ 0) × (s.tally.pending ≡ 0)
    pub kept : J s

  -- what every stage has
  pub record Stage (f k p : ℕ) (s : State) : Type 0 where
    pub completed : s.tally.done ≡ k
    pub early : k ≤ 100
    pub within : Within f (suc k) s
    pub point_in : p < s.tally.vertices
    pub kept : J s

  -- the face i is popped, and the vertex p is new
  pub record Visited (f k p i : ℕ) (s : State) : Type 0 where
    pub stage : Stage f k p s
    pub sound : Sound s
    pub face_in : i < s.tally.faces
    pub face_live : get_or s.lists.deleted i 1 ≡ 0
    pub old_live : live s ≤ f + 2 * k
    pub old_made : s.tally.faces ≤ bound f k
    pub clean : (s.tally.edges ≡ 0) × (s.tally.pending ≡ 0)

  -- the face i is deleted
  pub record Deleted (f k p i n : ℕ) (s : State) : Type 0 where
    pub stage : Stage f k p s
    pub same : s.tally.faces ≡ n
    pub sound : Sound s
    pub face_in : i < s.tally.faces
    pub less_live : suc (live s) ≤ f + 2 * k
    pub old_made : s.tally.faces ≤ bound f k
    pub clean : (s.tally.edges ≡ 0) × (s.tally.pending ≡ 0)

  -- n edges are recorded
  pub record Lined (f k p n : ℕ) (s : State) : Type 0 where
    pub stage : Stage f k p s
    pub same : s.tally.faces ≡ n
    pub sound : Sound s
    pub edges_in : EdgesIn s.tally.faces s.tally.edges s.lists.edges
    pub none_pending : s.tally.pending ≡ 0
    pub room_live : live s + s.tally.edges ≤ f + 2 * suc k
    pub room_made : s.tally.faces + s.tally.edges ≤ bound f (suc k)

  -- of all edges some are left; the last neighbour but one of the last face may be a face to come
  pub record Growing (f k p first all left : ℕ) (s : State) : Type 0 where
    pub stage : Stage f k p s
    pub some : 0 < first
    pub first_in : first ≤ s.tally.faces
    pub corners_in : CornersIn s.tally.vertices s.tally.faces s.lists.face_ids
    pub nearly : NeighboursIn (s.tally.faces + 1) s.tally.faces s.lists.face_ids
    pub but_last : (i k : ℕ) → i < s.tally.faces → k < 3 → (i ≡ s.tally.faces - 1 → k ≡ 1 → ⊥) → neighbour_in s.lists.face_ids i k < s.tally.faces
    pub queue_in : Good s.tally.faces s.tally.heap (heap_of s)
    pub queue_few : s.tally.heap ≤ s.tally.faces
    pub edges_in : EdgesIn first all s.lists.edges
    pub none_pending : s.tally.pending ≡ 0
    pub all_in : all ≤ s.tally.edges
    pub room_live : live s + left ≤ f + 2 * suc k
    pub room_made : s.tally.faces + left ≤ bound f (suc k)

  -- a run's end in the part q, from f faces
  pub record Ending (q : Part) (f : ℕ) (e : End) (s : State) : Type 0 where
    pub end : Ended f e s
    pub in_part : end.part ≡ q
    pub kept : J s

  module _ (K : Keeps J) (f : ℕ) (w : Numbers) (k : ℕ) where
    abbrev E : End → State → Type 0
    E = Ending the_loop f

    module _ (u : Expansion) where
      -- the run may end at any stage
      pub end-stage : (e : End) (s : State) → Stage f k u.point s → Tight f (suc k) s.lists e → under_way e ≡ 1 → E e s
      end-stage e s g t y = record {
        end = record { from = f; starting = with_all; expansions = suc k; at_most = omega arith; part = the_loop; counted = omega (arith, g.completed); completed = omega (arith, g.completed); within = g.within; tight = t };
        in_part = refl;
        kept = g.kept;
      }

      pub end-answer : {A : Type 0} (Q : A → State → Type 0) (why : Found) → FromPoint f why → under_way_found why ≡ 1 → (i : ℕ) (s : State) → Stage f k u.point s → Meets Q E (answer w why i s)
      unfolding answer answer_of
      end-answer Q why y o i s g = meets-look E Q _ s (meets-stop E Q _ s (end-stage _ s g y o))

      -- ---- delete

      pub meets-delete : (i : ℕ) (s : State) → Visited f k u.point i s → Meets (λ _ t. Deleted f k u.point i s.tally.faces t) E (delete i s)
      unfolding delete ◌>>=◌ look put
      meets-delete i s h =
          let d = live-delete s.tally.faces s.lists.deleted i h.face_in h.face_live in
          let g = h.stage in
          let v = g.within in
          let x = h.sound in
          goes (record {
            stage = record {
              completed = g.completed;
              early = g.early;
              within = record { few_verts = v.few_verts; few_live = omega arith; few_made = v.few_made; few_edges = v.few_edges; few_queued = v.few_queued };
              point_in = g.point_in;
              kept = K.on_delete s i h.face_in g.kept;
            };
            sound = record { some = x.some; neighbours_in = x.neighbours_in; corners_in = x.corners_in; queue_in = x.queue_in; queue_few = x.queue_few };
            same = refl;
            face_in = h.face_in;
            less_live = omega (arith, h.old_live);
            old_made = h.old_made;
            clean = h.clean;
          })

      -- ---- the silhouette

      -- a pass by either walk, over the pending list as it is
      abbrev passes : Walk → State → ℕ → Walking
      passes y s i = pass_from y w s u.point i

      abbrev Kept : State → ℕ → Walking → Type 0
      Kept s i t = Steady s.tally.faces (before_pass s i).walk s.lists.pending (live s + 3) 0 t

      passed-stage : (s : State) (t : Walking) (i n e : ℕ) → Deleted f k u.point i n s → Kept s i t → e ≤ live s + 3 → J (after_pass s t e) → Stage f k u.point (after_pass s t e)
      passed-stage s t i n e h st few j =
          let g = h.stage in
          let v = g.within in
          record {
            completed = g.completed;
            early = g.early;
            within = record { few_verts = v.few_verts; few_live = omega (arith, h.less_live, st.fewer); few_made = v.few_made; few_edges = omega (arith, h.less_live, v.few_edges); few_queued = v.few_queued };
            point_in = g.point_in;
            kept = j;
          }

      -- no place for a question: there are fewer than the questions that could come
      short-of : (s : State) (t : Walking) (i n : ℕ) → Deleted f k u.point i n s → Kept s i t → t.short ≡ true → length s.lists.pending / 2 < f + 2 * suc k
      short-of s t i n h st e = by (dec_le (live s + 3) (length s.lists.pending / 2))
        where
          by : Dec (live s + 3 ≤ length s.lists.pending / 2) → length s.lists.pending / 2 < f + 2 * suc k
          by (yes l) = let z : ◌≡◌ {A = ℕ} 1 0 = ap (λ (b : Bool). cond b 1 0) (sym e ∙ st.roomy l) in let no : ⊥ = omega arith in absurd no
          by (no l) = below h.less_live l
            where
              below : suc (live s) ≤ f + 2 * k → (live s + 3 ≤ length s.lists.pending / 2 → ⊥) → length s.lists.pending / 2 < f + 2 * suc k
              below a l = omega arith

      meets-passed : (s : State) (t : Walking) (i n : ℕ) → Deleted f k u.point i n s → Kept s i t → ((e : ℕ) → t.short ≡ false → t.walk.answer ≡ Ok e → t.held ≡ 0)
          → J (after_pass s t (recorded_of (room_for the_edges s.lists) t.walk.answer)) → Meets (λ _ t. Lined f k u.point n t) E (passed s t)
      meets-passed s t i n h st left j = by t.short t.walk.answer refl refl j
        where
          R : ℕ
          R = room_for the_edges s.lists

          by : (b : Bool) (a : WalkAnswer) → t.short ≡ b → t.walk.answer ≡ a → J (after_pass s t (recorded_of R a)) → Meets (λ _ t. Lined f k u.point n t) E (passed_if b a (after_pass s t (recorded_of R a)))
          by false (Ok e) eb ea j =
              let x = h.sound in
              let few = ap (asked_of R) ea in
              goes (record {
                stage = passed-stage s t i n e h st (omega (arith, st.few, few)) j;
                sound = record { some = x.some; neighbours_in = x.neighbours_in; corners_in = x.corners_in; queue_in = x.queue_in; queue_few = x.queue_few };
                same = h.same;
                edges_in = subst (λ (a : WalkAnswer). Recorded s.tally.faces t.walk a) ea st.recorded;
                none_pending = left e eb ea;
                room_live = omega (arith, h.less_live, st.few, few);
                room_made = omega (arith, h.less_live, h.old_made, bound-suc f k, st.few, few);
              })
          by false (Err _) eb ea j =
              let few = ap (asked_of R) ea in
              ends (end-stage (no_room the_edges) (after_pass s t R) (passed-stage s t i n R h st (omega (arith, st.few, few)) j) (rw st.reached.same_room (omega (arith, h.less_live, st.few, few))) refl)
          by true (Ok e) eb ea j =
              let few = ap (asked_of R) ea in
              ends (end-stage (no_room the_pending) (after_pass s t e) (passed-stage s t i n e h st (omega (arith, st.few, few)) j) (rw st.places (short-of s t i n h st eb)) refl)
          by true (Err _) eb ea j =
              let few = ap (asked_of R) ea in
              ends (end-stage (no_room the_pending) (after_pass s t R) (passed-stage s t i n R h st (omega (arith, st.few, few)) j) (rw st.places (short-of s t i n h st eb)) refl)

      pub meets-silhouette : (y : Walk) (i n : ℕ) (s : State) → Deleted f k u.point i n s → Meets (λ _ t. Lined f k u.point n t) E (silhouette y w u.point i s)
      unfolding silhouette
      meets-silhouette y i n s h =
          let ids = s.lists.face_ids in
          meets-passed s (passes y s i) i n h (steady-here y w s u.point i h.sound.neighbours_in h.face_in)
          (λ e eb ea. none_left y (mesh_of w s.lists u.point) (before_pass s i).walk s.lists.pending (facing ids i 0) (facing ids i 1) (facing ids i 2) eb ea)
          (K.on_pass y w s u.point i h.sound.neighbours_in h.face_in h.clean h.stage.kept)

      module _ (first all : ℕ) where
        -- ---- a new face

        -- the state with one more face, of n
        module _ (left : ℕ) (s : State) (h : Growing f k u.point first all (suc left) s) (g c a b : ℕ) (m : Made) (gin : g < first) (ain : a < s.tally.vertices) (bin : b < s.tally.vertices) where
          abbrev pub linked : State
          linked = with_link s g ((c + 1) % 3) s.tally.faces

          abbrev pub more : State
          more = with_face linked (three a b u.point) (three g (s.tally.faces + 1) (s.tally.faces - 1)) m

          stage-linked : Stage f k u.point linked
          stage-linked =
              let x = h.stage in
              let v = x.within in
              record { completed = x.completed; early = x.early; within = record { few_verts = v.few_verts; few_live = v.few_live; few_made = v.few_made; few_edges = v.few_edges; few_queued = v.few_queued }; point_in = x.point_in; kept = K.on_link s g ((c + 1) % 3) s.tally.faces (omega (arith, h.first_in)) (omega arith) x.kept }

          nearly-linked : NeighboursIn (s.tally.faces + 1) s.tally.faces linked.lists.face_ids
          nearly-linked = neighbours-linked s.lists.face_ids g ((c + 1) % 3) s.tally.faces _ _ (omega arith) h.nearly

          pub grown : s.tally.faces < room_for the_faces linked.lists → Growing f k u.point first all left more × (more.tally.heap < more.tally.faces)
          grown room =
              let n = s.tally.faces in
              let x = h.stage in
              let v = x.within in
              let l = live-push n s.lists.deleted in
              let corners = three a b u.point in
              let neighbours = three g (n + 1) (n - 1) in (
                record {
                  stage = record {
                    completed = x.completed;
                    early = x.early;
                    within = record { few_verts = v.few_verts; few_live = omega (arith, h.room_live); few_made = omega (arith, h.room_made); few_edges = v.few_edges; few_queued = v.few_queued };
                    point_in = x.point_in;
                    kept = K.on_face linked corners neighbours m room stage-linked.kept;
                  };
                  some = h.some;
                  first_in = omega (arith, h.first_in);
                  corners_in = corners-put linked.lists.face_ids s.tally.vertices n corners neighbours (record { a = ain; b = bin; c = x.point_in }) (corners-linked s.lists.face_ids g ((c + 1) % 3) n s.tally.vertices n (omega arith) h.corners_in);
                  nearly = neighbours-as _ (n + 2) (n + 1 + 1) (n + 1) (n + 1) (omega arith) (omega arith)
                      (neighbours-put linked.lists.face_ids (n + 2) n corners neighbours (record { a = omega (arith, h.first_in); b = omega arith; c = omega arith }) (neighbours-as _ (n + 1) (n + 2) n n (omega arith) (omega arith) nearly-linked));
                  but_last = λ i y hi hy e. but-second linked.lists.face_ids (n + 1) n corners neighbours (omega (arith, h.first_in)) (omega arith) nearly-linked i y hi hy (λ p q. e (omega arith) q);
                  queue_in = record { counts = refl; each = all-as _ n (n + 1) _ _ (omega arith) (omega arith) h.queue_in.each };
                  queue_few = omega (arith, h.queue_few);
                  edges_in = h.edges_in;
                  none_pending = h.none_pending;
                  all_in = h.all_in;
                  room_live = omega (arith, h.room_live);
                  room_made = omega (arith, h.room_made);
                },
                omega (arith, h.queue_few),
              )

        -- ---- it is queued

        pub queued : (left : ℕ) (s : State) (e : Entry) → e.face < s.tally.faces → Growing f k u.point first all left s → s.tally.heap < s.tally.faces → s.tally.heap < room_for the_heap s.lists
            → Growing f k u.point first all left (with_entry s e)
        queued left s e hi h q room =
            let x = h.stage in
            let v = x.within in
            let gp = good-pushed s.tally.faces s.tally.heap (heap_of s) e hi h.queue_in in
            record {
              stage = record {
                completed = x.completed;
                early = x.early;
                within = record { few_verts = v.few_verts; few_live = v.few_live; few_made = v.few_made; few_edges = v.few_edges; few_queued = omega (arith, gp.counts, h.room_made) };
                point_in = x.point_in;
                kept = K.on_queue s e room q x.kept;
              };
              some = h.some;
              first_in = h.first_in;
              corners_in = h.corners_in;
              nearly = h.nearly;
              but_last = h.but_last;
              queue_in = record { counts = refl; each = rw gp.counts gp.each };
              queue_few = omega (arith, gp.counts);
              edges_in = h.edges_in;
              none_pending = h.none_pending;
              all_in = h.all_in;
              room_live = h.room_live;
              room_made = h.room_made;
            }

        meets-queue_new : (left : ℕ) (s : State) (i : ℕ) → i < s.tally.faces → Growing f k u.point first all left s → s.tally.heap < s.tally.faces
            → Meets (λ _ t. Growing f k u.point first all left t) E (queue_new w u i s)
        unfolding queue_new
        meets-queue_new left s i hi h q =
            meets-look E _ _ s (meets-branch E _ _ _ _ s
            (λ _. end-answer _ new_face_nearer tt refl u.face s h.stage)
            (λ _. meets-queue E _ key_later u.tol i _ s
            (end-stage _ s h.stage tt refl)
            (λ full. end-stage _ s h.stage (omega (arith, h.room_made)) refl)
            (λ room. queued left s _ hi h q room)))

        abbrev Joined : ℕ → ℕ → Nil → State → Type 0
        Joined left n x t = Growing f k u.point first all left t × (t.tally.heap < t.tally.faces) × (n < t.tally.faces)

        more-than : (n : ℕ) → n < n + 1
        more-than n = omega arith

        -- ---- the new face of an edge

        pub meets-grow_at : (left : ℕ) (s : State) (g c : ℕ) → g < first → c < 3 → Growing f k u.point first all (suc left) s
            → Meets (λ _ t. Growing f k u.point first all left t) E (grow_at w u g c s)
        unfolding grow_at
        meets-grow_at left s g c hg hc h =
            let n = s.tally.faces in
            let a = corner_at s g ((c + 2) % 3) in
            let b = corner_at s g ((c + 1) % 3) in
            let m = made_of w s a b u.point in
            let ain = h.corners_in.below g ((c + 2) % 3) (omega (arith, h.first_in)) (omega arith) in
            let bin = h.corners_in.below g ((c + 1) % 3) (omega (arith, h.first_in)) (omega arith) in
            meets-look E _ _ s
            (meets-then E (λ _ t. linked left s h g c a b m hg ain bin ≡ t) _ _ _ s
            (meets-link E _ g ((c + 1) % 3) n s refl)
            (λ _ t e. subst (λ (x : State). Meets (λ _ t. Growing f k u.point first all left t) E (◌>>◌ (push_face (three a b u.point) (three g (n + 1) (n - 1)) m) (do_if m.holds (queue_new w u n)) x)) e
            (meets-then E (Joined left n) _ _ _ _
            (meets-face E (Joined left n) (three a b u.point) (three g (n + 1) (n - 1)) m _
            (λ full. end-stage _ _ (stage-linked left s h g c a b m hg ain bin) (omega (arith, h.room_made)) refl)
            (λ room. let gr = grown left s h g c a b m hg ain bin room in (gr.0, gr.1, more-than n)))
            (λ _ t e. meets-do_if E _ m.holds (queue_new w u n) t
            (λ _. meets-queue_new left t n e.2 e.0 e.1)
            (λ _. e.0)))))

        -- an edge is done with
        pub one_fewer : (left : ℕ) (s : State) → Growing f k u.point first all (suc left) s → Growing f k u.point first all left s
        one_fewer left s h = record {
          stage = h.stage;
          some = h.some;
          first_in = h.first_in;
          corners_in = h.corners_in;
          nearly = h.nearly;
          but_last = h.but_last;
          queue_in = h.queue_in;
          queue_few = h.queue_few;
          edges_in = h.edges_in;
          none_pending = h.none_pending;
          all_in = h.all_in;
          room_live = omega (arith, h.room_live);
          room_made = omega (arith, h.room_made);
        }

        pub meets-grow : (left : ℕ) (s : State) (i : ℕ) → i < all → Growing f k u.point first all (suc left) s
            → Meets (λ _ t. Growing f k u.point first all left t) E (grow w u i s)
        unfolding grow
        meets-grow left s i hi h =
            meets-look E _ _ s (meets-do_if E _ _ _ s
            (λ _. meets-grow_at left s _ _ (h.edges_in.faces i hi) (h.edges_in.corners i hi) h)
            (λ _. one_fewer left s h))

        -- the new faces of n edges, of all that are left
        pub meets-grow_all : (n left all_left : ℕ) (s : State) (i : ℕ) → i + all_left ≡ all → all_left ≡ n + left → Growing f k u.point first all all_left s
            → Meets (λ _ t. Growing f k u.point first all left t) E (grow_all w u n i s)
        unfolding grow_all
        meets-grow_all zero left all_left s i e m h =
            let q : all_left ≡ left = omega arith in
            meets-ok E _ s (rw q at h)
        meets-grow_all (suc n) left all_left s i e m h =
            let q : all_left ≡ suc (n + left) = omega arith in
            meets-then E (λ _ t. Growing f k u.point first all (n + left) t) _ _ _ s
            (meets-grow (n + left) s i (omega arith) (rw q at h))
            (λ _ t h'. meets-grow_all n left (n + left) t (i + 1) (omega arith) refl h')

        -- ---- the ring of new faces is closed

        closed : (s : State) → first < s.tally.faces → Growing f k u.point first all 0 s
            → NeighboursIn s.tally.faces s.tally.faces (linked_in (linked_in s.lists.face_ids first 2 (s.tally.faces - 1)) (s.tally.faces - 1) 1 first)
        closed s l h = record { below = λ i y hi hy. by i y hi hy (ℕ_discrete i (s.tally.faces - 1)) (ℕ_discrete y 1) }
          where
            n : ℕ
            n = s.tally.faces

            ids : List ℕ
            ids = linked_in s.lists.face_ids first 2 (s.tally.faces - 1)

            old : (i y : ℕ) → i < s.tally.faces → y < 3 → (i ≡ s.tally.faces - 1 → y ≡ 1 → ⊥) → neighbour_in (linked_in ids (s.tally.faces - 1) 1 first) i y < s.tally.faces
            old i y hi hy e =
                rw (get_or-set_other ids ((s.tally.faces - 1) * 6 + (3 + 1)) (i * 6 + (3 + y)) first 0 (λ z. e (omega arith) (omega arith)))
                (in-set s.lists.face_ids (first * 6 + (3 + 2)) (s.tally.faces - 1) (i * 6 + (3 + y)) s.tally.faces (omega arith) (h.but_last i y hi hy e))

            by : (i y : ℕ) → i < s.tally.faces → y < 3 → Dec (i ≡ s.tally.faces - 1) → Dec (y ≡ 1) → neighbour_in (linked_in ids (s.tally.faces - 1) 1 first) i y < s.tally.faces
            by i y hi hy (yes e) (yes d) = rw (e, d) (at_set ids ((s.tally.faces - 1) * 6 + (3 + 1)) first s.tally.faces l)
            by i y hi hy (no e) d = old i y hi hy (λ z _. e z)
            by i y hi hy (yes e) (no d) = old i y hi hy (λ _ z. d z)

        pub meets-close : (s : State) → first < s.tally.faces → Growing f k u.point first all 0 s
            → Meets (λ _ t. Grown f k t × (first ≤ t.tally.faces)) E (◌>>◌ (link first 2 (s.tally.faces - 1)) (◌>>◌ (link (s.tally.faces - 1) 1 first) clear_edges) s)
        unfolding link clear_edges ◌>>=◌ ◌>>◌ look put
        meets-close s l h =
            let x = h.stage in
            let v = x.within in
            goes (
              record {
                sound = record { some = omega arith; neighbours_in = closed s l h; corners_in = corners-linked _ (s.tally.faces - 1) 1 first _ _ (omega arith) (corners-linked s.lists.face_ids first 2 (s.tally.faces - 1) _ _ (omega arith) h.corners_in); queue_in = h.queue_in; queue_few = h.queue_few };
                within = record { few_verts = v.few_verts; few_live = v.few_live; few_made = v.few_made; few_edges = v.few_edges; few_queued = v.few_queued };
                completed = x.completed;
                clean = (refl, h.none_pending);
                kept = K.on_clear _ (K.on_link _ (s.tally.faces - 1) 1 first (omega arith) (omega arith) (K.on_link s first 2 (s.tally.faces - 1) l (omega arith) x.kept));
              },
              omega arith,
            )

      -- ---- the expansion

      pub growing : (n : ℕ) (s : State) → Lined f k u.point n s → Growing f k u.point s.tally.faces s.tally.edges s.tally.edges s
      growing n s h =
          let x = h.sound in
          record {
            stage = h.stage;
            some = x.some;
            first_in = omega arith;
            corners_in = x.corners_in;
            nearly = neighbours-as _ s.tally.faces _ _ _ (omega arith) (omega arith) x.neighbours_in;
            but_last = λ i y hi hy e. x.neighbours_in.below i y hi hy;
            queue_in = x.queue_in;
            queue_few = x.queue_few;
            edges_in = h.edges_in;
            none_pending = h.none_pending;
            all_in = omega arith;
            room_live = h.room_live;
            room_made = h.room_made;
          }

      pub newer : (n first : ℕ) → first ≤ n → (n ≡ first → ⊥) → first < n
      newer n first l e = omega arith

      pub meets-expand : (y : Walk) (s : State) → Visited f k u.point u.face s → Meets (λ _ t. Grown f k t × (s.tally.faces ≤ t.tally.faces)) E (expand y w u s)
      unfolding expand regrow close_ring
      meets-expand y s h =
          meets-then E (λ _ t. Deleted f k u.point u.face s.tally.faces t) _ _ _ s (meets-delete u.face s h) λ _ s1 h1.
          meets-then E (λ _ t. Lined f k u.point s.tally.faces t) _ _ _ s1 (meets-silhouette y u.face s.tally.faces s1 h1) λ _ s2 h2.
          meets-look E _ _ s2
          (meets-then E (λ _ t. Growing f k u.point s2.tally.faces s2.tally.edges s2.tally.edges t) _ _ _ s2
          (meets-stop_if E _ _ _ s2 (λ _. end-stage _ s2 h2.stage tt refl) (λ _. growing s.tally.faces s2 h2)) λ _ s3 h3.
          meets-then E (λ _ t. Growing f k u.point s2.tally.faces s2.tally.edges 0 t) _ _ _ s3
          (meets-grow_all s2.tally.faces s2.tally.edges s2.tally.edges 0 s2.tally.edges s3 0 (omega arith) (omega arith) h3) λ _ s4 h4.
          meets-look E _ _ s4
          (meets-then E (λ _ t. (s4 ≡ t) × (s2.tally.faces < s4.tally.faces)) _ _ _ s4
          (meets-stop_if E _ _ _ s4 (λ _. end-stage _ s4 h4.stage tt refl) (λ e. (refl, newer s4.tally.faces s2.tally.faces h4.first_in (eqb-false _ _ e)))) λ _ s5 h5.
          subst (λ (x : State). Meets (λ _ t. Grown f k t × (s.tally.faces ≤ t.tally.faces)) E (◌>>◌ (link s2.tally.faces 2 (s4.tally.faces - 1)) (◌>>◌ (link (s4.tally.faces - 1) 1 s2.tally.faces) clear_edges) x)) h5.0
          (meets-map E (λ _ t c. (c.0, omega (arith, h2.same, c.1))) (meets-close s2.tally.faces s2.tally.edges s4 h5.1 h4))))
