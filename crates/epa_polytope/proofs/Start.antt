-- The start, and the whole run: demand 3, with what every move keeps. Assumes nothing.
use mathlib.Core.Path.{◌≡◌, refl, sym, subst}
use mathlib.Core.Bool.{Bool, true, false, cond, not, ◌&&◌}
use Rattle.std.specs.Prelude.{Option, None, Some}
use Prim.Native.Nat.{ℕ, zero, suc, ◌+◌, ◌<◌, ◌≤◌}
use native.Mathlib.Omega.{arith}
use lib.Dec.{eqb}
use lib.Ieee.{Float}
use borrow.Author.Tests.{eqb-true, eqb-false, leb-true, not-false}
use Rattle.shape.specs.declared.vertex.Vertex.{Vertex}
use Rattle.heap.specs.declared.Entry.{Entry}
use Rattle.epa_polytope.specs.Start.{World, VoronoiSimplex, push_points, first_far, second, bootstrap, queue_start, start_four, four_faces, queue_four, third, two_faces, start_two, start_vertices, start_faces, begin, exchange}
use Rattle.epa_polytope.specs.Stores.{State, the_vertices, the_faces, the_heap, live_to, live, vertex_at, Made, Lists, state_of, heap_of, none_yet}
use Rattle.epa_polytope.specs.Steps.{End, key_at_start, Out, onward, ended, Over, three, enqueue, push_vertex, Numbers, queue_face, push_face}
use Rattle.epa_polytope.specs.Run.{epa, run}
use Rattle.epa_polytope.specs.Bounds.{Good, Within, Tight, without, with_all, Part, the_start, the_loop, Ended, Ends, faces_at_start, NeighboursIn, CornersIn}
use Rattle.epa_polytope.specs.Stores.{room_for}
use Rattle.epa_polytope.specs.Demand3.{Carried, opened, run_to, rest, one_more}
use Rattle.epa_polytope.proofs.Stages.{run-through}
use Rattle.epa_polytope.proofs.Basics.{all_none, live-push, no-neighbours, no-corners, neighbours-put, corners-put}
use Rattle.epa_polytope.proofs.Sizes.{bound-zero}
use Rattle.epa_polytope.proofs.Heaps.{good-pushed}
use Rattle.epa_polytope.proofs.Growth.{Ready, Ending}
use Rattle.epa_polytope.proofs.Moves.{Keeps, with_vertex, with_exchange, with_entry, with_face}
use Rattle.epa_polytope.proofs.Iterations.{Best-ready, meets-iterate, meets-loop}
use Rattle.simplex.specs.Simplex.{is_simplex}
use Rattle.epa_polytope.proofs.Ways.{peek-finds}
use Rattle.epa_polytope.proofs.Steps.{Meets, meets-ends, meets-bind, meets-then, meets-look, meets-put, meets-pure, meets-ok, meets-stop, meets-stop_if, meets-do_if, meets-branch, meets-face, meets-enqueue, meets-queue, meets-vertex, meets-map, meets-both}

-- the stores with no entries
pub record Empty (s : State) : Type 0 where
  pub no_verts : s.tally.vertices ≡ 0
  pub no_faces : s.tally.faces ≡ 0
  pub clean : (s.tally.edges ≡ 0) × (s.tally.pending ≡ 0)
  pub no_queue : s.tally.heap ≡ 0
  pub no_done : s.tally.done ≡ 0
  pub no_most : s.tally.most ≡ 0

pub starts : (b : Bool) → b ≡ true → ◌≡◌ {A = ℕ} (cond b 4 2) 4
starts b e = rw e

pub starts-two : (b : Bool) → b ≡ false → ◌≡◌ {A = ℕ} (cond b 4 2) 2
starts-two b e = rw e

-- a simplex has dimension 3 at most
pub low-dimension : (x : VoronoiSimplex) → is_simplex x ≡ true → x.dim ≤ 3
unfolding is_simplex
low-dimension x e = leb-true x.dim 3 (and_left _ _ (and_left _ _ (and_left _ _ (and_left _ _ (and_left _ _ e)))))
  where
    and_left : (a b : Bool) → (a && b) ≡ true → a ≡ true
    and_left true b e = refl
    and_left false b e = e

-- ---- the start and the run, with a fact J that every move keeps

module _ (J : State → Type 0) (K : Keeps J) where
  -- before the first expansion: v vertices, n of f faces, and at most q entries in the heap
  pub record Begun (f v n q : ℕ) (s : State) : Type 0 where
    pub verts_are : s.tally.vertices ≡ v
    pub made_are : s.tally.faces ≡ n
    pub neighbours_in : NeighboursIn f n s.lists.face_ids
    pub corners_in : CornersIn v n s.lists.face_ids
    pub live_few : live_to n s.lists.deleted ≤ n
    pub queue_in : Good f s.tally.heap (heap_of s)
    pub queue_few : s.tally.heap ≤ q
    pub none_done : s.tally.done ≡ 0
    pub none_most : s.tally.most ≡ 0
    pub clean : (s.tally.edges ≡ 0) × (s.tally.pending ≡ 0)
    pub kept : J s

  -- the f starting faces are made
  abbrev Started : ℕ → State → Type 0
  Started f s = Ready J f 0 s × (s.tally.faces ≡ f)

  module _ (f : ℕ) where
    abbrev E : End → State → Type 0
    E = Ending J the_start f

    begun-within : (v n q : ℕ) (s : State) → v ≤ 4 → n ≤ f → q ≤ f → Begun f v n q s → Within f 0 s
    begun-within v n q s hv hn hq h =
        let z = bound-zero f in
        record {
          few_verts = omega (arith, h.verts_are);
          few_live = rw h.made_are (omega (arith, h.live_few));
          few_made = omega (arith, h.made_are);
          few_edges = omega (arith, h.none_most);
          few_queued = omega (arith, h.queue_few);
        }

    end-begun : (v n q : ℕ) (e : End) (s : State) → v ≤ 4 → n ≤ f → q ≤ f → Begun f v n q s → Tight f 0 s.lists e → E e s
    end-begun v n q e s hv hn hq h t =
        record {
          end = record { from = f; starting = with_all; expansions = 0; at_most = omega arith; part = the_start; counted = refl; completed = omega (arith, h.none_done); within = begun-within v n q s hv hn hq h; tight = t };
          in_part = refl;
          kept = h.kept;
        }

    pub begun-ready : (v q : ℕ) (s : State) → 0 < f → v ≤ 4 → q ≤ f → Begun f v f q s → Started f s
    begun-ready v q s hf hv hq h = (
      record {
        sound = record {
          some = omega (arith, h.made_are);
          neighbours_in = rw h.made_are h.neighbours_in;
          corners_in = rw (h.made_are, h.verts_are) h.corners_in;
          queue_in = rw h.made_are h.queue_in;
          queue_few = omega (arith, h.queue_few, h.made_are);
        };
        within = begun-within v f q s hv (omega arith) hq h;
        completed = h.none_done;
        clean = h.clean;
        kept = h.kept;
      },
      h.made_are,
    )

    -- ---- vertices

    pub begun-vertex : (v : ℕ) (s : State) (p : Vertex) → s.tally.vertices < room_for the_vertices s.lists → Begun f v 0 0 s → Begun f (v + 1) 0 0 (with_vertex s p)
    begun-vertex v s p room h = record {
      verts_are = omega (arith, h.verts_are);
      made_are = h.made_are;
      neighbours_in = h.neighbours_in;
      corners_in = no-corners _ _;
      live_few = h.live_few;
      queue_in = h.queue_in;
      queue_few = h.queue_few;
      none_done = h.none_done;
      none_most = h.none_most;
      clean = h.clean;
      kept = K.on_vertex s p room h.kept;
    }

    pub meets-one_vertex : (v : ℕ) (x : Vertex) (s : State) → v < 4 → Begun f v 0 0 s → Meets (λ _ t. Begun f (v + 1) 0 0 t) E (push_vertex x s)
    meets-one_vertex v x s l h =
        meets-vertex E _ x s
        (λ full. end-begun v 0 0 _ s (omega arith) (omega arith) (omega arith) h (omega (arith, h.verts_are)))
        (λ room. begun-vertex v s _ room h)

    pub meets-points : (x : VoronoiSimplex) (n i v : ℕ) (s : State) → v + n ≤ 4 → Begun f v 0 0 s → Meets (λ _ t. Begun f (v + n) 0 0 t) E (push_points x n i s)
    unfolding push_points
    meets-points x zero i v s l h = meets-ok E _ s (rw native.Mathlib.Nat.add-zero h)
    meets-points x (suc n) i v s l h =
        let e : v + suc n ≡ v + 1 + n = omega arith in
        rw e (meets-then E (λ _ t. Begun f (v + 1) 0 0 t) _ _ _ s (meets-one_vertex v _ s (omega arith) h) λ _ t h1. meets-points x n (i + 1) (v + 1) t (omega arith) h1)

    pub meets-second : (x : Vertex) (o : Option Vertex) (s : State) → Begun f 1 0 0 s → Meets (λ _ t. Begun f 2 0 0 t) E (second x o s)
    meets-second x None s h =
        let z = bound-zero 0 in
        let l : live s ≤ 0 = rw h.made_are h.live_few in
        meets-stop E _ _ s (record {
          end = record {
            from = 0;
            starting = without;
            expansions = 0;
            at_most = omega arith;
            part = the_start;
            counted = refl;
            completed = omega (arith, h.none_done);
            within = record { few_verts = omega (arith, h.verts_are); few_live = l; few_made = omega (arith, h.made_are); few_edges = omega (arith, h.none_most); few_queued = omega (arith, h.queue_few) };
            tight = refl;
          };
          in_part = refl;
          kept = h.kept;
        })
    meets-second x (Some p) s h =
        meets-one_vertex 1 p s (omega arith) h

    pub meets-bootstrap : (w : World) (s : State) → Begun f 1 0 0 s → Meets (λ _ t. Begun f 2 0 0 t) E (bootstrap w s)
    unfolding bootstrap
    meets-bootstrap w s h = meets-look E _ _ s (meets-second (vertex_at s.lists.vertices 0) (first_far w (vertex_at s.lists.vertices 0).point 6 0) s h)

    pub meets-third : (w : World) (s : State) → Begun f 2 0 0 s → Meets (λ _ t. Begun f 3 0 0 t) E (third w s)
    unfolding third
    meets-third w s h =
        meets-look E _ _ s
        (meets-then E (λ _ t. Begun f 2 0 0 t) _ _ _ s
        (meets-stop_if E _ _ _ s (λ _. end-begun 2 0 0 _ s (omega arith) (omega arith) (omega arith) h tt) (λ _. h)) λ _ t h1.
        meets-one_vertex 2 _ t (omega arith) h1)

    -- ---- faces and their keys

    module _ (v : ℕ) (hv : v ≤ 4) where
      pub begun-face : (n a b c x y z : ℕ) (m : Made) (s : State) → a < v → b < v → c < v → x < f → y < f → z < f → s.tally.faces < room_for the_faces s.lists → Begun f v n 0 s
          → Begun f v (n + 1) 0 (with_face s (three a b c) (three x y z) m)
      begun-face n a b c x y z m s ha hb hc hx hy hz room h =
          let e = h.made_are in
          record {
            verts_are = h.verts_are;
            made_are = omega arith;
            neighbours_in = rw e (neighbours-put s.lists.face_ids f n (three a b c) (three x y z) (record { a = hx; b = hy; c = hz }) h.neighbours_in);
            corners_in = rw e (corners-put s.lists.face_ids v n (three a b c) (three x y z) (record { a = ha; b = hb; c = hc }) h.corners_in);
            live_few = rw e (omega (arith, live-push n s.lists.deleted, h.live_few));
            queue_in = h.queue_in;
            queue_few = h.queue_few;
            none_done = h.none_done;
            none_most = h.none_most;
            clean = h.clean;
            kept = K.on_face s (three a b c) (three x y z) m room h.kept;
          }

      pub meets-one_face : (n a b c x y z : ℕ) (m : Made) (s : State) → n < f → a < v → b < v → c < v → x < f → y < f → z < f → Begun f v n 0 s
          → Meets (λ _ t. Begun f v (n + 1) 0 t) E (push_face (three a b c) (three x y z) m s)
      meets-one_face n a b c x y z m s hn ha hb hc hx hy hz h =
          meets-face E _ _ _ m s
          (λ full. end-begun v n 0 _ s hv (omega arith) (omega arith) h (omega (arith, h.made_are, bound-zero f)))
          (λ room. begun-face n a b c x y z m s ha hb hc hx hy hz room h)

      pub begun-queue : (q : ℕ) (s : State) (e : Entry) → e.face < f → q < f → s.tally.heap < room_for the_heap s.lists → Begun f v f q s → Begun f v f (q + 1) (with_entry s e)
      begun-queue q s e l lq room h =
          let g = good-pushed f s.tally.heap (heap_of s) e l h.queue_in in
          record {
            verts_are = h.verts_are;
            made_are = h.made_are;
            neighbours_in = h.neighbours_in;
            corners_in = h.corners_in;
            live_few = h.live_few;
            queue_in = record { counts = refl; each = rw g.counts g.each };
            queue_few = omega (arith, g.counts, h.queue_few);
            none_done = h.none_done;
            none_most = h.none_most;
            clean = h.clean;
            kept = K.on_queue s e room (omega (arith, h.queue_few, h.made_are)) h.kept;
          }

      pub meets-one_key : (q : ℕ) (tol key : Float) (i : ℕ) (s : State) → q < f → i < f → Begun f v f q s → Meets (λ _ t. Begun f v f (q + 1) t) E (queue_face key_at_start tol i key s)
      meets-one_key q tol key i s lq li h =
          meets-queue E _ key_at_start tol i key s
          (end-begun v f q _ s hv (omega arith) (omega arith) h tt)
          (λ full. end-begun v f q _ s hv (omega arith) (omega arith) h (omega (arith, h.queue_few, bound-zero f)))
          (λ room. begun-queue q s _ li lq room h)

      pub meets-one_entry : (q : ℕ) (key : Float) (i : ℕ) (s : State) → q < f → i < f → Begun f v f q s → Meets (λ _ t. Begun f v f (q + 1) t) E (enqueue i key s)
      meets-one_entry q key i s lq li h =
          meets-enqueue E _ i key s
          (λ full. end-begun v f q _ s hv (omega arith) (omega arith) h (omega (arith, h.queue_few, bound-zero f)))
          (λ room. begun-queue q s _ li lq room h)

      begun_more : (n q : ℕ) (s : State) → Begun f v n q s → Begun f v n (q + 1) s
      begun_more n q s h = record { verts_are = h.verts_are; made_are = h.made_are; neighbours_in = h.neighbours_in; corners_in = h.corners_in; live_few = h.live_few; queue_in = h.queue_in; queue_few = omega (arith, h.queue_few); none_done = h.none_done; none_most = h.none_most; clean = h.clean; kept = h.kept }

      pub meets-queue_start : (w : Numbers) (q : ℕ) (tol : Float) (i : ℕ) (b : Bool) (s : State) → q < f → i < f → Begun f v f q s → Meets (λ _ t. Begun f v f (q + 1) t) E (queue_start w tol i b s)
      unfolding queue_start
      meets-queue_start w q tol i b s lq li h =
          meets-do_if E _ b _ s (λ _. meets-look E _ _ s (meets-one_key q tol _ i s lq li h)) (λ _. begun_more f q s h)

  -- two faces
  pub meets-two : (w : World) (v : ℕ) (s : State) → 2 ≤ v → v ≤ 3 → Begun 2 v 0 0 s → Meets (λ _ t. Started 2 t) (Ending J the_start 2) (start_two w s)
  unfolding start_two two_faces
  meets-two w v s l2 l3 h =
      let E = Ending J the_start 2 in
      meets-look E _ _ s
      (meets-then E (λ _ t. Begun 2 3 0 0 t) _ _ _ s
      (meets-do_if E _ _ _ s
      (λ e. let q : v ≡ 2 = omega (arith, h.verts_are, eqb-true s.tally.vertices 2 e) in meets-third 2 w s (rw q at h))
      (λ e. let q : v ≡ 3 = omega (arith, h.verts_are, eqb-false s.tally.vertices 2 e) in rw q at h)) λ _ s1 h1.
      meets-look E _ _ s1
      (meets-then E (λ _ t. Begun 2 3 1 0 t) _ _ _ s1
      (meets-one_face 2 3 (omega arith) 0 0 1 2 1 1 1 _ s1 (omega arith) (omega arith) (omega arith) (omega arith) (omega arith) (omega arith) (omega arith) h1) λ _ s2 h2.
      meets-then E (λ _ t. Begun 2 3 2 0 t) _ _ _ s2
      (meets-one_face 2 3 (omega arith) 1 0 2 1 0 0 0 _ s2 (omega arith) (omega arith) (omega arith) (omega arith) (omega arith) (omega arith) (omega arith) h2) λ _ s3 h3.
      meets-then E (λ _ t. Begun 2 3 2 1 t) _ _ _ s3 (meets-one_entry 2 3 (omega arith) 0 _ 0 s3 (omega arith) (omega arith) h3) λ _ s4 h4.
      meets-map E (λ _ t b. begun-ready 2 3 2 t (omega arith) (omega arith) (omega arith) b) (meets-one_entry 2 3 (omega arith) 1 _ 1 s4 (omega arith) (omega arith) h4)))

  -- four faces
  pub meets-four_faces : (m1 m2 m3 m4 : Made) (s : State) → Begun 4 4 0 0 s → Meets (λ _ t. Begun 4 4 4 0 t) (Ending J the_start 4) (four_faces m1 m2 m3 m4 s)
  unfolding four_faces
  meets-four_faces m1 m2 m3 m4 s0 h0 =
      let E = Ending J the_start 4 in
      let l0 : 0 < 4 = omega arith in
      let l1 : 1 < 4 = omega arith in
      let l2 : 2 < 4 = omega arith in
      let l3 : 3 < 4 = omega arith in
      meets-then E (λ _ t. Begun 4 4 1 0 t) _ _ _ s0 (meets-one_face 4 4 (omega arith) 0 0 1 2 3 1 2 _ s0 l0 l0 l1 l2 l3 l1 l2 h0) λ _ s1 h1.
      meets-then E (λ _ t. Begun 4 4 2 0 t) _ _ _ s1 (meets-one_face 4 4 (omega arith) 1 1 3 2 3 2 0 _ s1 l1 l1 l3 l2 l3 l2 l0 h1) λ _ s2 h2.
      meets-then E (λ _ t. Begun 4 4 3 0 t) _ _ _ s2 (meets-one_face 4 4 (omega arith) 2 0 2 3 0 1 3 _ s2 l2 l0 l2 l3 l0 l1 l3 h2) λ _ s3 h3.
      meets-one_face 4 4 (omega arith) 3 0 3 1 2 1 0 _ s3 l3 l0 l3 l1 l2 l1 l0 h3

  pub meets-queue_four : (w : Numbers) (tol : Float) (a b c d : Bool) (s : State) → Begun 4 4 4 0 s → Meets (λ _ t. Started 4 t) (Ending J the_start 4) (queue_four w tol a b c d s)
  unfolding queue_four
  meets-queue_four w tol a b c d s4 h4 =
      let E = Ending J the_start 4 in
      meets-then E (λ _ t. Begun 4 4 4 1 t) _ _ _ s4 (meets-queue_start 4 4 (omega arith) w 0 tol 0 _ s4 (omega arith) (omega arith) h4) λ _ s5 h5.
      meets-then E (λ _ t. Begun 4 4 4 2 t) _ _ _ s5 (meets-queue_start 4 4 (omega arith) w 1 tol 1 _ s5 (omega arith) (omega arith) h5) λ _ s6 h6.
      meets-then E (λ _ t. Begun 4 4 4 3 t) _ _ _ s6 (meets-queue_start 4 4 (omega arith) w 2 tol 2 _ s6 (omega arith) (omega arith) h6) λ _ s7 h7.
      meets-then E (λ _ t. Begun 4 4 4 4 t) _ _ _ s7 (meets-queue_start 4 4 (omega arith) w 3 tol 3 _ s7 (omega arith) (omega arith) h7) λ _ s8 h8.
      meets-stop_if E _ _ _ s8
      (λ _. end-begun 4 4 4 4 _ s8 (omega arith) (omega arith) (omega arith) h8 tt)
      (λ _. begun-ready 4 4 4 s8 (omega arith) (omega arith) (omega arith) h8)

  pub meets-four : (w : Numbers) (tol : Float) (s : State) → Begun 4 4 0 0 s → Meets (λ _ t. Started 4 t) (Ending J the_start 4) (start_four w tol s)
  unfolding start_four exchange
  meets-four w tol s h =
      let E = Ending J the_start 4 in
      meets-look E _ _ s
      (meets-then E (λ _ t. Begun 4 4 0 0 t) _ _ _ s
      (meets-do_if E _ _ _ s (λ _. meets-exchange s h) (λ _. h)) λ _ s0 h0.
      meets-look E _ _ s0
      (meets-then E (λ _ t. Begun 4 4 4 0 t) _ _ _ s0 (meets-four_faces _ _ _ _ s0 h0) λ _ s4 h4.
      meets-queue_four w tol _ _ _ _ s4 h4))
    where
      begun-exchanged : (s : State) → Begun 4 4 0 0 s → Begun 4 4 0 0 (with_exchange s)
      begun-exchanged s h = record { verts_are = h.verts_are; made_are = h.made_are; neighbours_in = h.neighbours_in; corners_in = h.corners_in; live_few = h.live_few; queue_in = h.queue_in; queue_few = h.queue_few; none_done = h.none_done; none_most = h.none_most; clean = h.clean; kept = K.on_exchange s (omega (arith, h.verts_are)) h.kept }

      meets-exchange : (s : State) → Begun 4 4 0 0 s → Meets (λ _ t. Begun 4 4 0 0 t) (Ending J the_start 4) (exchange s)
      meets-exchange s h = meets-look (Ending J the_start 4) _ _ s (meets-put (Ending J the_start 4) _ _ s (begun-exchanged s h))

  -- ---- the whole run

  pub begun : (f : ℕ) (s : State) → Empty s → J s → Begun f 0 0 0 s
  unfolding live_to
  begun f s h j = record {
    verts_are = h.no_verts;
    made_are = h.no_faces;
    neighbours_in = no-neighbours _ _;
    corners_in = no-corners _ _;
    live_few = omega arith;
    queue_in = record { counts = refl; each = rw h.no_queue (all_none _ _) };
    queue_few = omega (arith, h.no_queue);
    none_done = h.no_done;
    none_most = h.no_most;
    clean = h.clean;
    kept = j;
  }

  -- the vertices after the bootstrap
  pub record Early (f d : ℕ) (s : State) : Type 0 where
    pub verts : ℕ
    pub begins : Begun f verts 0 0 s
    pub four : d ≡ 3 → verts ≡ 4
    pub two : (d ≡ 3 → ⊥) → (2 ≤ verts) × (verts ≤ 3)

  module _ (w : World) (x : VoronoiSimplex) (small : x.dim ≤ 3) where
    abbrev F : ℕ
    F = faces_at_start x

    pub meets-vertices : (s : State) → Empty s → J s → Meets (λ _ t. Early F x.dim t) (Ending J the_start F) (start_vertices w x s)
    unfolding start_vertices
    meets-vertices s h j =
        let d = x.dim in
        let E = Ending J the_start F in
        meets-then E (λ _ t. Begun F (d + 1) 0 0 t) _ _ _ s
        (meets-map E (λ _ t b. rw native.Mathlib.Nat.zero-add at b) (meets-points F x (d + 1) 0 0 s (omega arith) (begun F s h j))) λ _ s1 h1.
        meets-do_if E _ (eqb d 0) (bootstrap w) s1
        (λ e. let q : d ≡ 0 = eqb-true d 0 e in
        let h1' : Begun F 1 0 0 s1 = subst (λ (n : ℕ). Begun F (n + 1) 0 0 s1) q h1 in
        meets-map E (λ _ t b. record { verts = 2; begins = b; four = λ z. omega arith; two = λ z. (omega arith, omega arith) }) (meets-bootstrap F w s1 h1'))
        (λ e. let q : d ≡ 0 → ⊥ = eqb-false d 0 e in record { verts = d + 1; begins = h1; four = λ z. omega arith; two = λ z. (omega arith, omega arith) })

    pub meets-faces : (tol : Float) (s2 : State) → Early F x.dim s2 → Meets (λ _ t. Started F t) (Ending J the_start F) (start_faces w x.dim tol s2)
    unfolding start_faces
    meets-faces tol s2 h2 =
        let d = x.dim in
        let E = Ending J the_start F in
        meets-branch E _ (eqb d 3) _ _ s2
        (λ e. let q : d ≡ 3 = eqb-true d 3 e in
        let b : Begun F 4 0 0 s2 = subst (λ (n : ℕ). Begun F n 0 0 s2) (h2.four q) h2.begins in
        subst (λ (n : ℕ). Begun n 4 0 0 s2 → Meets (λ _ t. Started n t) (Ending J the_start n) (start_four w.numbers tol s2)) (sym (starts (eqb d 3) e)) (λ c. meets-four w.numbers _ s2 c) b)
        (λ e. let q = h2.two (eqb-false d 3 e) in
        subst (λ (n : ℕ). Begun n h2.verts 0 0 s2 → Meets (λ _ t. Started n t) (Ending J the_start n) (start_two w s2)) (sym (starts-two (eqb d 3) e)) (λ c. meets-two w h2.verts s2 q.0 q.1 c) h2.begins)

  -- the start, with its faces
  pub meets-begin : (w : World) (x : VoronoiSimplex) (s : State) → Empty s → J s → Meets (λ _ t. Started (faces_at_start x) t × (0 < t.tally.heap)) (Ending J the_start (faces_at_start x)) (begin w x s)
  unfolding begin
  meets-begin w x s h j =
      let f = faces_at_start x in
      let E = Ending J the_start f in
      meets-then E (λ _ t. Empty t × J t × (x.dim ≤ 3)) _ _ _ s
      (meets-stop_if E _ (not (is_simplex x)) _ s
      (λ _. end-begun f 0 0 0 _ s (omega arith) (omega arith) (omega arith) (begun f s h j) tt)
      (λ e. (h, j, low-dimension x (not-false _ e)))) λ _ s1 h1.
      meets-then E (λ _ t. Early f x.dim t) _ _ _ s1 (meets-vertices w x h1.2 s1 h1.0 h1.1) λ _ s2 h2.
      meets-look E _ _ s2
      (meets-then E (λ _ t. Started f t × (0 < t.tally.heap)) _ _ _ s2 (meets-both (meets-faces w x h1.2 _ s2 h2) (peek-finds w _ x.dim s2)) λ _ s3 h3.
      meets-pure E _ _ s3 h3)

  -- ---- the run, as far as k expansions

  module _ (w : World) (x : VoronoiSimplex) (s : State) (h : Empty s) (j : J s) where
    abbrev f0 : ℕ
    f0 = faces_at_start x

    -- before the first
    pub meets-opened : Meets (λ g t. Best-ready J K f0 w 0 g.best t × (t.tally.faces ≡ f0)) (Ending J the_start f0) (run_to w x 0 s)
    unfolding run_to opened
    meets-opened =
        let E = Ending J the_start f0 in
        meets-bind E (λ _ t. Started f0 t × (0 < t.tally.heap)) _ _ _ s (meets-begin w x s h j) λ tol s2 h2.
        meets-look E _ _ s2
        (meets-pure E _ _ s2 (record { ready = h2.0.0; best_in = h2.0.0.sound.queue_in.each.below 0 h2.1 }, h2.0.1))

    -- an end in whatever part
    abbrev Either : End → State → Type 0
    Either e t = Ended f0 e t × J t

    any_part : {A : Type 0} {P : A → State → Type 0} {o : Out A} (q : Part) → Meets P (Ending J q f0) o → Meets P Either o
    any_part q m = meets-ends (λ e t y. (y.end, y.kept)) m

    -- after k of them
    pub meets-run_to : (k : ℕ) → k ≤ 101 → Meets (λ g t. Best-ready J K f0 w k g.best t) Either (run_to w x k s)
    unfolding run_to one_more
    meets-run_to zero l = any_part the_start (meets-map (Ending J the_start f0) (λ _ _ y. y.0) meets-opened)
    meets-run_to (suc k) l =
        meets-bind Either (λ g t. Best-ready J K f0 w k g.best t) _ _ _ s (meets-run_to k (omega arith)) λ g t b.
        meets-bind Either (λ b1 u. Best-ready J K f0 w (suc k) b1 u) _ _ _ t (any_part the_loop (meets-iterate J K f0 w k g.tol g.best t (omega arith) b)) λ b1 u c.
        meets-pure Either _ _ u c

    -- the rest
    pub meets-rest : (k n : ℕ) → k + n ≡ 101 → (g : Carried) (t : State) → Best-ready J K f0 w k g.best t → Meets (λ _ u. ⊥) (Ending J the_loop f0) (rest w n g t)
    unfolding rest
    meets-rest k n e g t b = meets-loop J K f0 w n k g.tol g.best t e b

    -- every run ends, within the sizes, and leaves what every move keeps
    pub run_ends : Meets (λ _ t. ⊥) Either (epa w x s)
    run_ends =
        rw (run-through w x 0 101 refl s)
        (meets-bind Either (λ g t. Best-ready J K f0 w 0 g.best t) _ _ (rest w 101) s (meets-run_to 0 (omega arith)) λ g t b.
        any_part the_loop (meets-rest 0 101 refl g t b))

-- the fact that says nothing
pub nothing-kept : Keeps (λ _. Unit {0})
nothing-kept = record {
  on_vertex = λ _ _ _ _. tt;
  on_exchange = λ _ _ _. tt;
  on_face = λ _ _ _ _ _ _. tt;
  on_queue = λ _ _ _ _ _. tt;
  on_pop = λ _ _ _ _. tt;
  on_delete = λ _ _ _ _. tt;
  on_pass = λ _ _ _ _ _ _ _ _ _. tt;
  on_link = λ _ _ _ _ _ _ _. tt;
  on_clear = λ _ _. tt;
  on_complete = λ _ _. tt;
}

-- DEMAND 3: every run ends, within the sizes
pub bounded : (w : World) (x : VoronoiSimplex) (s : State) → Empty s → Ends (faces_at_start x) (epa w x s)
bounded w x s h = closing (epa w x s) (run_ends (λ _. Unit {0}) nothing-kept w x s h tt)
  where
    closing : (o : Out Over) → Meets (λ _ t. ⊥) (λ e t. Ended (faces_at_start x) e t × Unit {0}) o → Ends (faces_at_start x) o
    closing (onward a t) m = m.held
    closing (ended e t) m = m.held.0

pub empty-lent : (l : Lists) → Empty (state_of l none_yet)
empty-lent l = record { no_verts = refl; no_faces = refl; clean = (refl, refl); no_queue = refl; no_done = refl; no_most = refl }

-- WHAT EVERY MOVE KEEPS a run leaves, whatever way it ends, if it is so of the lists as lent
pub run-keeps : (J : State → Type 0) (w : World) (x : VoronoiSimplex) (l : Lists) → Keeps J → J (state_of l none_yet) → (e : End) (t : State) → run w x l ≡ ended e t → J t
unfolding run
run-keeps J w x l K j e t q = (rw q at (run_ends J K w x (state_of l none_yet) (empty-lent l) j)).held.1

-- so the run over lent lists ends, within the sizes
pub demand-3 : (w : World) (x : VoronoiSimplex) (l : Lists) → Ends (faces_at_start x) (run w x l)
unfolding run
demand-3 w x l = bounded w x (state_of l none_yet) (empty-lent l)

pub start-most : (b : Bool) → cond b 4 2 ≤ 4
start-most true = omega arith
start-most false = omega arith

-- at most 101 expansions complete
pub few-complete : (w : World) (x : VoronoiSimplex) (l : Lists) (e : End) (t : State) → run w x l ≡ ended e t → t.tally.done ≤ 101
few-complete w x l e t q =
    let h : Ended (faces_at_start x) e t = subst (λ (o : Out Over). Ends (faces_at_start x) o) q (demand-3 w x l) in
    omega (arith, h.completed, h.at_most)
