-- Two runs from one simplex over different lent stores, step by step: the start, and the run. Assumes nothing.
use mathlib.Core.Path.{◌≡◌, refl, ap, subst}
use mathlib.Core.Bool.{Bool}
use Rattle.std.specs.Prelude.{Option, None, Some}
use Prim.Native.Nat.{ℕ, zero, suc, ◌+◌, ◌<◌, ◌≤◌}
use native.Mathlib.Omega.{arith}
use lib.Dec.{eqb}
use lib.Ieee.{Float, Format, neg}
use borrow.Author.Tests.{eqb-true, eqb-false, not-false}
use Rattle.vector.specs.declared.vec3.Vec3.{Vec3}
use Rattle.vector.specs.Vector.{zero_f, zero_v, sub_v, dot_v, normalize_or_zero_v, equal_v}
use Rattle.number.specs.Constants.{largest}
use Rattle.shape.specs.declared.vertex.Vertex.{Vertex}
use Rattle.heap.specs.declared.Entry.{Entry}
use Rattle.heap.specs.Heap.{entry_at}
use Rattle.epa_polytope.specs.Start.{World, VoronoiSimplex, scale_of, dist_tol, winds_inward, push_points, first_far, second, bootstrap, queue_start, start_four, four_faces, queue_four, across, third, two_faces, start_two, start_vertices, start_faces, begin, format_of, exchange}
use Rattle.epa_polytope.specs.Stores.{State, normal_at, point_at, vertex_at, Lists, Tally, Made, heap_of, state_of, none_yet}
use Rattle.epa_polytope.specs.Run.{Best, expansions, loop, epa}
use Rattle.epa_polytope.specs.Steps.{nothing, panics, none_holds, key_at_start, not_asimplex, no_third_vertex, Out, onward, ended, Act, ◌>>◌, Nil, three, made_of, Numbers}
use Rattle.epa_polytope.specs.Bounds.{the_start, faces_at_start}
use Rattle.epa_polytope.specs.Same.{Same}
use Rattle.epa_polytope.proofs.Alike.{alike-none, alike-entry}
use Rattle.epa_polytope.proofs.Moves.{with_exchange}
use Rattle.epa_polytope.proofs.Steps.{Meets, goes, ends, meets-look, meets-put, meets-do_if}
use Rattle.epa_polytope.proofs.Lengths.{long-itself}
use Rattle.epa_polytope.proofs.Growth.{Ready, Ending}
use Rattle.epa_polytope.proofs.Start.{Empty, Begun, Early, starts, starts-two, low-dimension, begun, meets-points, meets-third, meets-one_face, meets-one_entry, meets-queue_start, meets-four_faces, meets-vertices, meets-faces, meets-begin, nothing-kept}
use Rattle.epa_polytope.proofs.Twins.{same-heaps, same-vertex, same_point, same-face-normal, same-made, Twin, twin-exchange, Twins, twins-bind, twins-then, twins-look, twins-pure, twins-stop, twins-put, twins-ok, twins-check, twins-stop_if, twins-do_if, twins-branch, twins-vertex, twins-face, twins-enqueue, twins-queue}
use Rattle.epa_polytope.proofs.TwinIterations.{Whatever, twins-loop}

-- what is known of every step
any : {A : Type 0} (o : Out A) → Meets (λ (_ : A) (_ : State). Unit {0}) (λ _ _. Unit {0}) o
any (onward a s) = goes tt
any (ended e s) = ends tt

-- ---- what the start reads

same_scale : (f : Format) (s t : State) (n : ℕ) → n ≤ s.tally.vertices → Same s t → scale_of f s.lists.vertices n ≡ scale_of f t.lists.vertices n
unfolding scale_of
same_scale f s t zero l h = refl
same_scale f s t (suc n) l h =
    let a = same_scale f s t n (omega arith) h in
    let b = same-vertex s.tally.vertices s.lists.vertices t.lists.vertices n (omega arith) h.vertices in
    cc

same-tol : (f : Format) (s t : State) → Same s t → dist_tol f s.lists.vertices s.tally.vertices ≡ dist_tol f t.lists.vertices t.tally.vertices
unfolding dist_tol
same-tol f s t h =
    let a = same_scale f s t s.tally.vertices (omega arith) h in
    let b : scale_of f t.lists.vertices s.tally.vertices ≡ scale_of f t.lists.vertices t.tally.vertices = ap (λ (n : ℕ). scale_of f t.lists.vertices n) (ap (λ (c : Tally). c.vertices) h.tally) in
    cc

same-winds : (f : Format) (s t : State) → 4 ≤ s.tally.vertices → Same s t → winds_inward f s.lists.vertices ≡ winds_inward f t.lists.vertices
unfolding winds_inward
same-winds f s t l h =
    let v : (i : ℕ) → i < 4 → vertex_at s.lists.vertices i ≡ vertex_at t.lists.vertices i = λ i k. same-vertex s.tally.vertices s.lists.vertices t.lists.vertices i (omega arith) h.vertices in
    rw (v 0 (omega arith), v 1 (omega arith), v 2 (omega arith), v 3 (omega arith))

module _ (lent lent' : Lists) where
  -- ---- the vertices

  pub twins-points : (x : VoronoiSimplex) (n i : ℕ) (s t : State) → Twin lent lent' s t → Twins lent lent' (push_points x n i s) (push_points x n i t)
  unfolding push_points
  twins-points x zero i s t h = twins-ok lent lent' s t h
  twins-points x (suc n) i s t h = twins-then lent lent' _ _ _ _ s t (any _) (twins-vertex lent lent' _ _ s t refl h) (λ _ s1 t1 _ h1. twins-points x n (i + 1) s1 t1 h1)

  pub twins-second : (v v' : Vertex) (o o' : Option Vertex) (s t : State) → v ≡ v' → o ≡ o' → Twin lent lent' s t → Twins lent lent' (second v o s) (second v' o' t)
  twins-second v v' o o' s t ev eo h = rw (← ev, ← eo) (by o)
    where
      by : (o : Option Vertex) → Twins lent lent' (second v o s) (second v o t)
      by None = twins-stop lent lent' _ _ s t refl h
      by (Some p) = twins-vertex lent lent' p p s t refl h

  pub twins-bootstrap : (w : World) (s t : State) → 0 < s.tally.vertices → Twin lent lent' s t → Twins lent lent' (bootstrap w s) (bootstrap w t)
  unfolding bootstrap
  twins-bootstrap w s t l h =
      let v = same-vertex s.tally.vertices s.lists.vertices t.lists.vertices 0 l h.same.vertices in
      twins-look lent lent' _ _ s t (twins-second _ _ _ _ s t v (ap (λ (x : Vertex). first_far w x.point 6 0) v) h)

  pub twins-third : (w : World) (s t : State) → 2 ≤ s.tally.vertices → Twin lent lent' s t → Twins lent lent' (third w s) (third w t)
  unfolding third
  twins-third w s t l h =
      let k = format_of w in
      let p0 = same_point s t 0 (omega arith) h.same in
      let p1 = same_point s t 1 (omega arith) h.same in
      let e : normalize_or_zero_v k (sub_v k (point_at s 1) (point_at s 0)) ≡ normalize_or_zero_v k (sub_v k (point_at t 1) (point_at t 0)) = cc in
      twins-look lent lent' _ _ s t
      (twins-check lent lent' _ _ (panics no_third_vertex) _ _ s t (ap (λ (v : Vec3). equal_v v zero_v) e) h
      (λ _. twins-vertex lent lent' _ _ s t (ap (λ (v : Vec3). w.supp (across k v)) e) h))

  pub twins-vertices : (w : World) (x : VoronoiSimplex) (s t : State) → x.dim ≤ 3 → Empty s → Twin lent lent' s t → Twins lent lent' (start_vertices w x s) (start_vertices w x t)
  unfolding start_vertices
  twins-vertices w x s t small e h =
      twins-then lent lent' _ _ _ _ s t (meets-points Whatever nothing-kept 2 x (x.dim + 1) 0 0 s (omega arith) (begun Whatever nothing-kept 2 s e tt)) (twins-points x (x.dim + 1) 0 s t h)
      (λ _ s1 t1 b h1. twins-do_if lent lent' _ _ _ _ s1 t1 refl (λ _. twins-bootstrap w s1 t1 (omega (arith, b.verts_are)) h1) h1)

  -- ---- two faces

  pub twins-two : (w : World) (v : ℕ) (s t : State) → 2 ≤ v → v ≤ 3 → Begun Whatever nothing-kept 2 v 0 0 s → Twin lent lent' s t → Twins lent lent' (start_two w s) (start_two w t)
  unfolding start_two two_faces
  twins-two w v s t l2 l3 h x =
      let K = nothing-kept in
      let E = Ending Whatever the_start 2 in
      twins-look lent lent' _ _ s t
      (twins-then lent lent' {P = λ _ s1. Begun Whatever K 2 3 0 0 s1} {E = E} _ _ _ _ s t
      (meets-do_if E _ _ _ s
      (λ e. let q : v ≡ 2 = omega (arith, h.verts_are, eqb-true s.tally.vertices 2 e) in meets-third Whatever K 2 w s (rw q at h))
      (λ e. let q : v ≡ 3 = omega (arith, h.verts_are, eqb-false s.tally.vertices 2 e) in rw q at h))
      (twins-do_if lent lent' _ _ _ _ s t (ap (λ (n : ℕ). eqb n 2) (ap (λ (c : Tally). c.vertices) x.same.tally)) (λ _. twins-third w s t (omega (arith, h.verts_are)) x) x)
      (λ _ s1 t1 h1 x1.
      let l0 : 0 < s1.tally.vertices = omega (arith, h1.verts_are) in
      let l1 : 1 < s1.tally.vertices = omega (arith, h1.verts_are) in
      let l2 : 2 < s1.tally.vertices = omega (arith, h1.verts_are) in
      twins-look lent lent' _ _ s1 t1
      (twins-then lent lent' _ _ _ _ s1 t1
      (meets-one_face Whatever K 2 3 (omega arith) 0 0 1 2 1 1 1 _ s1 (omega arith) (omega arith) (omega arith) (omega arith) (omega arith) (omega arith) (omega arith) h1)
      (twins-face lent lent' (three 0 1 2) (three 1 1 1) _ _ s1 t1 (same-made w.numbers s1 t1 0 1 2 l0 l1 l2 x1.same) x1)
      (λ _ s2 t2 h2 x2.
      twins-then lent lent' _ _ _ _ s2 t2
      (meets-one_face Whatever K 2 3 (omega arith) 1 0 2 1 0 0 0 _ s2 (omega arith) (omega arith) (omega arith) (omega arith) (omega arith) (omega arith) (omega arith) h2)
      (twins-face lent lent' (three 0 2 1) (three 0 0 0) _ _ s2 t2 (same-made w.numbers s1 t1 0 2 1 l0 l2 l1 x1.same) x2)
      (λ _ s3 t3 h3 x3.
      twins-then lent lent' _ _ _ _ s3 t3 (meets-one_entry Whatever K 2 3 (omega arith) 0 zero_f 0 s3 (omega arith) (omega arith) h3)
      (twins-enqueue lent lent' 0 zero_f s3 t3 (omega (arith, h3.queue_few, h3.made_are)) x3)
      (λ _ s4 t4 h4 x4. twins-enqueue lent lent' 1 zero_f s4 t4 (omega (arith, h4.queue_few, h4.made_are)) x4))))))

  -- ---- four faces

  pub twins-four_faces : (m1 m2 m3 m4 : Made) (s t : State) → Twin lent lent' s t → Twins lent lent' (four_faces m1 m2 m3 m4 s) (four_faces m1 m2 m3 m4 t)
  unfolding four_faces
  twins-four_faces m1 m2 m3 m4 s t x =
      twins-then lent lent' _ _ _ _ s t (any _) (twins-face lent lent' (three 0 1 2) (three 3 1 2) m1 m1 s t refl x) (λ _ s1 t1 _ x1.
      twins-then lent lent' _ _ _ _ s1 t1 (any _) (twins-face lent lent' (three 1 3 2) (three 3 2 0) m2 m2 s1 t1 refl x1) (λ _ s2 t2 _ x2.
      twins-then lent lent' _ _ _ _ s2 t2 (any _) (twins-face lent lent' (three 0 2 3) (three 0 1 3) m3 m3 s2 t2 refl x2) (λ _ s3 t3 _ x3.
      twins-face lent lent' (three 0 3 1) (three 2 1 0) m4 m4 s3 t3 refl x3)))

  pub twins-queue_start : (w : Numbers) (q : ℕ) (tol : Float) (i : ℕ) (b : Bool) (s t : State) → q < 4 → i < 4 → Begun Whatever nothing-kept 4 4 4 q s → Twin lent lent' s t
      → Twins lent lent' (queue_start w tol i b s) (queue_start w tol i b t)
  unfolding queue_start
  twins-queue_start w q tol i b s t lq li h x =
      let n = same-face-normal s t i (omega (arith, h.made_are)) x.same in
      let p = same_point s t i (omega (arith, h.verts_are)) x.same in
      let e : neg (dot_v w.format (normal_at s i) (point_at s i)) ≡ neg (dot_v w.format (normal_at t i) (point_at t i)) = cc in
      twins-do_if lent lent' b b _ _ s t refl (λ _. twins-look lent lent' _ _ s t (twins-queue lent lent' key_at_start tol i _ _ s t e (omega (arith, h.queue_few, h.made_are)) x)) x

  pub twins-queue_four : (w : Numbers) (tol : Float) (a b c d : Bool) (s t : State) → Begun Whatever nothing-kept 4 4 4 0 s → Twin lent lent' s t → Twins lent lent' (queue_four w tol a b c d s) (queue_four w tol a b c d t)
  unfolding queue_four
  twins-queue_four w tol a b c d s t h x =
      let K = nothing-kept in
      twins-then lent lent' _ _ _ _ s t (meets-queue_start Whatever K 4 4 (omega arith) w 0 tol 0 a s (omega arith) (omega arith) h) (twins-queue_start w 0 tol 0 a s t (omega arith) (omega arith) h x) (λ _ s1 t1 h1 x1.
      twins-then lent lent' _ _ _ _ s1 t1 (meets-queue_start Whatever K 4 4 (omega arith) w 1 tol 1 b s1 (omega arith) (omega arith) h1) (twins-queue_start w 1 tol 1 b s1 t1 (omega arith) (omega arith) h1 x1) (λ _ s2 t2 h2 x2.
      twins-then lent lent' _ _ _ _ s2 t2 (meets-queue_start Whatever K 4 4 (omega arith) w 2 tol 2 c s2 (omega arith) (omega arith) h2) (twins-queue_start w 2 tol 2 c s2 t2 (omega arith) (omega arith) h2 x2) (λ _ s3 t3 h3 x3.
      twins-then lent lent' _ _ _ _ s3 t3 (any _) (twins-queue_start w 3 tol 3 d s3 t3 (omega arith) (omega arith) h3 x3) (λ _ s4 t4 _ x4.
      twins-stop_if lent lent' _ _ (nothing none_holds) s4 t4 refl x4))))

  faces_and : Numbers → Float → Made → Made → Made → Made → Act Nil
  faces_and w tol m1 m2 m3 m4 = ◌>>◌ (four_faces m1 m2 m3 m4) (queue_four w tol m1.holds m2.holds m3.holds m4.holds)

  twins-faces_and : (w : Numbers) (tol : Float) (m1 m2 m3 m4 : Made) (s t : State) → Begun Whatever nothing-kept 4 4 0 0 s → Twin lent lent' s t → Twins lent lent' (faces_and w tol m1 m2 m3 m4 s) (faces_and w tol m1 m2 m3 m4 t)
  unfolding faces_and
  twins-faces_and w tol m1 m2 m3 m4 s t h x =
      twins-then lent lent' _ _ _ _ s t (meets-four_faces Whatever nothing-kept m1 m2 m3 m4 s h) (twins-four_faces m1 m2 m3 m4 s t x) (λ _ s1 t1 h1 x1. twins-queue_four w tol _ _ _ _ s1 t1 h1 x1)

  as-faces_and : (o : Out Nil) (w : Numbers) (tol : Float) (m1 m2 m3 m4 n1 n2 n3 n4 : Made) (t : State) → m1 ≡ n1 → m2 ≡ n2 → m3 ≡ n3 → m4 ≡ n4
      → Twins lent lent' o (faces_and w tol m1 m2 m3 m4 t) → Twins lent lent' o (faces_and w tol n1 n2 n3 n4 t)
  as-faces_and o w tol m1 m2 m3 m4 n1 n2 n3 n4 t e1 e2 e3 e4 h = rw (← e1, ← e2, ← e3, ← e4) h

  begun-exchanged : (s : State) → Begun Whatever nothing-kept 4 4 0 0 s → Begun Whatever nothing-kept 4 4 0 0 (with_exchange s)
  begun-exchanged s h = record { verts_are = h.verts_are; made_are = h.made_are; neighbours_in = h.neighbours_in; corners_in = h.corners_in; live_few = h.live_few; queue_in = h.queue_in; queue_few = h.queue_few; none_done = h.none_done; none_most = h.none_most; clean = h.clean; kept = tt }

  pub twins-four : (w : Numbers) (tol : Float) (s t : State) → Begun Whatever nothing-kept 4 4 0 0 s → Twin lent lent' s t → Twins lent lent' (start_four w tol s) (start_four w tol t)
  unfolding start_four faces_and exchange
  twins-four w tol s t h x =
      twins-look lent lent' _ _ s t
      (twins-then lent lent' {P = λ _ s1. Begun Whatever nothing-kept 4 4 0 0 s1} {E = λ _ _. Unit {0}} _ _ _ _ s t
      (meets-do_if _ _ _ _ s (λ _. meets-look _ _ _ s (meets-put _ _ _ s (begun-exchanged s h))) (λ _. h))
      (twins-do_if lent lent' _ _ _ _ s t (same-winds w.format s t (omega (arith, h.verts_are)) x.same) (λ _. twins-look lent lent' _ _ s t (twins-put lent lent' _ _ s t (twin-exchange lent lent' s t (omega (arith, h.verts_are)) x))) x)
      (λ _ s1 t1 h1 x1.
      let l : (i : ℕ) → i < 4 → i < s1.tally.vertices = λ i k. omega (arith, h1.verts_are) in
      let l0 = l 0 (omega arith) in
      let l1 = l 1 (omega arith) in
      let l2 = l 2 (omega arith) in
      let l3 = l 3 (omega arith) in
      twins-look lent lent' _ _ s1 t1
      (as-faces_and _ w tol _ _ _ _ _ _ _ _ t1
      (same-made w s1 t1 0 1 2 l0 l1 l2 x1.same) (same-made w s1 t1 1 3 2 l1 l3 l2 x1.same) (same-made w s1 t1 0 2 3 l0 l2 l3 x1.same) (same-made w s1 t1 0 3 1 l0 l3 l1 x1.same)
      (twins-faces_and w tol (made_of w s1 0 1 2) (made_of w s1 1 3 2) (made_of w s1 0 2 3) (made_of w s1 0 3 1) s1 t1 h1 x1))))

  -- ---- the start, and the run

  module _ (w : World) (x : VoronoiSimplex) (small : x.dim ≤ 3) where
    abbrev F : ℕ
    F = faces_at_start x

    pub twins-faces : (tol : Float) (s t : State) → Early Whatever nothing-kept F x.dim s → Twin lent lent' s t → Twins lent lent' (start_faces w x.dim tol s) (start_faces w x.dim tol t)
    unfolding start_faces
    twins-faces tol s t h y =
        let d = x.dim in
        let K = nothing-kept in
        twins-branch lent lent' (eqb d 3) (eqb d 3) _ _ _ _ s t refl
        (λ e. let q : d ≡ 3 = eqb-true d 3 e in
        let b : Begun Whatever K F 4 0 0 s = subst (λ (n : ℕ). Begun Whatever K F n 0 0 s) (h.four q) h.begins in
        twins-four w.numbers tol s t (subst (λ (n : ℕ). Begun Whatever K n 4 0 0 s) (starts (eqb d 3) e) b) y)
        (λ e. let q = h.two (eqb-false d 3 e) in
        twins-two w h.verts s t q.0 q.1 (subst (λ (n : ℕ). Begun Whatever K n h.verts 0 0 s) (starts-two (eqb d 3) e) h.begins) y)

  pub twins-begin : (w : World) (x : VoronoiSimplex) (s t : State) → Empty s → Twin lent lent' s t → Twins lent lent' (begin w x s) (begin w x t)
  unfolding begin
  twins-begin w x s t e y =
      let K = nothing-kept in
      twins-check lent lent' _ _ (panics not_asimplex) _ _ s t refl y
      (λ q. let small = low-dimension x (not-false _ q) in
      twins-then lent lent' _ _ _ _ s t (meets-vertices Whatever K w x small s e tt) (twins-vertices w x s t small e y)
      (λ _ s1 t1 h1 y1.
      let tol = dist_tol (format_of w) s1.lists.vertices s1.tally.vertices in
      let et = same-tol (format_of w) s1 t1 y1.same in
      twins-look lent lent' _ _ s1 t1
      (twins-then lent lent' _ _ _ _ s1 t1 (meets-faces Whatever K w x small tol s1 h1)
      (subst (λ (z : Float). Twins lent lent' (start_faces w x.dim tol s1) (start_faces w x.dim z t1)) et (twins-faces w x small tol s1 t1 h1 y1))
      (λ _ s2 t2 h2 y2. twins-pure lent lent' _ _ s2 t2 et y2))))

  first_best : World → ℕ → Best
  first_best w i = record { face = i; bound = largest (format_of w); last = zero_f }

  pub twins-expansions : (f : ℕ) (w : World) (tol : Float) (s t : State) → Ready Whatever f 0 s → 0 < s.tally.heap → Twin lent lent' s t → Twins lent lent' (expansions w tol s) (expansions w tol t)
  unfolding expansions first_best
  twins-expansions f w tol s t h l y =
      let i = (entry_at (heap_of s) 0).face in
      let q : i ≡ (entry_at (heap_of t) 0).face = ap (λ (x : Entry). x.face) (alike-entry s.tally.heap (heap_of s) (heap_of t) 0 l (same-heaps s t y.same)) in
      twins-look lent lent' _ _ s t
      (subst (λ (j : ℕ). Twins lent lent' (loop w tol 101 (first_best w i) s) (loop w tol 101 (first_best w j) t)) q
      (twins-loop lent lent' f w 101 0 tol (first_best w i) s t (omega arith) (record { ready = h; best_in = h.sound.queue_in.each.below 0 l }) y))

  -- two runs in any rooms, from stores that are the same
  pub twins-epa : (w : World) (x : VoronoiSimplex) (s t : State) → Empty s → Twin lent lent' s t → Twins lent lent' (epa w x s) (epa w x t)
  unfolding epa
  twins-epa w x s t e y =
      twins-bind lent lent' _ _ _ _ s t (meets-begin Whatever nothing-kept w x s e tt) (twins-begin w x s t e y)
      (λ tol s1 t1 h1 y1. twins-expansions (faces_at_start x) w tol s1 t1 h1.0.0 h1.1 y1)

-- lists that are lent are the same where nothing is used yet
pub twin-lent : (l l' : Lists) → Twin l l' (state_of l none_yet) (state_of l' none_yet)
twin-lent l l' = record {
  same = record {
    tally = refl;
    vertices = alike-none _ _;
    face_ids = alike-none _ _;
    face_floats = alike-none _ _;
    deleted = alike-none _ _;
    edges = alike-none _ _;
    heap_ids = alike-none _ _;
    heap_keys = alike-none _ _;
    pending = alike-none _ _;
  };
  kept = long-itself l;
  kept' = long-itself l';
}
