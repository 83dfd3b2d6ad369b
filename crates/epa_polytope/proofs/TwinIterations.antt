-- Two runs side by side: the expansions. What is read lies below the counts of the one run (`Deleted`, `Growing` and the other stages of Growth.antt), and so of the other. Assumes nothing.
use mathlib.Core.Path.{◌≡◌, refl, sym, ap, subst, ◌∙◌}
use mathlib.Core.Bool.{Bool, true, false}
use Rattle.std.specs.Prelude.{Option, None, Some}
use Prim.Native.Nat.{ℕ, zero, suc, ◌+◌, ◌-◌, ◌*◌, ◌%◌, ◌<◌, ◌≤◌}
use native.Mathlib.Omega.{arith}
use lib.Dec.{eqb, leb}
use lib.Ieee.{Float, Format, lt, neg}
use borrow.Author.Tests.{eqb-false, leb-true, leb-false}
use Rattle.vector.specs.declared.vec3.Vec3.{Vec3}
use Rattle.vector.specs.Vector.{dot_v}
use Rattle.heap.specs.declared.Entry.{Entry}
use Rattle.heap.specs.Heap.{entry_at}
use Rattle.epa_polytope.specs.Silhouette.{Question, WalkAnswer, Ok, Err, recorded_of}
use Rattle.epa_polytope.specs.PlainWalk.{Walking}
use Rattle.epa_polytope.specs.Start.{Walk, World, format_of}
use Rattle.epa_polytope.specs.Stores.{State, the_edges, the_faces, the_pending, normal_at, point_at, corner_at, deleted_at, vertex_at, Lists, Three, room_for, heap_of, Tally, Made}
use Rattle.epa_polytope.specs.Steps.{no_room, nothing, no_silhouette, all_deleted, key_later, Found, new_face_nearer, converged, stuck, heap_empty, enough_expansions, Out, onward, ended, Act, next, ◌>>=◌, ◌>>◌, Nil, pure, stop, look, put, stop_if, do_if, three, push_face, made_of, answer, Numbers}
use Rattle.epa_polytope.specs.Expansion.{delete, can_be_seen_by, passed_tally, after_pass, passed_if, passed, silhouette, link, Expansion, queue_new, grow_at, grow, grow_all, clear_edges, close_ring, regrow, expand, edge_face, edge_corner}
use Rattle.epa_polytope.specs.Run.{Best, bettered, settle, visit, visit_if, pop_entry, pop_live, complete, iterate, loop}
use Rattle.epa_polytope.specs.Bounds.{CornersIn, NeighboursIn}
use Rattle.epa_polytope.specs.Same.{Alike, Same, short, alike}
use Rattle.epa_polytope.proofs.Alike.{alike-entry}
use Rattle.epa_polytope.proofs.PlainAlong.{PlainAlong, first_edge, second_edge, both_edge, placing, first_pending, second_pending, both_pending, both}
use Rattle.epa_polytope.proofs.EitherAlong.{alike-neighbours, along-from}
use Rattle.epa_polytope.proofs.Walks.{Asked}
use Rattle.epa_polytope.proofs.Lengths.{SameLength, same-rooms, same-walked}
use Rattle.epa_polytope.proofs.Moves.{pass_from, with_face, with_link}
use Rattle.epa_polytope.proofs.Steps.{meets-vertex}
use Rattle.epa_polytope.proofs.Growth.{Ready, Visited, Growing, grown, growing, newer, meets-delete, meets-silhouette, meets-grow, meets-grow_all, meets-expand}
use Rattle.epa_polytope.proofs.Iterations.{IsLive, Best-ready, meets-pop_entry, meets-pop_live, visited, better-in, meets-visit_if, meets-complete, meets-iterate}
use Rattle.epa_polytope.proofs.Start.{nothing-kept}
use Rattle.epa_polytope.proofs.Twins.{same-heaps, same-vertex, same_point, same-face-normal, same-corner, same-made, same_answer, Twin, twin-face, twin-pop, twin-link, twin-delete, twin-clear, twin-complete, Twins, both-on, first_short_lem, second_short_lem, twins-bind, twins-then, twins-look, twins-pure, twins-ok, twins-check, twins-do_if, twins-branch, twins-vertex, twins-queue, twins-answer}

abbrev pub Whatever : State → Type 0
Whatever s = Unit {0}

-- a face is seen from a vertex in the one as in the other
same_seen : (k : Format) (s t : State) (p : ℕ) (q : Question) → p < s.tally.vertices → CornersIn s.tally.vertices s.tally.faces s.lists.face_ids → Asked s.tally.faces q → Same s t
    → can_be_seen_by k s.lists p q ≡ can_be_seen_by k t.lists p q
unfolding can_be_seen_by
same_seen k s t p q hp ins y h =
    let f = q.face in
    let lf = y.face_in in
    let l1 : (q.corner + 1) % 3 < 3 = omega arith in
    let l2 : (q.corner + 2) % 3 < 3 = omega arith in
    let c : (j : ℕ) → j < 3 → corner_at s f j ≡ corner_at t f j = λ j lj. same-corner s t f j lf lj h in
    let v : (j : ℕ) → j < s.tally.vertices → vertex_at s.lists.vertices j ≡ vertex_at t.lists.vertices j = λ j lj.
    same-vertex s.tally.vertices s.lists.vertices t.lists.vertices j lj h.vertices in
    let v0 = v _ (ins.below f q.corner lf y.corner_in) in
    let v1 = v _ (ins.below f ((q.corner + 1) % 3) lf l1) in
    let v2 = v _ (ins.below f ((q.corner + 2) % 3) lf l2) in
    rw (← c q.corner y.corner_in, ← c ((q.corner + 1) % 3) l1, ← c ((q.corner + 2) % 3) l2) (rw (v0, v1, v2, v p hp, same-face-normal s t f lf h))

module _ (lent lent' : Lists) where
  -- ---- two steps at once

  twins-link-then : (i c j : ℕ) (k k' : Act Nil) (s t : State) → Twins lent lent' (k (with_link s i c j)) (k' (with_link t i c j)) → Twins lent lent' (◌>>◌ (link i c j) k s) (◌>>◌ (link i c j) k' t)
  unfolding link ◌>>=◌ ◌>>◌ look put
  twins-link-then i c j k k' s t h = h

  twins-face-then : (corners neighbours : Three) (m : Made) (k k' : Act Nil) (s t : State) → Twin lent lent' s t
      → (s.tally.faces < room_for the_faces s.lists → Twin lent lent' (with_face s corners neighbours m) (with_face t corners neighbours m) → Twins lent lent' (k (with_face s corners neighbours m)) (k' (with_face t corners neighbours m)))
      → Twins lent lent' (◌>>◌ (push_face corners neighbours m) k s) (◌>>◌ (push_face corners neighbours m) k' t)
  unfolding push_face ◌>>=◌ ◌>>◌ look put stop_if
  twins-face-then corners neighbours m k k' s t g h = by (leb (room_for the_faces s.lists) s.tally.faces) (leb (room_for the_faces t.lists) t.tally.faces) refl refl
    where
      S : State
      S = with_face s corners neighbours m

      T : State
      T = with_face t corners neighbours m

      same_count : s.tally.faces ≡ t.tally.faces
      same_count = ap (λ (c : Tally). c.faces) g.same.tally

      room_as : room_for the_faces s.lists ≡ room_for the_faces lent
      room_as = same-rooms lent s.lists g.kept the_faces

      room-as' : room_for the_faces t.lists ≡ room_for the_faces lent'
      room-as' = same-rooms lent' t.lists g.kept' the_faces

      by : (p q : Bool) → leb (room_for the_faces s.lists) s.tally.faces ≡ p → leb (room_for the_faces t.lists) t.tally.faces ≡ q
          → Twins lent lent' (next (next (stop_if p (no_room the_faces) s) (λ _. put S)) (λ _. k)) (next (next (stop_if q (no_room the_faces) t) (λ _. put T)) (λ _. k'))
      by true true e d = record { held = alike refl g.same }
      by true false e d =
          first_short_lem lent lent' (k' T) (no_room the_faces) s (short the_faces (omega (arith, room_as, room-as', same_count, leb-true (room_for the_faces s.lists) s.tally.faces e, leb-false (room_for the_faces t.lists) t.tally.faces d)))
      by false true e d =
          second_short_lem lent lent' (k S) (no_room the_faces) t (short the_faces (omega (arith, room_as, room-as', same_count, leb-false (room_for the_faces s.lists) s.tally.faces e, leb-true (room_for the_faces t.lists) t.tally.faces d)))
      by false false e d = h (leb-false _ _ e) (twin-face lent lent' s t corners neighbours m (leb-false _ _ e) (leb-false _ _ d) g)

  pub twins-if_answer : {B : Type 0} (b : Bool) (w : Numbers) (why : Found) (i : ℕ) (k k' : Act B) (s t : State) → i < s.tally.faces → CornersIn s.tally.vertices s.tally.faces s.lists.face_ids
      → Twin lent lent' s t → Twins lent lent' (k s) (k' t) → Twins lent lent' (◌>>◌ (do_if b (answer w why i)) k s) (◌>>◌ (do_if b (answer w why i)) k' t)
  unfolding ◌>>◌ ◌>>=◌ do_if answer look stop
  twins-if_answer true w why i k k' s t l ins g h = record { held = alike (same_answer w.format why s t i l ins g.same) g.same }
  twins-if_answer false w why i k k' s t l ins g h = h

  -- ---- a pass

  same-passed : (s t : State) (T T' : Walking) (n n' : ℕ) → n ≡ n' → Same s t → Alike s.tally.faces T.walk.deleted T'.walk.deleted → Alike (n * 2) T.walk.edges T'.walk.edges
      → T.walk.missed ≡ T'.walk.missed → T.held ≡ T'.held → Alike (T.held * 2) T.pending T'.pending → Same (after_pass s T n) (after_pass t T' n')
  same-passed s t T T' n n' e x d g y z q = record {
    tally = ap (passed_tally n T.held T.walk.missed) x.tally ∙ ap (λ (m : ℕ). passed_tally m T.held T.walk.missed t.tally) e
        ∙ ap (λ (m : ℕ). passed_tally n' m T.walk.missed t.tally) z ∙ ap (λ (m : ℕ). passed_tally n' T'.held m t.tally) y;
    vertices = x.vertices;
    face_ids = x.face_ids;
    face_floats = x.face_floats;
    deleted = d;
    edges = g;
    heap_ids = x.heap_ids;
    heap_keys = x.heap_keys;
    pending = q;
  }

  held-alike : (T T' : Walking) (j : ℕ) → T.held ≡ j → Alike (j * 2) T.pending T'.pending → Alike (T.held * 2) T.pending T'.pending
  held-alike T T' j e a = subst (λ (n : ℕ). Alike (n * 2) T.pending T'.pending) (sym e) a

  -- by what the walks say, whatever they leave
  told-by : (s : State) (T : Walking) {b : Bool} {a : WalkAnswer} → T.short ≡ b → T.walk.answer ≡ a → passed s T ≡ passed_if b a (after_pass s T (recorded_of (room_for the_edges s.lists) a))
  told-by s T {b} {a} eb ea =
      let R = room_for the_edges s.lists in
      ap (λ (x : Bool). passed_if x T.walk.answer (after_pass s T (recorded_of R T.walk.answer))) eb ∙ ap (λ (x : WalkAnswer). passed_if b x (after_pass s T (recorded_of R x))) ea

  no_place : (a : WalkAnswer) (t : State) → passed_if true a t ≡ ended (no_room the_pending) t
  no_place (Ok n) t = refl
  no_place (Err _) t = refl

  told-short : (s : State) (T : Walking) → T.short ≡ true → passed s T ≡ ended (no_room the_pending) (after_pass s T (recorded_of (room_for the_edges s.lists) T.walk.answer))
  told-short s T e = told-by s T e refl ∙ no_place T.walk.answer _

  pub twins-passed : (s t : State) (T T' : Walking) → SameLength lent (after_pass s T 0).lists → SameLength lent' (after_pass t T' 0).lists → Twin lent lent' s t
      → PlainAlong s.tally.faces (room_for the_edges s.lists) (room_for the_edges t.lists) (room_for the_pending s.lists) (room_for the_pending t.lists) T T'
      → Twins lent lent' (passed s T) (passed t T')
  twins-passed s t T T' d d' h (first_edge e x b) =
      subst (λ (o : Out Nil). Twins lent lent' o (passed t T')) (sym (told-by s T e x))
      (first_short_lem lent lent' (passed t T') (no_room the_edges) _ (short the_edges (omega (arith, same-rooms lent s.lists h.kept the_edges, same-rooms lent' t.lists h.kept' the_edges))))
  twins-passed s t T T' d d' h (second_edge e x b) =
      subst (λ (o : Out Nil). Twins lent lent' (passed s T) o) (sym (told-by t T' e x))
      (second_short_lem lent lent' (passed s T) (no_room the_edges) _ (short the_edges (omega (arith, same-rooms lent s.lists h.kept the_edges, same-rooms lent' t.lists h.kept' the_edges))))
  twins-passed s t T T' d d' h (both_edge j g e f) =
      subst (λ (o : Out Nil). Twins lent lent' o (passed t T')) (sym (told-by s T e g.walks.answer))
      (subst (λ (o : Out Nil). Twins lent lent' (ended (no_room the_edges) (after_pass s T (room_for the_edges s.lists))) o) (sym (told-by t T' f g.walks.answer'))
      (record { held = alike refl (same-passed s t T T' _ _ g.walks.rooms h.same g.walks.deleted g.walks.edges g.walks.missed (g.held ∙ sym g.held') (held-alike T T' j g.held g.pending)) }))
  twins-passed s t T T' d d' h (placing (first_pending e b)) =
      subst (λ (o : Out Nil). Twins lent lent' o (passed t T')) (sym (told-short s T e))
      (first_short_lem lent lent' (passed t T') (no_room the_pending) _ (short the_pending (omega (arith, same-rooms lent s.lists h.kept the_pending, same-rooms lent' t.lists h.kept' the_pending))))
  twins-passed s t T T' d d' h (placing (second_pending e b)) =
      subst (λ (o : Out Nil). Twins lent lent' (passed s T) o) (sym (told-short t T' e))
      (second_short_lem lent lent' (passed s T) (no_room the_pending) _ (short the_pending (omega (arith, same-rooms lent s.lists h.kept the_pending, same-rooms lent' t.lists h.kept' the_pending))))
  twins-passed s t T T' d d' h (placing (both_pending n j g e f p)) =
      subst (λ (o : Out Nil). Twins lent lent' o (passed t T')) (sym (told-by s T e g.walks.answer))
      (subst (λ (o : Out Nil). Twins lent lent' (ended (no_room the_pending) (after_pass s T n)) o) (sym (told-by t T' f g.walks.answer'))
      (record { held = alike refl (same-passed s t T T' n n refl h.same g.walks.deleted g.walks.edges g.walks.missed (g.held ∙ sym g.held') (held-alike T T' j g.held g.pending)) }))
  twins-passed s t T T' d d' h (placing (both n j g e f)) =
      subst (λ (o : Out Nil). Twins lent lent' o (passed t T')) (sym (told-by s T e g.walks.answer))
      (subst (λ (o : Out Nil). Twins lent lent' (onward tt (after_pass s T n)) o) (sym (told-by t T' f g.walks.answer'))
      (both-on lent lent' tt tt refl (record { same = same-passed s t T T' n n refl h.same g.walks.deleted g.walks.edges g.walks.missed (g.held ∙ sym g.held') (held-alike T T' j g.held g.pending); kept = d; kept' = d' })))

  pub twins-silhouette : (y : Walk) (w : Numbers) (p i : ℕ) (s t : State) → NeighboursIn s.tally.faces s.tally.faces s.lists.face_ids
      → CornersIn s.tally.vertices s.tally.faces s.lists.face_ids → i < s.tally.faces → p < s.tally.vertices → Twin lent lent' s t
      → Twins lent lent' (silhouette y w p i s) (silhouette y w p i t)
  unfolding silhouette
  twins-silhouette y w p i s t a ins l hp h =
      let N = s.tally.faces in
      let x = h.same in
      let made : N ≡ t.tally.faces = ap (λ (c : Tally). c.faces) x.tally in
      let b : NeighboursIn t.tally.faces t.tally.faces t.lists.face_ids = subst (λ (n : ℕ). NeighboursIn n n t.lists.face_ids) made (alike-neighbours N s.lists.face_ids t.lists.face_ids x.face_ids a) in
      twins-passed s t (pass_from y w s p i) (pass_from y w t p i) (same-walked lent y w s p i a l h.kept) (same-walked lent' y w t p i b (rw (← made) l) h.kept') h
      (along-from w s t p i a l x (λ q z. same_seen w.format s t p q hp ins z x) y)

  -- ---- an expansion

  module _ (f : ℕ) (w : Numbers) (k : ℕ) (u : Expansion) where
    module _ (first all : ℕ) (face_in : u.face < first) where
      pub twins-queue_new : (left : ℕ) (s t : State) (i : ℕ) → i < s.tally.faces → Growing Whatever f k u.point first all left s → s.tally.heap < s.tally.faces → Twin lent lent' s t
          → Twins lent lent' (queue_new w u i s) (queue_new w u i t)
      unfolding queue_new
      twins-queue_new left s t i l h q g =
          let c : corner_at s i 0 ≡ corner_at t i 0 = same-corner s t i 0 l (omega arith) g.same in
          let n : normal_at s i ≡ normal_at t i = same-face-normal s t i l g.same in
          let p : point_at s (corner_at s i 0) ≡ point_at t (corner_at s i 0) = same_point s t (corner_at s i 0) (h.corners_in.below i 0 l (omega arith)) g.same in
          let p' : point_at s (corner_at s i 0) ≡ point_at t (corner_at t i 0) = p ∙ ap (λ (j : ℕ). point_at t j) c in
          let d : dot_v w.format (normal_at s i) (point_at s (corner_at s i 0)) ≡ dot_v w.format (normal_at t i) (point_at t (corner_at t i 0)) =
          ap (λ (v : Vec3). dot_v w.format v (point_at s (corner_at s i 0))) n ∙ ap (λ (v : Vec3). dot_v w.format (normal_at t i) v) p' in
          twins-look lent lent' _ _ s t
          (twins-branch lent lent' _ _ _ _ _ _ s t (ap (λ (x : Float). lt x u.dist) d)
          (λ _. twins-answer lent lent' w new_face_nearer u.face s t (omega (arith, h.first_in)) h.corners_in g)
          (λ _. twins-queue lent lent' key_later u.tol i _ _ s t (ap neg d) q g))

      body : ℕ → ℕ → ℕ → ℕ → ℕ → Made → Act Nil
      body g c n a b m = ◌>>◌ (link g ((c + 1) % 3) n) (◌>>◌ (push_face (three a b u.point) (three g (n + 1) (n - 1)) m) (do_if m.holds (queue_new w u n)))

      twins-body : (left : ℕ) (s t : State) (g c a b : ℕ) (m : Made) → g < first → a < s.tally.vertices → b < s.tally.vertices → Growing Whatever f k u.point first all (suc left) s → Twin lent lent' s t
          → Twins lent lent' (body g c s.tally.faces a b m s) (body g c s.tally.faces a b m t)
      unfolding body
      twins-body left s t g c a b m hg ain bin h x =
          let n = s.tally.faces in
          twins-link-then g ((c + 1) % 3) n _ _ s t
          (twins-face-then (three a b u.point) (three g (n + 1) (n - 1)) m _ _ _ _ (twin-link lent lent' s t g ((c + 1) % 3) n (omega (arith, h.first_in)) (omega arith) x)
          (λ room y.
          let gr = grown Whatever nothing-kept f w k u first all left s h g c a b m hg ain bin room in
          twins-do_if lent lent' m.holds m.holds _ _ _ _ refl (λ _. twins-queue_new left _ _ n (omega arith) gr.0 gr.1 y) y))

      as-body : (x : Out Nil) (g c n n' a a' b b' : ℕ) (m m' : Made) (t : State) → n ≡ n' → a ≡ a' → b ≡ b' → m ≡ m' → Twins lent lent' x (body g c n a b m t) → Twins lent lent' x (body g c n' a' b' m' t)
      as-body x g c n n' a a' b b' m m' t en ea eb em h = rw (← en, ← ea, ← eb, ← em) h

      pub twins-grow_at : (left : ℕ) (s t : State) (g c : ℕ) → g < first → c < 3 → Growing Whatever f k u.point first all (suc left) s → Twin lent lent' s t
          → Twins lent lent' (grow_at w u g c s) (grow_at w u g c t)
      unfolding grow_at body
      twins-grow_at left s t g c hg hc h x =
          let a = corner_at s g ((c + 2) % 3) in
          let b = corner_at s g ((c + 1) % 3) in
          let lg : g < s.tally.faces = omega (arith, h.first_in) in
          let ain : a < s.tally.vertices = h.corners_in.below g ((c + 2) % 3) lg (omega arith) in
          let bin : b < s.tally.vertices = h.corners_in.below g ((c + 1) % 3) lg (omega arith) in
          let ea : a ≡ corner_at t g ((c + 2) % 3) = same-corner s t g ((c + 2) % 3) lg (omega arith) x.same in
          let eb : b ≡ corner_at t g ((c + 1) % 3) = same-corner s t g ((c + 1) % 3) lg (omega arith) x.same in
          let em : made_of w s a b u.point ≡ made_of w t (corner_at t g ((c + 2) % 3)) (corner_at t g ((c + 1) % 3)) u.point =
          same-made w s t a b u.point ain bin h.stage.point_in x.same ∙ ap (λ (j : ℕ). made_of w t j b u.point) ea ∙ ap (λ (j : ℕ). made_of w t (corner_at t g ((c + 2) % 3)) j u.point) eb in
          twins-look lent lent' _ _ s t
          (as-body (body g c s.tally.faces a b (made_of w s a b u.point) s) g c s.tally.faces t.tally.faces a _ b _ (made_of w s a b u.point) _ t (ap (λ (c : Tally). c.faces) x.same.tally) ea eb em
          (twins-body left s t g c a b (made_of w s a b u.point) hg ain bin h x))

      same-edge : (s t : State) (F C F' C' : ℕ) → F ≡ F' → C ≡ C' → deleted_at s F ≡ deleted_at t F → Twin lent lent' s t → Twins lent lent' (grow_at w u F C s) (grow_at w u F C t)
          → Twins lent lent' (do_if (eqb (deleted_at s F) 0) (grow_at w u F C) s) (do_if (eqb (deleted_at t F') 0) (grow_at w u F' C') t)
      same-edge s t F C F' C' ef ec ed x h =
          rw (← ef, ← ec) (twins-do_if lent lent' _ _ _ _ s t (ap (λ (j : ℕ). eqb j 0) ed) (λ _. h) x)

      pub twins-grow : (left : ℕ) (s t : State) (i : ℕ) → i < all → Growing Whatever f k u.point first all (suc left) s → Twin lent lent' s t → Twins lent lent' (grow w u i s) (grow w u i t)
      unfolding grow
      twins-grow left s t i hi h x =
          let F = edge_face s.lists.edges i in
          let C = edge_corner s.lists.edges i in
          let le : i < s.tally.edges = omega (arith, h.all_in) in
          let l_f : F < first = h.edges_in.faces i hi in
          twins-look lent lent' _ _ s t
          (same-edge s t F C _ _ (x.same.edges.same (i * 2) 0 (omega arith)) (x.same.edges.same (i * 2 + 1) 0 (omega arith)) (x.same.deleted.same F 1 (omega (arith, h.first_in))) x
          (twins-grow_at left s t F C l_f (h.edges_in.corners i hi) h x))

      pub twins-grow_all : (left : ℕ) (s t : State) (i : ℕ) → i + left ≡ all → Growing Whatever f k u.point first all left s → Twin lent lent' s t → Twins lent lent' (grow_all w u left i s) (grow_all w u left i t)
      unfolding grow_all
      twins-grow_all zero s t i e h x = twins-ok lent lent' s t x
      twins-grow_all (suc left) s t i e h x =
          twins-then lent lent' _ _ _ _ s t (meets-grow Whatever nothing-kept f w k u first all left s i (omega arith) h) (twins-grow left s t i (omega arith) h x)
          (λ _ s1 t1 h1 x1. twins-grow_all left s1 t1 (i + 1) (omega arith) h1 x1)

      -- ---- the ring

      ring : ℕ → Act Nil
      ring made = ◌>>◌ (stop_if (eqb made first) (nothing all_deleted)) (◌>>◌ (link first 2 (made - 1)) (◌>>◌ (link (made - 1) 1 first) clear_edges))

      pub twins-clear : (s t : State) → Twin lent lent' s t → Twins lent lent' (clear_edges s) (clear_edges t)
      unfolding clear_edges ◌>>=◌ look put
      twins-clear s t x = both-on lent lent' tt tt refl (twin-clear lent lent' s t x)

      twins-ring : (s t : State) → first ≤ s.tally.faces → Twin lent lent' s t → Twins lent lent' (ring s.tally.faces s) (ring s.tally.faces t)
      unfolding ring
      twins-ring s t l x =
          let n = s.tally.faces in
          twins-check lent lent' _ _ (nothing all_deleted) _ _ s t refl x
          (λ e. let lt1 : first < n = newer Whatever nothing-kept f w k u n first l (eqb-false _ _ e) in
          let x1 = twin-link lent lent' s t first 2 (n - 1) lt1 (omega arith) x in
          let ln : n - 1 < n = omega arith in
          let x2 = twin-link lent lent' (with_link s first 2 (n - 1)) (with_link t first 2 (n - 1)) (n - 1) 1 first ln (omega arith) x1 in
          twins-link-then first 2 (n - 1) _ _ s t (twins-link-then (n - 1) 1 first _ _ _ _ (twins-clear _ _ x2)))

      pub twins-close : (s t : State) → first ≤ s.tally.faces → Twin lent lent' s t → Twins lent lent' (close_ring first s) (close_ring first t)
      unfolding close_ring ring
      twins-close s t l x =
          twins-look lent lent' _ _ s t (subst (λ (n : ℕ). Twins lent lent' (ring s.tally.faces s) (ring n t)) (ap (λ (c : Tally). c.faces) x.same.tally) (twins-ring s t l x))

      pub twins-rest : (s t : State) → Growing Whatever f k u.point first all all s → Twin lent lent' s t
          → Twins lent lent' (◌>>◌ (grow_all w u all 0) (close_ring first) s) (◌>>◌ (grow_all w u all 0) (close_ring first) t)
      twins-rest s t h x =
          twins-then lent lent' _ _ _ _ s t (meets-grow_all Whatever nothing-kept f w k u first all all 0 all s 0 (omega arith) (omega arith) h) (twins-grow_all all s t 0 (omega arith) h x)
          (λ _ s1 t1 h1 x1. twins-close s1 t1 h1.first_in x1)

    as-rest : (o : Out Nil) (first first' all all' : ℕ) (t : State) → first ≡ first' → all ≡ all' → Twins lent lent' o (◌>>◌ (grow_all w u all 0) (close_ring first) t) → Twins lent lent' o (◌>>◌ (grow_all w u all' 0) (close_ring first') t)
    as-rest o first first' all all' t e1 e2 h = rw (← e1, ← e2) h

    pub twins-delete : (i : ℕ) (s t : State) → i < s.tally.faces → Twin lent lent' s t → Twins lent lent' (delete i s) (delete i t)
    unfolding delete ◌>>=◌ look put
    twins-delete i s t l x = both-on lent lent' tt tt refl (twin-delete lent lent' s t i l x)

    pub twins-expand : (y : Walk) (s t : State) → Visited Whatever f k u.point u.face s → Twin lent lent' s t → Twins lent lent' (expand y w u s) (expand y w u t)
    unfolding expand regrow
    twins-expand y s t h x =
        let K = nothing-kept in
        twins-then lent lent' _ _ _ _ s t (meets-delete Whatever K f w k u u.face s h) (twins-delete u.face s t h.face_in x) λ _ s1 t1 h1 x1.
        twins-then lent lent' _ _ _ _ s1 t1 (meets-silhouette Whatever K f w k u y u.face s.tally.faces s1 h1)
        (twins-silhouette y w u.point u.face s1 t1 h1.sound.neighbours_in h1.sound.corners_in h1.face_in h1.stage.point_in x1) λ _ s2 t2 h2 x2.
        twins-look lent lent' _ _ s2 t2
        (twins-check lent lent' _ _ (nothing no_silhouette) _ _ s2 t2 (ap (λ (n : ℕ). eqb n 0) (ap (λ (c : Tally). c.edges) x2.same.tally)) x2
        (λ _. as-rest _ s2.tally.faces t2.tally.faces s2.tally.edges t2.tally.edges t2 (ap (λ (c : Tally). c.faces) x2.same.tally) (ap (λ (c : Tally). c.edges) x2.same.tally)
        (twins-rest s2.tally.faces s2.tally.edges (omega (arith, h.face_in, h2.same)) s2 t2 (growing Whatever K f w k u s.tally.faces s2 h2) x2)))

  -- ---- the loop

  module _ (f : ℕ) (w : World) where
    pub twins-pop_entry : (n : ℕ) (s t : State) → s.tally.heap ≡ suc n → Twin lent lent' s t → Twins lent lent' (pop_entry n s) (pop_entry n t)
    unfolding pop_entry ◌>>=◌ ◌>>◌ look put pure
    twins-pop_entry n s t e x = both-on lent lent' (entry_at (heap_of s) 0) (entry_at (heap_of t) 0) (alike-entry s.tally.heap (heap_of s) (heap_of t) 0 (omega arith) (same-heaps s t x.same)) (twin-pop lent lent' s t n e x)

    pub twins-pop_live : (k n : ℕ) (s t : State) → s.tally.heap ≡ n → Ready Whatever f k s → Twin lent lent' s t → Twins lent lent' (pop_live n s) (pop_live n t)
    unfolding pop_live
    twins-pop_live k zero s t e h x = twins-pure lent lent' None None s t refl x
    twins-pop_live k (suc n) s t e h x =
        twins-bind lent lent' _ _ _ _ s t (meets-pop_entry Whatever nothing-kept f w k n s e h) (twins-pop_entry n s t e x)
        (λ a s1 t1 p x1. twins-look lent lent' _ _ s1 t1 (twins-branch lent lent' _ _ _ _ _ _ s1 t1 (ap (λ (j : ℕ). eqb j 0) (x1.same.deleted.same a.face 1 p.0.2))
        (λ _. twins-pure lent lent' (Some a) (Some a) s1 t1 refl x1)
        (λ _. twins-pop_live k n s1 t1 p.0.1 p.0.0 x1)))

    pub twins-settle : (k : ℕ) (tol : Float) (b : Best) (e : Entry) (p : ℕ) (c : Float) (s t : State) → Visited Whatever f k p e.face s → b.face < s.tally.faces → Twin lent lent' s t
        → Twins lent lent' (settle w tol b e p c s) (settle w tol b e p c t)
    unfolding settle
    twins-settle k tol b e p c s t h hb x =
        let l : (bettered b e.face c).face < s.tally.faces = better-in Whatever nothing-kept f w b e.face s.tally.faces c hb h.face_in in
        twins-if_answer _ w.numbers converged _ _ _ s t l h.sound.corners_in x
        (twins-if_answer _ w.numbers stuck _ _ _ s t l h.sound.corners_in x
        (twins-then lent lent' _ _ _ _ s t (meets-expand Whatever nothing-kept f w.numbers k _ w.walk_by s h) (twins-expand f w.numbers k _ w.walk_by s t h x)
        (λ _ s1 t1 h1 x1. twins-pure lent lent' _ _ s1 t1 refl x1)))

    as-settle : (tol : Float) (b : Best) (e : Entry) (p p' : ℕ) (c c' : Float) (o : Out Best) (t : State) → p ≡ p' → c ≡ c' → Twins lent lent' o (settle w tol b e p c t) → Twins lent lent' o (settle w tol b e p' c' t)
    as-settle tol b e p p' c c' o t ep ec h = rw (← ep, ← ec) h

    pub twins-visit : (k : ℕ) (tol : Float) (b : Best) (e : Entry) (s t : State) → k ≤ 100 → Best-ready Whatever nothing-kept f w k b s → IsLive (Some e) s → Twin lent lent' s t
        → Twins lent lent' (visit w tol b e s) (visit w tol b e t)
    unfolding visit
    twins-visit k tol b e s t l hb a x =
        let n : normal_at s e.face ≡ normal_at t e.face = same-face-normal s t e.face a.0 x.same in
        let h = hb.ready in
        twins-look lent lent' _ _ s t
        (twins-then lent lent' {P = λ _ s1. Visited Whatever f k s.tally.vertices e.face s1 × (s1.tally.faces ≡ s.tally.faces)} {E = λ _ _. Unit {0}} _ _ _ _ s t
        (meets-vertex _ _ _ s (λ _. tt) (λ room. (visited Whatever nothing-kept f w k s e.face _ l h a room, refl)))
        (twins-vertex lent lent' _ _ s t (ap (λ (v : Vec3). w.supp v) n) x)
        (λ _ s1 t1 h1 x1. as-settle tol b e s.tally.vertices t.tally.vertices _ _ _ t1 (ap (λ (c : Tally). c.vertices) x.same.tally) (ap (λ (v : Vec3). dot_v (format_of w) (w.supp v).point v) n)
        (twins-settle k tol b e s.tally.vertices _ s1 t1 h1.0 (omega (arith, hb.best_in, h1.1)) x1)))

    pub twins-visit_if : (k : ℕ) (tol : Float) (b : Best) (o : Option Entry) (s t : State) → k ≤ 100 → Best-ready Whatever nothing-kept f w k b s → IsLive o s → Twin lent lent' s t
        → Twins lent lent' (visit_if w tol b o s) (visit_if w tol b o t)
    twins-visit_if k tol b None s t l h a x = twins-answer lent lent' w.numbers heap_empty b.face s t h.best_in h.ready.sound.corners_in x
    twins-visit_if k tol b (Some e) s t l h a x = twins-visit k tol b e s t l h a x

    pub twins-complete : (s t : State) → Twin lent lent' s t → Twins lent lent' (complete s) (complete t)
    unfolding complete ◌>>=◌ look put
    twins-complete s t x = both-on lent lent' tt tt refl (twin-complete lent lent' s t x)

    pub twins-iterate : (k : ℕ) (tol : Float) (b : Best) (s t : State) → k ≤ 100 → Best-ready Whatever nothing-kept f w k b s → Twin lent lent' s t
        → Twins lent lent' (iterate w tol b s) (iterate w tol b t)
    unfolding iterate
    twins-iterate k tol b s t l h x =
        let K = nothing-kept in
        twins-look lent lent' _ _ s t
        (twins-bind lent lent' _ _ _ _ s t (meets-pop_live Whatever K f w k s.tally.heap s refl h.ready)
        (subst (λ (n : ℕ). Twins lent lent' (pop_live s.tally.heap s) (pop_live n t)) (ap (λ (c : Tally). c.heap) x.same.tally) (twins-pop_live k s.tally.heap s t refl h.ready x))
        (λ o s1 t1 p x1.
        let h1 : Best-ready Whatever K f w k b s1 = record { ready = p.0; best_in = rw p.2 h.best_in } in
        twins-bind lent lent' _ _ _ _ s1 t1 (meets-visit_if Whatever K f w k tol b o s1 l h1 p.1) (twins-visit_if k tol b o s1 t1 l h1 p.1 x1)
        (λ b1 s2 t2 h2 x2.
        twins-then lent lent' _ _ _ _ s2 t2 (meets-complete Whatever K f w k b1 s2 h2) (twins-complete s2 t2 x2)
        (λ _ s3 t3 h3 x3. twins-pure lent lent' b1 b1 s3 t3 refl x3))))

    pub twins-loop : (n k : ℕ) (tol : Float) (b : Best) (s t : State) → k + n ≡ 101 → Best-ready Whatever nothing-kept f w k b s → Twin lent lent' s t
        → Twins lent lent' (loop w tol n b s) (loop w tol n b t)
    unfolding loop
    twins-loop zero k tol b s t l h x = twins-answer lent lent' w.numbers enough_expansions b.face s t h.best_in h.ready.sound.corners_in x
    twins-loop (suc n) k tol b s t l h x =
        twins-bind lent lent' _ _ _ _ s t (meets-iterate Whatever nothing-kept f w k tol b s (omega arith) h) (twins-iterate k tol b s t (omega arith) h x)
        (λ b1 s1 t1 h1 x1. twins-loop n (suc k) tol b1 s1 t1 (omega arith) h1 x1)
