-- What holds of a plain walk at every moment, whatever room it has: how many questions are held, edges recorded, faces deleted and lookups missed, and the places that it writes. By what each of its
-- moves keeps: a question comes out, is answered, and goes in. Assumes nothing.
use mathlib.Core.Path.{◌≡◌, refl, sym, ap, subst, ◌∙◌}
use mathlib.Core.Bool.{Bool, true, false}
use mathlib.Core.List.{List}
use Prim.Native.Nat.{ℕ, zero, suc, ◌+◌, ◌*◌, ◌/◌, ◌%◌, ◌<◌, ◌≤◌, max}
use native.Mathlib.Nat.{le_refl}
use native.Mathlib.Omega.{arith}
use native.Mathlib.Decide.{ℕ_discrete}
use lib.ListN.{length, get_or, set, length-set}
use lib.Seq.{get_or-set_same, get_or-set_other}
use lib.Dec.{eqb, ltb}
use borrow.Author.Tests.{eqb-true, ltb-true, ltb-false}
use Rattle.epa_polytope.specs.Stores.{live_to}
use Rattle.epa_polytope.specs.Silhouette.{Question, WalkAnswer, Ok, Err, Mesh, Walked, with_missed, pair_put, noted, entered, recorded_of}
use Rattle.epa_polytope.specs.PlainWalk.{Walking, walking, put_if, put_in, question_at, without, answer_if, answer_question, turn, turns, plain_walk, plain_pass}
use Rattle.epa_polytope.specs.Bounds.{NeighboursIn}
use Rattle.epa_polytope.specs.Rule.{Returned}
use Rattle.epa_polytope.proofs.Basics.{no_edges, live-delete}
use Rattle.epa_polytope.proofs.Places.{stays, after, one_set, reads-set, used, given_back}
use Rattle.epa_polytope.proofs.Walks.{Asked, asked-facing, asked_of, edge_room, Recorded, Reached, reached-after, reached-noted, noted-deletes-none, asked-noted, edges-noted, misses-noted, one_more}
use Rattle.epa_polytope.proofs.PlainWalks.{turn-short, turn-full, turn-none, turn-takes}

-- ---- the places of a question

same_length : (l : List ℕ) (h a b : ℕ) → length (set (set l (h * 2) a) (h * 2 + 1) b) ≡ length l
same_length l h a b = length-set (set l (h * 2) a) (h * 2 + 1) b ∙ length-set l (h * 2) a

-- another question's places are as they were
other-stays : (l : List ℕ) (h a b i : ℕ) → (i ≡ h → ⊥) → question_at (set (set l (h * 2) a) (h * 2 + 1) b) i ≡ question_at l i
other-stays l h a b i e =
    let first = set l (h * 2) a in
    rw (get_or-set_other first (h * 2 + 1) (i * 2) b 0 (λ z. omega arith), get_or-set_other l (h * 2) (i * 2) a 0 (λ z. e (omega arith)))
    (rw (get_or-set_other first (h * 2 + 1) (i * 2 + 1) b 0 (λ z. e (omega arith)), get_or-set_other l (h * 2) (i * 2 + 1) a 0 (λ z. omega arith)))

-- what is put is read
put_is : (l : List ℕ) (h : ℕ) (q : Question) → h < length l / 2 → question_at (pair_put l h q) h ≡ q
put_is l h q le =
    let first = set l (h * 2) q.face in
    rw (
      get_or-set_same first (h * 2 + 1) q.corner 0 (omega (arith, length-set l (h * 2) q.face)),
      get_or-set_other first (h * 2 + 1) (h * 2) q.corner 0 (λ z. omega arith),
      get_or-set_same l (h * 2) q.face 0 (omega arith),
    )

-- where the last of h + 1 comes out, its places are given back
comes_back : (l l0 : List ℕ) (h m : ℕ) → suc h ≤ m → Returned 0 (suc h * 2) (m * 2) l l0 → Returned 0 (h * 2) (m * 2) (without l h) l0
comes_back l l0 h m g r =
    given_back r (without l h) (h * 2) (omega arith)
    (after (le_refl _) (one_set (set l (h * 2) 0) (h * 2 + 1) 0 (suc h * 2) (omega arith)) (one_set l (h * 2) 0 (suc h * 2) (omega arith)))
    (record { zeros = λ i a b. by i a b (ℕ_discrete i (h * 2 + 1)) })
  where
    by : (i : ℕ) → h * 2 ≤ i → i < suc h * 2 → Dec (i ≡ h * 2 + 1) → get_or (without l h) i 0 ≡ 0
    by i a b (yes e) = rw e (reads-set (set l (h * 2) 0) (h * 2 + 1) 0)
    by i a b (no e) = let first : i ≡ h * 2 = lower a b e in rw first (get_or-set_other (set l (h * 2) 0) (h * 2 + 1) (h * 2) 0 0 (λ z. omega arith) ∙ reads-set l (h * 2) 0)
      where
        lower : h * 2 ≤ i → i < suc h * 2 → (i ≡ h * 2 + 1 → ⊥) → i ≡ h * 2
        lower a b e = omega arith

-- and where one goes in, they are used
goes_in : (l l0 : List ℕ) (h m : ℕ) (q : Question) → h ≤ m → Returned 0 (h * 2) (m * 2) l l0 → Returned 0 ((h + 1) * 2) (max m (h + 1) * 2) (pair_put l h q) l0
goes_in l l0 h m q g r =
    let e : max (m * 2) ((h + 1) * 2) ≡ max m (h + 1) * 2 = omega arith in
    rw (← e) (used r (pair_put l h q) ((h + 1) * 2) (omega arith)
    (after (le_refl _) (one_set (set l (h * 2) q.face) (h * 2 + 1) q.corner ((h + 1) * 2) (omega arith)) (one_set l (h * 2) q.face ((h + 1) * 2) (omega arith))))

-- ---- at every moment

-- among N faces, from the walk w over the lent list l0: what holds where k questions are in hand, taken out or still to be put in, and B bounds the questions, the edges and the live faces together
pub record Steady (N : ℕ) (w : Walked) (l0 : List ℕ) (B k : ℕ) (s : Walking) : Type 0 where
  pub asked : (i : ℕ) → i < s.held → Asked N (question_at s.pending i)
  pub few : asked_of (edge_room w) s.walk.answer + live_to N s.walk.deleted + s.held + k ≤ B
  pub missed : s.walk.missed + 2 * live_to N s.walk.deleted ≤ w.missed + 2 * live_to N w.deleted
  pub fewer : live_to N s.walk.deleted ≤ live_to N w.deleted
  pub recorded : Recorded N s.walk s.walk.answer
  pub reached : Reached N w s.walk
  pub marks : length s.walk.deleted ≡ length w.deleted
  pub places : length s.pending ≡ length l0
  pub fits : s.held ≤ length l0 / 2
  pub roomy : B ≤ length l0 / 2 → s.short ≡ false
  pub top : ℕ
  pub held_below : s.held ≤ top
  pub top_fits : top ≤ length l0 / 2
  pub given : Returned 0 (s.held * 2) (top * 2) s.pending l0

module _ (m : Mesh) (N : ℕ) (h : NeighboursIn N N m.ids) (w : Walked) (l0 : List ℕ) (B : ℕ) where
  abbrev At : ℕ → Walking → Type 0
  At k s = Steady N w l0 B k s

  -- ---- the moves

  -- the last question comes out
  steady-out : (k j : ℕ) (s : Walking) → s.held ≡ suc j → At k s → At (suc k) (walking s.walk (without s.pending j) j false)
  steady-out k j s e st = record {
    asked = λ i l. rw (other-stays s.pending j 0 0 i (λ z. omega arith)) (st.asked i (omega (arith, e)));
    few = omega (arith, st.few, e);
    missed = st.missed;
    fewer = st.fewer;
    recorded = st.recorded;
    reached = st.reached;
    marks = st.marks;
    places = same_length s.pending j 0 0 ∙ st.places;
    fits = omega (arith, st.fits, e);
    roomy = λ b. refl;
    top = st.top;
    held_below = omega (arith, st.held_below, e);
    top_fits = st.top_fits;
    given = comes_back s.pending l0 j st.top (omega (arith, st.held_below, e)) (subst (λ (n : ℕ). Returned 0 (n * 2) (st.top * 2) s.pending l0) e st.given);
  }

  -- one in hand is dropped
  steady-drop : (k : ℕ) (s : Walking) → At (suc k) s → At k s
  steady-drop k s st = record {
    asked = st.asked;
    few = omega (arith, st.few);
    missed = st.missed;
    fewer = st.fewer;
    recorded = st.recorded;
    reached = st.reached;
    marks = st.marks;
    places = st.places;
    fits = st.fits;
    roomy = st.roomy;
    top = st.top;
    held_below = st.held_below;
    top_fits = st.top_fits;
    given = st.given;
  }

  -- one in hand is an edge
  steady-note : (k n : ℕ) (s : Walking) (q : Question) → s.walk.answer ≡ Ok n → Asked N q → At (suc k) s → At k (walking (noted s.walk n q) s.pending s.held s.short)
  steady-note k n s q e y st =
      let R = edge_room w in
      let room : edge_room s.walk ≡ R = ap (λ (x : ℕ). x / 2) st.reached.same_room in
      record {
        asked = st.asked;
        few = omega (arith, st.few, asked-noted m N h s.walk n q R room, ap (asked_of R) e);
        missed = omega (arith, st.missed, misses-noted N s.walk n q);
        fewer = rw (noted-deletes-none s.walk n q) st.fewer;
        recorded = edges-noted m N h s.walk n q y (subst (λ (a : WalkAnswer). Recorded N s.walk a) e st.recorded);
        reached = reached-after st.reached (reached-noted m N h s.walk n q e st.reached.fits);
        marks = ap (λ (d : List ℕ). length d) (noted-deletes-none s.walk n q) ∙ st.marks;
        places = st.places;
        fits = st.fits;
        roomy = st.roomy;
        top = st.top;
        held_below = st.held_below;
        top_fits = st.top_fits;
        given = st.given;
      }

  as-deleted : (s : Walked) (q : Question) (a : WalkAnswer) → Recorded N s a → Recorded N (entered m s q) a
  as-deleted s q (Ok n) i = i
  as-deleted s q (Err _) i = tt

  -- one in hand is of a face that is seen: there are two in hand then, and a live face less
  steady-enter : (k : ℕ) (s : Walking) (q : Question) → get_or s.walk.deleted q.face 1 ≡ 0 → Asked N q → At (suc k) s
      → At (suc (suc k)) (walking (entered m s.walk q) s.pending s.held s.short)
  steady-enter k s q z y st =
      let less = live-delete N s.walk.deleted q.face y.face_in z in
      let once = with_missed m.ids q.face ((q.corner + 2) % 3) s.walk.missed in
      record {
        asked = st.asked;
        few = omega (arith, st.few, less);
        missed = omega (arith, st.missed, less, one_more m.ids q.face ((q.corner + 2) % 3) s.walk.missed, one_more m.ids q.face q.corner once);
        fewer = omega (arith, st.fewer, less);
        recorded = as-deleted s.walk q s.walk.answer st.recorded;
        reached = record {
          same_room = st.reached.same_room;
          more = st.reached.more;
          fits = st.reached.fits;
          of_deleted = after (le_refl N) (one_set s.walk.deleted q.face 1 N y.face_in) st.reached.of_deleted;
          of_edges = st.reached.of_edges;
        };
        marks = length-set s.walk.deleted q.face 1 ∙ st.marks;
        places = st.places;
        fits = st.fits;
        roomy = st.roomy;
        top = st.top;
        held_below = st.held_below;
        top_fits = st.top_fits;
        given = st.given;
      }

  -- one in hand goes in, or finds no place
  pub steady-in : (k : ℕ) (s : Walking) (q : Question) → Asked N q → At (suc k) s → At k (put_in s q)
  unfolding put_in
  steady-in k s q y st = by s.short (ltb s.held (length s.pending / 2)) refl refl
    where
      half : length s.pending / 2 ≡ length l0 / 2
      half = ap (λ (x : ℕ). x / 2) st.places

      each : (i : ℕ) → i < s.held + 1 → s.held < length s.pending / 2 → Dec (i ≡ s.held) → Asked N (question_at (pair_put s.pending s.held q) i)
      each i l room (yes e) = rw (e, put_is s.pending s.held q room) y
      each i l room (no e) = rw (other-stays s.pending s.held q.face q.corner i e) (st.asked i (lower l e))
        where
          lower : i < s.held + 1 → (i ≡ s.held → ⊥) → i < s.held
          lower l e = omega arith

      by : (b r : Bool) → s.short ≡ b → ltb s.held (length s.pending / 2) ≡ r → At k (put_if b r s q)
      by true r eb er = steady-drop k s st
      by false true eb er =
          let room = ltb-true s.held (length s.pending / 2) er in
          record {
            asked = λ i l. each i l room (ℕ_discrete i s.held);
            few = omega (arith, st.few);
            missed = st.missed;
            fewer = st.fewer;
            recorded = st.recorded;
            reached = st.reached;
            marks = st.marks;
            places = same_length s.pending s.held q.face q.corner ∙ st.places;
            fits = omega (arith, half, room);
            roomy = λ b. refl;
            top = max st.top (s.held + 1);
            held_below = omega arith;
            top_fits = omega (arith, st.top_fits, half, room);
            given = goes_in s.pending l0 s.held st.top q st.held_below st.given;
          }
      by false false eb er = record {
        asked = st.asked;
        few = omega (arith, st.few);
        missed = st.missed;
        fewer = st.fewer;
        recorded = st.recorded;
        reached = st.reached;
        marks = st.marks;
        places = st.places;
        fits = st.fits;
        roomy = λ b. let z : ⊥ = omega (arith, st.few, half, ltb-false s.held (length s.pending / 2) er) in absurd z;
        top = st.top;
        held_below = st.held_below;
        top_fits = st.top_fits;
        given = st.given;
      }

  -- ---- the walk

  steady-answer : (n : ℕ) (s : Walking) (q : Question) → s.walk.answer ≡ Ok n → Asked N q → At 1 s → At 0 (answer_question m s n q)
  unfolding answer_question
  steady-answer n s q e y st = by (eqb (get_or s.walk.deleted q.face 1) 0) (m.seen q) refl
    where
      by : (d v : Bool) → eqb (get_or s.walk.deleted q.face 1) 0 ≡ d → At 0 (answer_if d v m s n q)
      by false v ed = steady-drop 0 s st
      by true false ed = steady-note 0 n s q e y st
      by true true ed =
          let y1 = asked-facing m.ids N h q.face ((q.corner + 2) % 3) y.face_in (omega arith) in
          let y2 = asked-facing m.ids N h q.face q.corner y.face_in y.corner_in in
          steady-in 0 _ _ y1 (steady-in 1 _ _ y2 (steady-enter 0 s q (eqb-true _ _ ed) y st))

  pub steady-turn : (s : Walking) → At 0 s → At 0 (turn m s)
  steady-turn s st = by s.short s.walk.answer s.held refl refl refl
    where
      by : (b : Bool) (a : WalkAnswer) (j : ℕ) → s.short ≡ b → s.walk.answer ≡ a → s.held ≡ j → At 0 (turn m s)
      by true a j eb ea ej = subst (λ (x : Walking). At 0 x) (sym (turn-short m s eb)) st
      by false (Err _) j eb ea ej = subst (λ (x : Walking). At 0 x) (sym (turn-full m s eb ea)) st
      by false (Ok n) zero eb ea ej = subst (λ (x : Walking). At 0 x) (sym (turn-none m s eb ea ej)) st
      by false (Ok n) (suc j) eb ea ej =
          subst (λ (x : Walking). At 0 x) (sym (turn-takes m s eb ea ej))
          (steady-answer n (walking s.walk (without s.pending j) j false) (question_at s.pending j) ea (st.asked j (omega (arith, ej))) (steady-out 0 j s ej st))

  pub steady-turns : (n : ℕ) (s : Walking) → At 0 s → At 0 (turns n m s)
  unfolding turns
  steady-turns zero s st = st
  steady-turns (suc n) s st = steady-turns n (turn m s) (steady-turn s st)

  -- AT EVERY MOMENT of a pass, and at its end
  pub steady-pass : (s : Walking) (a b c : Question) → Asked N a → Asked N b → Asked N c → At 3 s → At 0 (plain_pass m s a b c)
  unfolding plain_pass plain_walk
  steady-pass s a b c ya yb yc st = steady-turns _ _ (steady-in 0 _ a ya (steady-in 1 _ b yb (steady-in 2 s c yc st)))

-- ---- from a pass's beginning: no edge and no question, over a list l whose places above the mark `top` are as in l0

module _ (m : Mesh) (N : ℕ) (h : NeighboursIn N N m.ids) (w : Walked) (begins : w.answer ≡ Ok 0) (l l0 : List ℕ) (top : ℕ)
    (places : length l ≡ length l0) (top_fits : top ≤ length l0 / 2) (given : Returned 0 0 (top * 2) l l0) where
  -- the most questions, edges and live faces together
  abbrev B : ℕ
  B = live_to N w.deleted + 3

  pub steady-start : Steady N w l0 B 3 (walking w l 0 false)
  steady-start = record {
    asked = λ i less. let z : ⊥ = omega arith in absurd z;
    few = omega (arith, ap (asked_of (edge_room w)) begins);
    missed = omega arith;
    fewer = omega arith;
    recorded = subst (λ (a : WalkAnswer). Recorded N w a) (sym begins) (no_edges N w.edges);
    reached = record { same_room = refl; more = omega arith; fits = omega (arith, ap (recorded_of (edge_room w)) begins); of_deleted = stays N w.deleted; of_edges = stays _ w.edges };
    marks = refl;
    places = places;
    fits = omega arith;
    roomy = λ b. refl;
    top = top;
    held_below = omega arith;
    top_fits = top_fits;
    given = given;
  }

  module _ (a b c : Question) (ya : Asked N a) (yb : Asked N b) (yc : Asked N c) where
    -- OF THE PENDING QUESTIONS no more than three and the faces deleted so far in the pass are ever held: after any number of turns, and so, since a put adds one and never more than the second of two
    -- puts leaves, between any two puts
    pub held-few : (n : ℕ) → let s = turns n m (put_in (put_in (put_in (walking w l 0 false) c) b) a) in s.held + live_to N s.walk.deleted ≤ 3 + live_to N w.deleted
    held-few n =
        let st = steady-turns m N h w l0 B n _ (steady-in m N h w l0 B 0 _ a ya (steady-in m N h w l0 B 1 _ b yb (steady-in m N h w l0 B 2 _ c yc steady-start))) in
        omega (arith, st.few)

    -- so that a store of so many places is never refused
    pub never-short : B ≤ length l0 / 2 → (plain_pass m (walking w l 0 false) a b c).short ≡ false
    never-short room = (steady-pass m N h w l0 B (walking w l 0 false) a b c ya yb yc steady-start).roomy room

    -- and the store obeys document 01's rule: what is held stands in the first places, those once used above them are zero, and the others as they were lent
    pub rule-pending : let s = plain_pass m (walking w l 0 false) a b c in Returned 0 (s.held * 2) ((steady-pass m N h w l0 B (walking w l 0 false) a b c ya yb yc steady-start).top * 2) s.pending l0
    rule-pending = (steady-pass m N h w l0 B (walking w l 0 false) a b c ya yb yc steady-start).given
