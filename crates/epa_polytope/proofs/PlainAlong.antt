-- Two plain walks over faces that are alike: they go the same way, whatever lies above the counts, unless one of them finds no room for an edge or for a question. Assumes nothing.
use mathlib.Core.Path.{◌≡◌, refl, sym, ap, subst, ◌∙◌}
use mathlib.Core.Bool.{Bool, true, false}
use mathlib.Core.List.{List}
use Prim.Native.Nat.{ℕ, zero, suc, ◌+◌, ◌*◌, ◌/◌, ◌%◌, ◌<◌, ◌≤◌}
use native.Mathlib.Omega.{arith}
use lib.ListN.{length, get_or, set, length-set}
use lib.Seq.{get_or-set_other}
use lib.Dec.{eqb, ltb}
use borrow.Author.Tests.{ltb-true, ltb-false}
use Rattle.epa_polytope.specs.Silhouette.{Question, full, Mesh, Walked, facing, noted}
use Rattle.epa_polytope.specs.PlainWalk.{Walking, walking, put_if, put_in, question_at, without, answer_if, answer_question, turn, turns, plain_walk, plain_pass}
use Rattle.epa_polytope.specs.Bounds.{NeighboursIn}
use Rattle.epa_polytope.specs.Same.{Alike}
use Rattle.epa_polytope.proofs.Walks.{Asked}
use Rattle.epa_polytope.proofs.Along.{Together, FullTogether, Along, alike-edge, edge-length, alike-facing, along-noted, along-entered}
use Rattle.epa_polytope.proofs.Along as A
use Rattle.epa_polytope.proofs.PlainWalks.{potential, enough_turns, turn-short, turn-full, turn-none, turn-takes}
use Rattle.epa_polytope.proofs.PlainPasses.{Steady, steady-turn, steady-in}

-- two walks with the same n edges recorded and the same j questions held, where there is room for P and for P'
pub record Paired (N R R' P P' n j : ℕ) (s t : Walking) : Type 0 where
  pub walks : Together N R R' n s.walk t.walk
  pub held : s.held ≡ j
  pub held' : t.held ≡ j
  pub few : j ≤ P
  pub few' : j ≤ P'
  pub pending : Alike (j * 2) s.pending t.pending
  pub room : length s.pending / 2 ≡ P
  pub room' : length t.pending / 2 ≡ P'

-- while questions go in: one has found no place where the other has more, or both none, or both go on
pub data Placing (N R R' P P' : ℕ) (s t : Walking) : Type 0 where
  first_pending : s.short ≡ true → P < P' → Placing N R R' P P' s t
  second_pending : t.short ≡ true → P' < P → Placing N R R' P P' s t
  both_pending : (n j : ℕ) → Paired N R R' P P' n j s t → s.short ≡ true → t.short ≡ true → P ≡ P' → Placing N R R' P P' s t
  both : (n j : ℕ) → Paired N R R' P P' n j s t → s.short ≡ false → t.short ≡ false → Placing N R R' P P' s t

-- both have found no room, at the same edge, with the same questions held
pub record FullPaired (N R R' P P' j : ℕ) (s t : Walking) : Type 0 where
  pub walks : FullTogether N R R' s.walk t.walk
  pub held : s.held ≡ j
  pub held' : t.held ≡ j
  pub pending : Alike (j * 2) s.pending t.pending

pub data PlainAlong (N R R' P P' : ℕ) (s t : Walking) : Type 0 where
  first_edge : s.short ≡ false → s.walk.answer ≡ full → R < R' → PlainAlong N R R' P P' s t
  second_edge : t.short ≡ false → t.walk.answer ≡ full → R' < R → PlainAlong N R R' P P' s t
  both_edge : (j : ℕ) → FullPaired N R R' P P' j s t → s.short ≡ false → t.short ≡ false → PlainAlong N R R' P P' s t
  placing : Placing N R R' P P' s t → PlainAlong N R R' P P' s t

-- no question goes in after one that found no place
put-short : (s : Walking) (q : Question) → s.short ≡ true → put_in s q ≡ s
unfolding put_in
put-short s q e = ap (λ (b : Bool). put_if b (ltb s.held (length s.pending / 2)) s q) e

put-by : (s : Walking) (q : Question) {r : Bool} → s.short ≡ false → ltb s.held (length s.pending / 2) ≡ r → put_in s q ≡ put_if false r s q
unfolding put_in
put-by s q e er = ap (λ (b : Bool). put_if b (ltb s.held (length s.pending / 2)) s q) e ∙ ap (λ (r : Bool). put_if false r s q) er

module _ (N R R' P P' : ℕ) where
  abbrev Puts : Walking → Walking → Type 0
  Puts s t = Placing N R R' P P' s t

  carried : {s s' t t' : Walking} → s' ≡ s → t' ≡ t → Puts s t → Puts s' t'
  carried {s} {s'} {t} {t'} e f p = subst (λ (x : Walking). Puts x t') (sym e) (subst (λ (y : Walking). Puts s y) (sym f) p)

  pub along-put : (s t : Walking) (q : Question) → Puts s t → Puts (put_in s q) (put_in t q)
  along-put s t q (first_pending e l) = first_pending (ap (λ (x : Walking). x.short) (put-short s q e) ∙ e) l
  along-put s t q (second_pending e l) = second_pending (ap (λ (x : Walking). x.short) (put-short t q e) ∙ e) l
  along-put s t q (both_pending n j g e f p) = carried (put-short s q e) (put-short t q f) (both_pending n j g e f p)
  along-put s t q (both n j g e f) = by (ltb s.held (length s.pending / 2)) (ltb t.held (length t.pending / 2)) refl refl
    where
      by : (a b : Bool) → ltb s.held (length s.pending / 2) ≡ a → ltb t.held (length t.pending / 2) ≡ b → Puts (put_in s q) (put_in t q)
      by true true x y =
          let l : j < length s.pending / 2 = omega (arith, ltb-true s.held (length s.pending / 2) x, g.held) in
          let l' : j < length t.pending / 2 = omega (arith, ltb-true t.held (length t.pending / 2) y, g.held') in
          carried (put-by s q e x) (put-by t q f y) (both n (j + 1) (record {
            walks = g.walks;
            held = omega (arith, g.held);
            held' = omega (arith, g.held');
            few = omega (arith, g.room);
            few' = omega (arith, g.room');
            pending = rw (g.held, g.held') (alike-edge j s.pending t.pending q l l' g.pending);
            room = ap (λ (k : ℕ). k / 2) (edge-length s.held s.pending q) ∙ g.room;
            room' = ap (λ (k : ℕ). k / 2) (edge-length t.held t.pending q) ∙ g.room';
          }) refl refl)
      by false true x y =
          first_pending (ap (λ (z : Walking). z.short) (put-by s q e x))
          (omega (arith, g.few, g.room, g.room', g.held, g.held', ltb-false s.held (length s.pending / 2) x, ltb-true t.held (length t.pending / 2) y))
      by true false x y =
          second_pending (ap (λ (z : Walking). z.short) (put-by t q f y))
          (omega (arith, g.few', g.room, g.room', g.held, g.held', ltb-true s.held (length s.pending / 2) x, ltb-false t.held (length t.pending / 2) y))
      by false false x y =
          let full : j ≡ P = omega (arith, g.few, g.room, g.held, ltb-false s.held (length s.pending / 2) x) in
          let full' : j ≡ P' = omega (arith, g.few', g.room', g.held', ltb-false t.held (length t.pending / 2) y) in
          carried (put-by s q e x) (put-by t q f y) (both_pending n j (record {
            walks = g.walks;
            held = g.held;
            held' = g.held';
            few = g.few;
            few' = g.few';
            pending = g.pending;
            room = g.room;
            room' = g.room';
          }) refl refl (omega arith))

-- where a question comes out, the others stay alike
alike-out : (j : ℕ) (l k : List ℕ) → Alike (suc j * 2) l k → Alike (j * 2) (without l j) (without k j)
alike-out j l k a = record {
  long = omega (arith, a.long, length-set (set l (j * 2) 0) (j * 2 + 1) 0, length-set l (j * 2) 0);
  long' = omega (arith, a.long', length-set (set k (j * 2) 0) (j * 2 + 1) 0, length-set k (j * 2) 0);
  same = λ i d h.
      rw (get_or-set_other (set l (j * 2) 0) (j * 2 + 1) i 0 d (λ z. omega arith), get_or-set_other l (j * 2) i 0 d (λ z. omega arith))
      (rw (get_or-set_other (set k (j * 2) 0) (j * 2 + 1) i 0 d (λ z. omega arith), get_or-set_other k (j * 2) i 0 d (λ z. omega arith))
      (a.same i d (omega arith)));
}

module _ (N R R' P P' : ℕ) (m m' : Mesh) (h : NeighboursIn N N m.ids) (ids : Alike (N * 6) m.ids m'.ids) (seen : (q : Question) → Asked N q → m.seen q ≡ m'.seen q) where
  abbrev Pair : Walking → Walking → Type 0
  Pair s t = PlainAlong N R R' P P' s t

  moved : {s s' t t' : Walking} → s' ≡ s → t' ≡ t → Pair s t → Pair s' t'
  moved {s} {s'} {t} {t'} e f p = subst (λ (x : Walking). Pair x t') (sym e) (subst (λ (y : Walking). Pair s y) (sym f) p)

  -- the same question is answered in both, where no question has been refused
  along-answer : (n j : ℕ) (s t : Walking) (q : Question) → Asked N q → Paired N R R' P P' n j s t → s.short ≡ false → t.short ≡ false → Pair (answer_question m s n q) (answer_question m' t n q)
  unfolding answer_question
  along-answer n j s t q y g e f =
      let e1 : get_or s.walk.deleted q.face 1 ≡ get_or t.walk.deleted q.face 1 = g.walks.deleted.same q.face 1 y.face_in in
      given (eqb (get_or s.walk.deleted q.face 1) 0) (eqb (get_or t.walk.deleted q.face 1) 0) (m.seen q) (m'.seen q) (ap (λ (x : ℕ). eqb x 0) e1) (seen q y)
    where
      noting : Along N R R' (noted s.walk n q) (noted t.walk n q)
          → Pair (walking (noted s.walk n q) s.pending s.held s.short) (walking (noted t.walk n q) t.pending t.held t.short)
      noting (A.first_full x l) = first_edge e x l
      noting (A.second_full x l) = second_edge f x l
      noting (A.both_full k) = both_edge j (record { walks = k; held = g.held; held' = g.held'; pending = g.pending }) e f
      noting (A.both k x) = placing (both k j (record { walks = x; held = g.held; held' = g.held'; few = g.few; few' = g.few'; pending = g.pending; room = g.room; room' = g.room' }) e f)

      by : (d v : Bool) → Pair (answer_if d v m s n q) (answer_if d v m' t n q)
      by false v = placing (both n j g e f)
      by true false = noting (along-noted N R R' m m' h ids seen n s.walk t.walk q g.walks)
      by true true =
          let e1 = alike-facing N m.ids m'.ids ids h q.face ((q.corner + 2) % 3) y.face_in (omega arith) in
          let e2 = alike-facing N m.ids m'.ids ids h q.face q.corner y.face_in y.corner_in in
          let w = along-entered N R R' m m' h ids seen n s.walk t.walk q y g.walks in
          let start = both n j (record { walks = w; held = g.held; held' = g.held'; few = g.few; few' = g.few'; pending = g.pending; room = g.room; room' = g.room' }) e f in
          rw (← e1, ← e2) (placing (along-put N R R' P P' _ _ (facing m.ids q.face ((q.corner + 2) % 3)) (along-put N R R' P P' _ _ (facing m.ids q.face q.corner) start)))

      given : (a b u v : Bool) → a ≡ b → u ≡ v → Pair (answer_if a u m s n q) (answer_if b v m' t n q)
      given a b u v ea eu = rw (ea, eu) (by b v)

  module _ (w : Walked) (l0 : List ℕ) (B : ℕ) where
    along-turn : (s t : Walking) → Steady N w l0 B 0 s → Pair s t → Pair (turn m s) (turn m' t)
    along-turn s t st (first_edge e x l) = first_edge (ap (λ (z : Walking). z.short) (turn-full m s e x) ∙ e) (ap (λ (z : Walking). z.walk.answer) (turn-full m s e x) ∙ x) l
    along-turn s t st (second_edge e x l) = second_edge (ap (λ (z : Walking). z.short) (turn-full m' t e x) ∙ e) (ap (λ (z : Walking). z.walk.answer) (turn-full m' t e x) ∙ x) l
    along-turn s t st (both_edge j g e f) = moved (turn-full m s e g.walks.answer) (turn-full m' t f g.walks.answer') (both_edge j g e f)
    along-turn s t st (placing (first_pending e l)) = placing (first_pending (ap (λ (z : Walking). z.short) (turn-short m s e) ∙ e) l)
    along-turn s t st (placing (second_pending e l)) = placing (second_pending (ap (λ (z : Walking). z.short) (turn-short m' t e) ∙ e) l)
    along-turn s t st (placing (both_pending n j g e f p)) = moved (turn-short m s e) (turn-short m' t f) (placing (both_pending n j g e f p))
    along-turn s t st (placing (both n zero g e f)) =
        moved (turn-none m s e g.walks.answer g.held) (turn-none m' t f g.walks.answer' g.held') (placing (both n zero g e f))
    along-turn s t st (placing (both n (suc j) g e f)) =
        let q = question_at s.pending j in
        let same : q ≡ question_at t.pending j = question-same in
        moved (turn-takes m s e g.walks.answer g.held) (turn-takes m' t f g.walks.answer' g.held' ∙ ap (λ (x : Question). answer_question m' (walking t.walk (without t.pending j) j false) n x) (sym same))
        (along-answer n j (walking s.walk (without s.pending j) j false) (walking t.walk (without t.pending j) j false) q (st.asked j (omega (arith, g.held))) (record {
          walks = g.walks;
          held = refl;
          held' = refl;
          few = omega (arith, g.few);
          few' = omega (arith, g.few');
          pending = alike-out j s.pending t.pending g.pending;
          room = ap (λ (k : ℕ). k / 2) (length-set (set s.pending (j * 2) 0) (j * 2 + 1) 0 ∙ length-set s.pending (j * 2) 0) ∙ g.room;
          room' = ap (λ (k : ℕ). k / 2) (length-set (set t.pending (j * 2) 0) (j * 2 + 1) 0 ∙ length-set t.pending (j * 2) 0) ∙ g.room';
        }) refl refl)
      where
        question-same : question_at s.pending j ≡ question_at t.pending j
        question-same = rw (g.pending.same (j * 2) 0 (omega arith), g.pending.same (j * 2 + 1) 0 (omega arith))

    along-turns : (n : ℕ) (s t : Walking) → Steady N w l0 B 0 s → Pair s t → Pair (turns n m s) (turns n m' t)
    unfolding turns
    along-turns zero s t st p = p
    along-turns (suc n) s t st p = along-turns n (turn m s) (turn m' t) (steady-turn m N h w l0 B s st) (along-turn s t st p)

    along-plain : (s t : Walking) → Steady N w l0 B 0 s → Pair s t → Pair (plain_walk m s) (plain_walk m' t)
    unfolding plain_walk
    along-plain s t st p =
        let n = potential s + potential t in
        rw (enough_turns (potential s) n m s (omega arith) (omega arith), enough_turns (potential t) n m' t (omega arith) (omega arith)) (along-turns n s t st p)

    -- A PASS OF BOTH
    pub along-plain-pass : (s t : Walking) (a b c : Question) → Asked N a → Asked N b → Asked N c → Steady N w l0 B 3 s → Placing N R R' P P' s t → Pair (plain_pass m s a b c) (plain_pass m' t a b c)
    unfolding plain_pass
    along-plain-pass s t a b c ya yb yc st p =
        let put = along-put N R R' P P' in
        along-plain _ _ (steady-in m N h w l0 B 0 _ a ya (steady-in m N h w l0 B 1 _ b yb (steady-in m N h w l0 B 2 s c yc st))) (placing (put _ _ a (put _ _ b (put s t c p))))
