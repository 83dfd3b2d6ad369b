-- The laws of the plain walk: it ends, it walks as the recursive one does, and it holds few questions. Assumes nothing.
use mathlib.Core.Path.{◌≡◌, refl, sym, ap, ◌∙◌}
use mathlib.Core.Bool.{Bool, true, false}
use mathlib.Core.List.{List, [], ◌∷◌}
use Prim.Native.Nat.{ℕ, zero, suc, ◌+◌, ◌*◌, ◌/◌, ◌%◌, ◌<◌, ◌≤◌}
use native.Mathlib.Nat.{le_refl}
use native.Mathlib.Omega.{arith}
use lib.ListN.{length, get_or, set, length-set}
use lib.Dec.{eqb, ltb}
use lib.Seq.{get_or-set_same, get_or-set_other}
use borrow.Author.Tests.{eqb-true, eqb-false, eq-eqb, ne_eqb, lt-ltb}
use Rattle.epa_polytope.specs.Silhouette.{Question, WalkAnswer, Ok, Err, full, Mesh, Walked, zeros, facing, pair_put, noted, entered, walk, pass}
use Rattle.epa_polytope.specs.PlainWalk.{Walking, walking, put_if, put_in, question_at, without, answer_if, answer_question, turn_by, turn, turns, plain_walk, plain_pass}
use Rattle.epa_polytope.proofs.Walks.{zeros-set, noted-deletes-none, walk-full, walk-dead, walk-edge, walk-seen}

-- ---- a question that goes in

module _ (s : Walking) (q : Question) where
  pub put-walks-not : (put_in s q).walk ≡ s.walk
  unfolding put_in
  put-walks-not = by s.short (ltb s.held (length s.pending / 2))
    where
      by : (b r : Bool) → (put_if b r s q).walk ≡ s.walk
      by true r = refl
      by false true = refl
      by false false = refl

  pub put_one : (put_in s q).held ≤ s.held + 1
  unfolding put_in
  put_one = by s.short (ltb s.held (length s.pending / 2))
    where
      by : (b r : Bool) → (put_if b r s q).held ≤ s.held + 1
      by true r = omega arith
      by false true = omega arith
      by false false = omega arith

  -- where there is room it is held
  pub put-placed : s.short ≡ false → s.held < length s.pending / 2 → put_in s q ≡ walking s.walk (pair_put s.pending s.held q) (s.held + 1) false
  unfolding put_in
  put-placed e l = rw (e, lt-ltb _ _ l)

-- ---- the walk ends

-- what falls at every turn that does something
abbrev pub potential : Walking → ℕ
potential s = s.held + 3 * zeros s.walk.deleted

pub data Falls (m : Mesh) (s : Walking) : Type 0 where
  rests : turn m s ≡ s → Falls m s
  falls : potential (turn m s) < potential s → Falls m s

-- the two questions of a seen face weigh less than the face
seen-less : (m : Mesh) (s : Walking) (q q1 q2 : Question) → get_or s.walk.deleted q.face 1 ≡ 0
    → potential (put_in (put_in (walking (entered m s.walk q) s.pending s.held s.short) q2) q1) < potential s
seen-less m s q q1 q2 z =
    let s1 = walking (entered m s.walk q) s.pending s.held s.short in
    let s2 = put_in s1 q2 in
    let live : Walked → ℕ = λ w. zeros w.deleted in
    omega (arith, put_one s2 q1, put_one s1 q2, ap live (put-walks-not s2 q1), ap live (put-walks-not s1 q2), zeros-set s.walk.deleted q.face z)

-- an answer adds nothing
pub answer-less : (m : Mesh) (s : Walking) (n : ℕ) (q : Question) → potential (answer_question m s n q) ≤ potential s
unfolding answer_question
answer-less m s n q = by (eqb (get_or s.walk.deleted q.face 1) 0) (m.seen q) refl
  where
    by : (d v : Bool) → eqb (get_or s.walk.deleted q.face 1) 0 ≡ d → potential (answer_if d v m s n q) ≤ potential s
    by false v e = omega arith
    by true false e = rw (noted-deletes-none s.walk n q) (omega arith)
    by true true e = omega (arith, seen-less m s q (facing m.ids q.face ((q.corner + 2) % 3)) (facing m.ids q.face q.corner) (eqb-true _ _ e))

-- a turn by what the loop tests
module _ (m : Mesh) (s : Walking) where
  pub turn-short : s.short ≡ true → turn m s ≡ s
  unfolding turn
  turn-short e = ap (λ (b : Bool). turn_by b s.walk.answer s.held m s) e

  module _ (e : s.short ≡ false) where
    by_answer : {a : WalkAnswer} → s.walk.answer ≡ a → turn m s ≡ turn_by false a s.held m s
    unfolding turn
    by_answer {a} ea = ap (λ (b : Bool). turn_by b s.walk.answer s.held m s) e ∙ ap (λ (x : WalkAnswer). turn_by false x s.held m s) ea

    pub turn-full : s.walk.answer ≡ full → turn m s ≡ s
    turn-full ea = by_answer ea

    pub turn-none : {n : ℕ} → s.walk.answer ≡ Ok n → s.held ≡ 0 → turn m s ≡ s
    turn-none {n} ea eh = by_answer ea ∙ ap (λ (h : ℕ). turn_by false (Ok n) h m s) eh

    pub turn-takes : {n h : ℕ} → s.walk.answer ≡ Ok n → s.held ≡ suc h → turn m s ≡ answer_question m (walking s.walk (without s.pending h) h false) n (question_at s.pending h)
    turn-takes {n} ea eh = by_answer ea ∙ ap (λ (h : ℕ). turn_by false (Ok n) h m s) eh

pub turn-falls : (m : Mesh) (s : Walking) → Falls m s
turn-falls m s = by s.short s.walk.answer s.held refl refl refl
  where
    by : (b : Bool) (a : WalkAnswer) (h : ℕ) → s.short ≡ b → s.walk.answer ≡ a → s.held ≡ h → Falls m s
    by true a h eb ea eh = rests (turn-short m s eb)
    by false (Err _) h eb ea eh = rests (turn-full m s eb ea)
    by false (Ok n) zero eb ea eh = rests (turn-none m s eb ea eh)
    by false (Ok n) (suc h) eb ea eh =
        let less = answer-less m (walking s.walk (without s.pending h) h false) n (question_at s.pending h) in
        falls (omega (arith, less, ap potential (turn-takes m s eb ea eh)))

-- ---- the depth suffices: after as many turns as the potential nothing is left to do

rest-stays : (n : ℕ) (m : Mesh) (s : Walking) → turn m s ≡ s → turns n m s ≡ s
unfolding turns
rest-stays zero m s e = refl
rest-stays (suc n) m s e = rw e (rest-stays n m s e)

pub enough_turns : (n k : ℕ) (m : Mesh) (s : Walking) → potential s ≤ n → potential s ≤ k → turns n m s ≡ turns k m s
unfolding turns
enough_turns zero k m s h h' = by (turn-falls m s)
  where
    by : Falls m s → turns zero m s ≡ turns k m s
    by (rests e) = sym (rest-stays k m s e)
    by (falls l) = let z : ⊥ = omega arith in absurd z
enough_turns (suc n) zero m s h h' = by (turn-falls m s)
  where
    by : Falls m s → turns (suc n) m s ≡ turns zero m s
    by (rests e) = rest-stays (suc n) m s e
    by (falls l) = let z : ⊥ = omega arith in absurd z
enough_turns (suc n) (suc k) m s h h' = by (enough_turns n k m (turn m s)) (turn-falls m s)
  where
    by : (potential (turn m s) ≤ n → potential (turn m s) ≤ k → turns n m (turn m s) ≡ turns k m (turn m s)) → Falls m s → turns (suc n) m s ≡ turns (suc k) m s
    by ih (rests e) = rest-stays (suc n) m s e ∙ sym (rest-stays (suc k) m s e)
    by ih (falls l) = ih (omega arith) (omega arith)

-- THE WALK IS ITS FIRST TURN AND THE WALK AFTER IT, and does nothing where a turn does nothing
pub walk_turn : (m : Mesh) (s : Walking) → plain_walk m s ≡ plain_walk m (turn m s)
unfolding plain_walk turns
walk_turn m s = by (turn-falls m s)
  where
    by : Falls m s → turns (potential s) m s ≡ turns (potential (turn m s)) m (turn m s)
    by (rests e) = rw e
    by (falls l) = enough_turns (potential s) (suc (potential s)) m s (omega arith) (omega arith) ∙ enough_turns (potential s) (potential (turn m s)) m (turn m s) (omega arith) (omega arith)

pub walk-rests : (m : Mesh) (s : Walking) → turn m s ≡ s → plain_walk m s ≡ s
unfolding plain_walk
walk-rests m s e = rest-stays (potential s) m s e

-- ---- and where it ends it holds no question, unless it has found no room

turns-turn : (n : ℕ) (m : Mesh) (s : Walking) → turn m (turns n m s) ≡ turns (suc n) m s
unfolding turns
turns-turn zero m s = refl
turns-turn (suc n) m s = turns-turn n m (turn m s)

pub plain-rests : (m : Mesh) (s : Walking) → turn m (plain_walk m s) ≡ plain_walk m s
unfolding plain_walk
plain-rests m s = turns-turn (potential s) m s ∙ enough_turns (suc (potential s)) (potential s) m s (omega arith) (omega arith)

pub rests-empty : (m : Mesh) (s : Walking) {n : ℕ} → turn m s ≡ s → s.short ≡ false → s.walk.answer ≡ Ok n → s.held ≡ 0
rests-empty m s {n} e eb ea = by s.held refl
  where
    by : (h : ℕ) → s.held ≡ h → h ≡ 0
    by zero eh = refl
    by (suc h) eh =
        let less = answer-less m (walking s.walk (without s.pending h) h false) n (question_at s.pending h) in
        let z : ⊥ = omega (arith, less, ap potential (turn-takes m s eb ea eh), ap potential e, eh) in
        absurd z

-- ---- a turn as the code makes it: the three answers, by what the code tests

module _ (m : Mesh) (s : Walking) {n h : ℕ} (eb : s.short ≡ false) (ea : s.walk.answer ≡ Ok n) (eh : s.held ≡ suc h) where
  abbrev taken : Walking
  taken = walking s.walk (without s.pending h) h false

  abbrev top : Question
  top = question_at s.pending h

  by_tests : {d v : Bool} → eqb (get_or s.walk.deleted top.face 1) 0 ≡ d → m.seen top ≡ v → turn m s ≡ answer_if d v m taken n top
  unfolding answer_question
  by_tests {d} {v} ed ev =
      turn-takes m s eb ea eh ∙ ap (λ (b : Bool). answer_if b (m.seen top) m taken n top) ed ∙ ap (λ (b : Bool). answer_if d b m taken n top) ev

  pub turn-dead : (get_or s.walk.deleted top.face 1 ≡ 0 → ⊥) → turn m s ≡ taken
  turn-dead z = by_tests (ne_eqb _ _ z) refl

  module _ (z : get_or s.walk.deleted top.face 1 ≡ 0) where
    pub turn-edge : m.seen top ≡ false → turn m s ≡ walking (noted s.walk n top) (without s.pending h) h false
    turn-edge e = by_tests (eq-eqb _ _ z) e

    pub turn-seen : m.seen top ≡ true
        → turn m s ≡ put_in (put_in (walking (entered m s.walk top) (without s.pending h) h false) (facing m.ids top.face top.corner)) (facing m.ids top.face ((top.corner + 2) % 3))
    turn-seen e = by_tests (eq-eqb _ _ z) e

-- ---- the same as the recursive walk, where there is room for the questions

-- the questions that are held, the last first
unfoldable pub held_from : List ℕ → ℕ → List Question
held_from l zero = []
held_from l (suc h) = question_at l h ∷ held_from l h

-- one recursive walk after another
unfoldable pub walks : Mesh → Walked → List Question → Walked
walks m s [] = s
walks m s (q ∷ qs) = walks m (walk m s q) qs

full_walks : (m : Mesh) (s : Walked) (qs : List Question) → s.answer ≡ full → walks m s qs ≡ s
unfolding walks
full_walks m s [] e = refl
full_walks m s (q ∷ qs) e = rw (← walk-full m s q e) (full_walks m s qs e)

-- what is written at the places of the h-th is not among the first
below_stays : (l : List ℕ) (h a b j : ℕ) → j ≤ h → held_from (set (set l (h * 2) a) (h * 2 + 1) b) j ≡ held_from l j
unfolding held_from
below_stays l h a b zero le = refl
below_stays l h a b (suc j) le =
    let first = set l (h * 2) a in
    rw (get_or-set_other first (h * 2 + 1) (j * 2) b 0 (λ z. omega arith), get_or-set_other l (h * 2) (j * 2) a 0 (λ z. omega arith))
    (rw (get_or-set_other first (h * 2 + 1) (j * 2 + 1) b 0 (λ z. omega arith), get_or-set_other l (h * 2) (j * 2 + 1) a 0 (λ z. omega arith))
    (ap (λ (x : List Question). question_at l j ∷ x) (below_stays l h a b j (omega arith))))

put-question : (l : List ℕ) (h : ℕ) (q : Question) → h < length l / 2 → question_at (pair_put l h q) h ≡ q
put-question l h q le =
    let first = set l (h * 2) q.face in
    rw (
      get_or-set_same first (h * 2 + 1) q.corner 0 (omega (arith, length-set l (h * 2) q.face)),
      get_or-set_other first (h * 2 + 1) (h * 2) q.corner 0 (λ z. omega arith),
      get_or-set_same l (h * 2) q.face 0 (omega arith),
    )

put-held : (l : List ℕ) (h : ℕ) (q : Question) → h < length l / 2 → held_from (pair_put l h q) (h + 1) ≡ q ∷ held_from l h
unfolding held_from
put-held l h q le =
    rw (native.Mathlib.Numerals.add-one h) (rw (put-question l h q le, below_stays l h q.face q.corner h (le_refl h)))

-- what a plain walk comes to: the recursive walks of the questions held, the last first; and no question was refused
pub record Drained (m : Mesh) (s t : Walking) : Type 0 where
  pub walks-so : t.walk ≡ walks m s.walk (held_from s.pending s.held)
  pub none-refused : t.short ≡ false

-- there is room for every question to come: each that is held, and one more for each live face
abbrev pub Ample : Walking → Type 0
Ample s = s.held + zeros s.walk.deleted ≤ length s.pending / 2

same_length : (l : List ℕ) (h a b : ℕ) → length (set (set l (h * 2) a) (h * 2 + 1) b) ≡ length l
same_length l h a b = length-set (set l (h * 2) a) (h * 2 + 1) b ∙ length-set l (h * 2) a

-- a seen face's two questions have room, and are the next to be asked
module _ (w : Walked) (l : List ℕ) (h : ℕ) (q1 q2 : Question) (room : h + 2 ≤ length l / 2) where
  both-put : put_in (put_in (walking w l h false) q2) q1 ≡ walking w (pair_put (pair_put l h q2) (h + 1) q1) (h + 1 + 1) false
  both-put =
      let s1 = walking w (pair_put l h q2) (h + 1) false in
      ap (λ (x : Walking). put_in x q1) (put-placed (walking w l h false) q2 refl (omega arith))
      ∙ put-placed s1 q1 refl (omega (arith, ap (λ (n : ℕ). n / 2) (same_length l h q2.face q2.corner)))

  both-held : held_from (pair_put (pair_put l h q2) (h + 1) q1) (h + 1 + 1) ≡ q1 ∷ q2 ∷ held_from l h
  both-held =
      put-held (pair_put l h q2) (h + 1) q1 (omega (arith, ap (λ (n : ℕ). n / 2) (same_length l h q2.face q2.corner)))
      ∙ ap (λ (x : List Question). q1 ∷ x) (put-held l h q2 (omega arith))

  both-length : length (pair_put (pair_put l h q2) (h + 1) q1) ≡ length l
  both-length = same_length (pair_put l h q2) (h + 1) q1.face q1.corner ∙ same_length l h q2.face q2.corner

-- a turn, where the walk from wherever it leads comes to the recursive walks
module _ (n : ℕ) (m : Mesh) (s : Walking) (eb : s.short ≡ false) (l : potential s ≤ suc n) (a : Ample s)
    (ih : (u : Walking) → u.short ≡ false → potential u ≤ n → Ample u → Drained m u (turns n m u)) where
  rested : turn m s ≡ s → s.walk ≡ walks m s.walk (held_from s.pending s.held) → Drained m s (turns n m (turn m s))
  rested e w =
      let stays = ap (λ (x : Walking). turns n m x) e ∙ rest-stays n m s e in
      record { walks-so = ap (λ (x : Walking). x.walk) stays ∙ w; none-refused = ap (λ (x : Walking). x.short) stays ∙ eb }

  module _ {k h : ℕ} (ea : s.walk.answer ≡ Ok k) (eh : s.held ≡ suc h) where
    abbrev q : Question
    q = question_at s.pending h

    abbrev rest : List ℕ
    rest = without s.pending h

    all : walks m s.walk (held_from s.pending s.held) ≡ walks m (walk m s.walk q) (held_from s.pending h)
    unfolding walks held_from
    all = ap (λ (k : ℕ). walks m s.walk (held_from s.pending k)) eh

    kept : held_from rest h ≡ held_from s.pending h
    kept = below_stays s.pending h 0 0 h (le_refl h)

    room : length rest / 2 ≡ length s.pending / 2
    room = ap (λ (x : ℕ). x / 2) (same_length s.pending h 0 0)

    -- the turn leads to u, from where the walks come to the same
    after : (u : Walking) → turn m s ≡ u → Drained m u (turns n m u) → walks m u.walk (held_from u.pending u.held) ≡ walks m (walk m s.walk q) (held_from s.pending h)
        → Drained m s (turns n m (turn m s))
    after u e d w =
        let goes = ap (λ (x : Walking). turns n m x) e in
        record { walks-so = ap (λ (x : Walking). x.walk) goes ∙ d.walks-so ∙ w ∙ sym all; none-refused = ap (λ (x : Walking). x.short) goes ∙ d.none-refused }

    answered : (d v : Bool) → eqb (get_or s.walk.deleted q.face 1) 0 ≡ d → m.seen q ≡ v → Drained m s (turns n m (turn m s))
    unfolding walks
    answered false v ed ev =
        let u = walking s.walk rest h false in
        let dead = eqb-false _ _ ed in
        after u (turn-dead m s eb ea eh dead) (ih u refl (omega arith) (omega (arith, room))) (rw (kept, ← walk-dead m s.walk q ea dead))
    answered true false ed ev =
        let z = eqb-true _ _ ed in
        let u = walking (noted s.walk k q) rest h false in
        let none = ap (λ (d : List ℕ). zeros d) (noted-deletes-none s.walk k q) in
        after u (turn-edge m s eb ea eh z ev) (ih u refl (omega (arith, none)) (omega (arith, room, none))) (rw (kept, ← walk-edge m s.walk q ea z ev))
    answered true true ed ev =
        let z = eqb-true _ _ ed in
        let q1 = facing m.ids q.face ((q.corner + 2) % 3) in
        let q2 = facing m.ids q.face q.corner in
        let less = zeros-set s.walk.deleted q.face z in
        let fits : h + 2 ≤ length rest / 2 = omega (arith, room, less) in
        let u = walking (entered m s.walk q) (pair_put (pair_put rest h q2) (h + 1) q1) (h + 1 + 1) false in
        let long = ap (λ (x : ℕ). x / 2) (both-length (entered m s.walk q) rest h q1 q2 fits) in
        after u (turn-seen m s eb ea eh z ev ∙ both-put (entered m s.walk q) rest h q1 q2 fits) (ih u refl (omega (arith, less)) (omega (arith, room, less, long)))
        (rw (both-held (entered m s.walk q) rest h q1 q2 fits, kept, ← walk-seen m s.walk q ea z ev))

  drained-turn : (x : WalkAnswer) (h : ℕ) → s.walk.answer ≡ x → s.held ≡ h → Drained m s (turns n m (turn m s))
  unfolding walks held_from
  drained-turn (Err _) h ea eh = rested (turn-full m s eb ea) (sym (full_walks m s.walk (held_from s.pending s.held) ea))
  drained-turn (Ok k) zero ea eh = rested (turn-none m s eb ea eh) (ap (λ (h : ℕ). walks m s.walk (held_from s.pending h)) (sym eh))
  drained-turn (Ok k) (suc h) ea eh = answered ea eh (eqb (get_or s.walk.deleted (question_at s.pending h).face 1) 0) (m.seen (question_at s.pending h)) refl refl

drained : (n : ℕ) (m : Mesh) (s : Walking) → s.short ≡ false → potential s ≤ n → Ample s → Drained m s (turns n m s)
unfolding turns walks held_from
drained zero m s eb l a = by s.held refl
  where
    by : (h : ℕ) → s.held ≡ h → Drained m s s
    by zero eh = record { walks-so = ap (λ (h : ℕ). walks m s.walk (held_from s.pending h)) (sym eh); none-refused = eb }
    by (suc h) eh = let z : ⊥ = omega arith in absurd z
drained (suc n) m s eb l a = drained-turn n m s eb l a (drained n m) s.walk.answer s.held refl refl

-- THE TWO WALKS ARE ONE: a plain pass that starts with no question held, and with room for three and for one more of each live face, leaves the same edges in the same order, the same faces deleted and
-- the same count of lookups as the recursive pass, and ends like it; no question is refused
module _ (m : Mesh) (w : Walked) (l : List ℕ) (a b c : Question) (room : 3 + zeros w.deleted ≤ length l / 2) where
  abbrev start : Walking
  start = walking w l 0 false

  abbrev three-in : Walking
  three-in = walking w (pair_put (pair_put (pair_put l 0 c) 1 b) 2 a) 3 false

  put_three : put_in (put_in (put_in start c) b) a ≡ three-in
  put_three =
      let r1 = ap (λ (n : ℕ). n / 2) (same_length l 0 c.face c.corner) in
      let r2 = ap (λ (n : ℕ). n / 2) (same_length (pair_put l 0 c) 1 b.face b.corner) in
      ap (λ (x : Walking). put_in (put_in x b) a) (put-placed start c refl (omega arith))
      ∙ ap (λ (x : Walking). put_in x a) (put-placed (walking w (pair_put l 0 c) 1 false) b refl (omega (arith, r1)))
      ∙ put-placed (walking w (pair_put (pair_put l 0 c) 1 b) 2 false) a refl (omega (arith, r1, r2))

  three-held : held_from three-in.pending 3 ≡ a ∷ b ∷ c ∷ []
  unfolding held_from
  three-held =
      let r1 = ap (λ (n : ℕ). n / 2) (same_length l 0 c.face c.corner) in
      let r2 = ap (λ (n : ℕ). n / 2) (same_length (pair_put l 0 c) 1 b.face b.corner) in
      put-held (pair_put (pair_put l 0 c) 1 b) 2 a (omega (arith, r1, r2))
      ∙ ap (λ (x : List Question). a ∷ x) (put-held (pair_put l 0 c) 1 b (omega (arith, r1)))
      ∙ ap (λ (x : List Question). a ∷ b ∷ x) (put-held l 0 c (omega arith))

  three-drained : Drained m three-in (plain_walk m three-in)
  unfolding plain_walk
  three-drained =
      let r1 = ap (λ (n : ℕ). n / 2) (same_length l 0 c.face c.corner) in
      let r2 = ap (λ (n : ℕ). n / 2) (same_length (pair_put l 0 c) 1 b.face b.corner) in
      let r3 = ap (λ (n : ℕ). n / 2) (same_length (pair_put (pair_put l 0 c) 1 b) 2 a.face a.corner) in
      drained (potential three-in) m three-in refl (le_refl _) (omega (arith, r1, r2, r3))

  pub plain-is-recursive : (plain_pass m start a b c).walk ≡ pass m w a b c
  unfolding plain_pass pass walks
  plain-is-recursive =
      ap (λ (x : Walking). (plain_walk m x).walk) put_three ∙ three-drained.walks-so ∙ ap (λ (qs : List Question). walks m w qs) three-held

  pub plain-finds-room : (plain_pass m start a b c).short ≡ false
  unfolding plain_pass
  plain-finds-room = ap (λ (x : Walking). (plain_walk m x).short) put_three ∙ three-drained.none-refused
