-- The plain walk as the code makes it: a question is answered by what the code tests, a turn takes one out, and the loop goes on while a turn does something. Assumes nothing.
use mathlib.Core.Path.{◌≡◌, refl, sym, ap, ◌∙◌}
use mathlib.Core.Bool.{Bool, true, false}
use mathlib.Core.List.{List}
use Prim.Native.Nat.{ℕ, ◌+◌, ◌-◌, ◌/◌, ◌%◌, ◌<◌, ◌≤◌}
use native.Mathlib.Omega.{arith}
use lib.ListN.{length, get_or, set}
use lib.Dec.{eqb, ltb}
use borrow.Author.Tests.{eq-eqb, ne_eqb, lt-ltb, le-ltb}
use Rattle.epa_polytope.specs.Stores.{Lists}
use Rattle.epa_polytope.specs.Silhouette.{Question, WalkAnswer, Ok, full, Mesh, Walked, walked, Facing, facing, with_missed, facing_from, pair_put, noted_if, noted, pass}
use Rattle.epa_polytope.specs.Start.{Walk, recursive, plain}
use Rattle.epa_polytope.specs.Expansion.{pass_by}
use Rattle.epa_polytope.specs.PlainWalk.{Walking, walking, walking_by, PlainSoFar, put_if, put_in, question_at, without, answer_if, answer_question, turn, plain_walk, plain_pass}
use Rattle.epa_polytope.proofs.Lists.{next-two}
use Rattle.epa_polytope.proofs.PlainWalks.{potential, answer-less, turn-short, turn-full, turn-none, turn-takes, walk_turn, walk-rests}

-- ---- a question goes in

module _ (s : Walking) (q : Question) where
  pub in-short : s.short ≡ true → s ≡ put_in s q
  unfolding put_in
  in-short e = sym (ap (λ (b : Bool). put_if b (ltb s.held (length s.pending / 2)) s q) e)

  module _ (e : s.short ≡ false) where
    by-room : {r : Bool} → ltb s.held (length s.pending / 2) ≡ r → put_in s q ≡ put_if false r s q
    unfolding put_in
    by-room er = ap (λ (b : Bool). put_if b (ltb s.held (length s.pending / 2)) s q) e ∙ ap (λ (r : Bool). put_if false r s q) er

    pub in-placed : s.held < length s.pending / 2 → {l : List ℕ} → l ≡ pair_put s.pending s.held q → walking s.walk l (s.held + 1) s.short ≡ put_in s q
    in-placed room el = let t = by-room (lt-ltb _ _ room) in cc

    pub in-refused : length s.pending / 2 ≤ s.held → walking s.walk s.pending s.held true ≡ put_in s q
    in-refused full = sym (by-room (le-ltb _ _ full))

-- ---- a question is answered

-- an edge is recorded whatever the walk has answered before
noted-any : (s : Walked) (n : ℕ) (q : Question) (a : WalkAnswer) → noted (walked s.deleted s.edges s.missed a) n q ≡ noted s n q
noted-any s n q a = by (ltb n (length s.edges / 2))
  where
    by : (b : Bool) → noted_if b (walked s.deleted s.edges s.missed a) n q ≡ noted_if b s n q
    by true = refl
    by false = refl

module _ (m : Mesh) (s : Walking) (n : ℕ) (q : Question) where
  by_tests : {d v : Bool} → eqb (get_or s.walk.deleted q.face 1) 0 ≡ d → m.seen q ≡ v → answer_question m s n q ≡ answer_if d v m s n q
  unfolding answer_question
  by_tests {d} {v} ed ev = ap (λ (b : Bool). answer_if b (m.seen q) m s n q) ed ∙ ap (λ (b : Bool). answer_if d b m s n q) ev

  pub answer-dead : (get_or s.walk.deleted q.face 1 ≡ 0 → ⊥) → s ≡ answer_question m s n q
  answer-dead z = sym (by_tests (ne_eqb _ _ z) refl)

  module _ (z : get_or s.walk.deleted q.face 1 ≡ 0) where
    pub answer-edge : m.seen q ≡ false → (t : Walked) → t ≡ noted (walked s.walk.deleted s.walk.edges s.walk.missed (Ok n)) n q
        → walking t s.pending s.held s.short ≡ answer_question m s n q
    answer-edge e t is = ap (λ (w : Walked). walking w s.pending s.held s.short) (is ∙ noted-any s.walk n q (Ok n)) ∙ sym (by_tests (eq-eqb _ _ z) e)

    -- by the lookups that the code makes, and the states that the two puts leave
    pub answer-seen : (d1 : List ℕ) (f1 f2 : Facing) → m.seen q ≡ true → d1 ≡ set s.walk.deleted q.face 1
        → f1 ≡ facing_from m.ids q.face ((q.corner % 3 + 2) % 3) s.walk.missed → f2 ≡ facing_from m.ids q.face q.corner f1.missed
        → (s1 s2 : Walking) → s1 ≡ put_in (walking (walked d1 s.walk.edges f2.missed s.walk.answer) s.pending s.held s.short) f2.question → s2 ≡ put_in s1 f1.question
        → s2 ≡ answer_question m s n q
    answer-seen d1 f1 f2 e ed e1 e2 s1 s2 h1 h2 =
        let g1 : f1 ≡ facing_from m.ids q.face ((q.corner + 2) % 3) s.walk.missed = e1 ∙ ap (λ (k : ℕ). facing_from m.ids q.face k s.walk.missed) (next-two q.corner) in
        let y1 : f1.missed ≡ with_missed m.ids q.face ((q.corner + 2) % 3) s.walk.missed = ap (λ (f : Facing). f.missed) g1 in
        let y2 : f2.missed ≡ with_missed m.ids q.face q.corner f1.missed = ap (λ (f : Facing). f.missed) e2 in
        let q1 : f1.question ≡ facing m.ids q.face ((q.corner + 2) % 3) = ap (λ (f : Facing). f.question) g1 in
        let q2 : f2.question ≡ facing m.ids q.face q.corner = ap (λ (f : Facing). f.question) e2 in
        let last = by_tests (eq-eqb _ _ z) e in
        cc

-- ---- a turn

-- a walk that goes on, by the three numbers that the loop carries
abbrev pub going : List ℕ → List ℕ → List ℕ → ℕ → ℕ → ℕ → Walking
going d e p count missed held = walking (walked d e missed (Ok count)) p held false

module _ (m : Mesh) (d e p : List ℕ) (count missed held : ℕ) (some : 0 < held) where
  takes : turn m (going d e p count missed held) ≡ answer_question m (going d e (without p (held - 1)) count missed (held - 1)) count (question_at p (held - 1))
  takes = turn-takes m (going d e p count missed held) refl refl (omega arith)

  -- a turn by what its steps leave
  pub turn-made : {p1 : List ℕ} {q : Question} {s : Walking} → q ≡ question_at p (held - 1) → p1 ≡ without p (held - 1) → s ≡ answer_question m (going d e p1 count missed (held - 1)) count q
      → s ≡ turn m (going d e p count missed held)
  turn-made eq ep es = let t = takes in cc

  -- and something falls
  pub turn-less : {s : Walking} → s ≡ turn m (going d e p count missed held) → potential s < potential (going d e p count missed held)
  turn-less es =
      let less = answer-less m (going d e (without p (held - 1)) count missed (held - 1)) count (question_at p (held - 1)) in
      omega (arith, less, ap potential es, ap potential takes)

-- ---- a walk with nothing left to do: no room was found, or no question is held

module _ (m : Mesh) (s : Walking) where
  pub walk-short : s.short ≡ true → s ≡ plain_walk m s
  walk-short e = sym (walk-rests m s (turn-short m s e))

  pub walk-full : s.walk.answer ≡ full → s ≡ plain_walk m s
  walk-full e = by s.short refl
    where
      by : (b : Bool) → s.short ≡ b → s ≡ plain_walk m s
      by true eb = walk-short eb
      by false eb = sym (walk-rests m s (turn-full m s eb e))

-- ---- the loop

-- what answers so many edges, and has refused no question, goes on
pub goes : {d e p : List ℕ} (r : PlainSoFar) {n : ℕ} → r.answer ≡ Ok n → r.short ≡ false → going d e p n r.missed r.held ≡ walking_by d e p r
goes r ea eb = cc

-- from s0 the loop has come to s: the lists keep their lengths, and the walk from here is the walk from there
pub record WalkLoop (mesh : Lists → Mesh) (s0 s : Walking) : Type 0 where
  pub marks : length s.walk.deleted ≡ length s0.walk.deleted
  pub room : length s.walk.edges ≡ length s0.walk.edges
  pub places : length s.pending ≡ length s0.pending
  pub goes_on : (k : Lists) → plain_walk (mesh k) s ≡ plain_walk (mesh k) s0

pub loop-starts : (mesh : Lists → Mesh) (s : Walking) → WalkLoop mesh s s
loop-starts mesh s = record { marks = refl; room = refl; places = refl; goes_on = λ k. refl }

module _ {mesh : Lists → Mesh} {s0 s : Walking} (h : WalkLoop mesh s0 s) where
  -- no question is held
  pub ends-empty : s.short ≡ false → {n : ℕ} → s.walk.answer ≡ Ok n → s.held ≡ 0 → (k : Lists) → s ≡ plain_walk (mesh k) s0
  ends-empty eb ea eh k = sym (walk-rests (mesh k) s (turn-none (mesh k) s eb ea eh)) ∙ h.goes_on k

  module _ {s' : Walking} (t : (k : Lists) → s' ≡ turn (mesh k) s) where
    after_turn : (k : Lists) → plain_walk (mesh k) s' ≡ plain_walk (mesh k) s0
    after_turn k = ap (plain_walk (mesh k)) (t k) ∙ sym (walk_turn (mesh k) s) ∙ h.goes_on k

    pub ends-full : s'.walk.answer ≡ full → (k : Lists) → s' ≡ plain_walk (mesh k) s0
    ends-full e k = walk-full (mesh k) s' e ∙ after_turn k

    pub ends-short : s'.short ≡ true → (k : Lists) → s' ≡ plain_walk (mesh k) s0
    ends-short e k = walk-short (mesh k) s' e ∙ after_turn k

    -- a turn more
    pub loop-again : {s'' : Walking} → s'' ≡ s' → length s''.walk.deleted ≡ length s.walk.deleted → length s''.walk.edges ≡ length s.walk.edges
        → length s''.pending ≡ length s.pending → WalkLoop mesh s0 s''
    loop-again e ld le lp = record {
      marks = ld ∙ h.marks;
      room = le ∙ h.room;
      places = lp ∙ h.places;
      goes_on = λ k. ap (plain_walk (mesh k)) e ∙ after_turn k;
    }

-- ---- a pass

pub pass-made : (m : Mesh) (s : Walking) (a b c : Question) {s1 s2 s3 t : Walking} → s1 ≡ put_in s c → s2 ≡ put_in s1 b → s3 ≡ put_in s2 a → t ≡ plain_walk m s3 → t ≡ plain_pass m s a b c
unfolding plain_pass
pass-made m s a b c h1 h2 h3 h = h ∙ ap (plain_walk m) (h3 ∙ ap (λ (x : Walking). put_in x a) (h2 ∙ ap (λ (x : Walking). put_in x b) h1))

-- by either walk
module _ (m : Mesh) (s : Walking) (a b c : Question) {y : Walk} where
  pub recursively : {w : Walked} → y ≡ recursive → w ≡ pass m s.walk a b c → walking w s.pending s.held s.short ≡ pass_by y m s a b c
  unfolding pass_by
  recursively e h = rw e (ap (λ (w : Walked). walking w s.pending s.held s.short) h)

  pub plainly : {t : Walking} → y ≡ plain → t ≡ plain_pass m s a b c → t ≡ pass_by y m s a b c
  unfolding pass_by
  plainly e h = rw e h
