-- The laws of the walk: its depth suffices, what it deletes and records, and the places that it writes. Assumes nothing.
use mathlib.Core.Path.{◌≡◌, refl, sym, ap, subst, ◌∙◌}
use mathlib.Core.Bool.{Bool, true, false, cond}
use mathlib.Core.List.{List, [], ◌∷◌}
use Prim.Native.Nat.{ℕ, zero, suc, ◌+◌, ◌*◌, ◌/◌, ◌%◌, ◌^◌, ◌<◌, ◌≤◌}
use native.Mathlib.Nat.{le_refl, mod-le}
use native.Mathlib.Omega.{arith}
use lib.ListN.{length, get_or, set, length-set}
use lib.Dec.{eqb, ltb}
use borrow.Author.Tests.{eqb-true, eq-eqb, ne_eqb, ltb-true, ltb-false}
use Rattle.epa_polytope.specs.Stores.{corner_in, live_to}
use Rattle.epa_polytope.specs.Silhouette.{WalkAnswer, Ok, Err, full, Question, Mesh, Walked, walked, zeros, Option, Facing, Some, None, next_ccw_pt_id, corner_or0, misses, lookup, facing, with_missed, facing_from, entered, pair_put, noted_if, noted, ask_if, ask, walk_in, walk, pass, recorded_of}
use Rattle.epa_polytope.specs.Bounds.{NeighboursIn}
use Rattle.epa_polytope.specs.Rule.{Untouched}
use Rattle.epa_polytope.proofs.Basics.{EdgesIn, edges-put, live-delete}
use Rattle.epa_polytope.proofs.Lists.{next-two}
use Rattle.epa_polytope.proofs.Places.{stays, after, one_set}

pub zeros-set : (d : List ℕ) (f : ℕ) → get_or d f 1 ≡ 0 → zeros d ≡ suc (zeros (set d f 1))
unfolding zeros
zeros-set [] f h = omega arith
zeros-set (zero ∷ d) zero h = omega arith
zeros-set (suc x ∷ d) zero h = omega arith
zeros-set (x ∷ d) (suc f) h = omega (arith, zeros-set d f h)

-- an edge that is recorded, or refused, deletes no face
pub noted-deletes-none : (s : Walked) (n : ℕ) (q : Question) → (noted s n q).deleted ≡ s.deleted
noted-deletes-none s n q = by (ltb n (length s.edges / 2))
  where
    by : (b : Bool) → (noted_if b s n q).deleted ≡ s.deleted
    by true = refl
    by false = refl

abbrev Go : Type 0
Go = Walked → Question → Walked

-- a law of every walk over the mesh m, from what begins to what ends it: it holds where nothing is done and where an edge is
-- recorded or refused, and it holds of a face that is deleted if it holds of the two questions that follow. Of each question
-- that is asked Q is known, if it is of the first and passes from a face to its neighbours
module _ (m : Mesh) (Q : Question → Type 0) (P : Walked → Walked → Type 0)
    (on : (q : Question) → Q q → Q (facing m.ids q.face ((q.corner + 2) % 3)) × Q (facing m.ids q.face q.corner))
    (stay : (s : Walked) → P s s)
    (edge : (s : Walked) (n : ℕ) (q : Question) → Q q → s.answer ≡ Ok n → P s (noted s n q))
    (both : (s s1 s2 : Walked) (q : Question) → Q q → get_or s.deleted q.face 1 ≡ 0 → P (entered m s q) s1 → P s1 s2 → P s s2) where
  ask-law : (go : Go) → ((s : Walked) (q : Question) → Q q → P s (go s q)) → (s : Walked) (q : Question) → Q q → P s (ask m go s q)
  unfolding ask
  ask-law go h s q y = by s.answer (eqb (get_or s.deleted q.face 1) 0) (m.seen q) refl refl
    where
      by : (a : WalkAnswer) (d v : Bool) → s.answer ≡ a → eqb (get_or s.deleted q.face 1) 0 ≡ d → P s (ask_if a d v m go s q)
      by (Err _) d v e z = stay s
      by (Ok n) false v e z = stay s
      by (Ok n) true false e z = edge s n q y e
      by (Ok n) true true e z = both s _ _ q y (eqb-true _ _ z) (h _ _ (on q y).0) (h _ _ (on q y).1)

  walk_in-law : (n : ℕ) (s : Walked) (q : Question) → Q q → P s (walk_in n m s q)
  unfolding walk_in
  walk_in-law zero s q y = stay s
  walk_in-law (suc n) s q y = ask-law (walk_in n m) (walk_in-law n) s q y

  pub walk-law : (s : Walked) (q : Question) → Q q → P s (walk m s q)
  unfolding walk
  walk-law s q y = walk_in-law (zeros s.deleted) s q y

-- where nothing need be known of a question
abbrev pub Any : Question → Type 0
Any q = Unit {0}

-- ---- the depth suffices

-- no walk makes a face live
walk_in-zeros : (n : ℕ) (m : Mesh) (s : Walked) (q : Question) → zeros (walk_in n m s q).deleted ≤ zeros s.deleted
walk_in-zeros n m s q = walk_in-law m Any (λ s s'. zeros s'.deleted ≤ zeros s.deleted)
    (λ q y. (tt, tt))
    (λ s. le_refl _)
    (λ s n q y e. rw (noted-deletes-none s n q) (le_refl _))
    (λ s s1 s2 q y z p1 p2. omega (arith, zeros-set s.deleted q.face z))
    n
    s
    q
    tt

-- a question where no face is live changes nothing
ask-stays : (m : Mesh) (go : Go) (s : Walked) (q : Question) → zeros s.deleted ≤ 0 → s ≡ ask m go s q
unfolding ask
ask-stays m go s q h = by s.answer (eqb (get_or s.deleted q.face 1) 0) (m.seen q) refl
  where
    none : {A : Type 0} → eqb (get_or s.deleted q.face 1) 0 ≡ true → A
    none e = let z : ⊥ = omega (arith, zeros-set s.deleted q.face (eqb-true _ _ e)) in absurd z

    by : (a : WalkAnswer) (d v : Bool) → eqb (get_or s.deleted q.face 1) 0 ≡ d → s ≡ ask_if a d v m go s q
    by (Err _) d v e = refl
    by (Ok n) false v e = refl
    by (Ok n) true false e = none e
    by (Ok n) true true e = none e

-- a question is answered alike by two that answer alike what follows from it, where fewer faces are live
ask-agree : (m : Mesh) (go go' : Go) (s : Walked) (q : Question)
    → ((s : Walked) (q : Question) → zeros (go s q).deleted ≤ zeros s.deleted)
    → ((s' : Walked) (q' : Question) → zeros s'.deleted < zeros s.deleted → go s' q' ≡ go' s' q')
    → ask m go s q ≡ ask m go' s q
unfolding ask
ask-agree m go go' s q low same = by s.answer (eqb (get_or s.deleted q.face 1) 0) (m.seen q) refl
  where
    by : (a : WalkAnswer) (d v : Bool) → eqb (get_or s.deleted q.face 1) 0 ≡ d → ask_if a d v m go s q ≡ ask_if a d v m go' s q
    by (Err _) d v e = refl
    by (Ok k) false v e = refl
    by (Ok k) true false e = refl
    by (Ok k) true true e =
        let s1 : Walked = entered m s q in
        let q1 : Question = facing m.ids q.face ((q.corner + 2) % 3) in
        let q2 : Question = facing m.ids q.face q.corner in
        let l1 : zeros s1.deleted < zeros s.deleted = omega (arith, zeros-set s.deleted q.face (eqb-true _ _ e)) in
        same (go s1 q1) q2 (omega (arith, low s1 q1)) ∙ ap (λ (x : Walked). go' x q2) (same s1 q1 l1)

-- two depths, each of at least the number of live faces, give one walk
pub enough : (n k : ℕ) (m : Mesh) (s : Walked) (q : Question) → zeros s.deleted ≤ n → zeros s.deleted ≤ k → walk_in n m s q ≡ walk_in k m s q
unfolding walk_in
enough zero zero m s q h h' = refl
enough zero (suc k) m s q h h' = ask-stays m (walk_in k m) s q h
enough (suc n) zero m s q h h' = sym (ask-stays m (walk_in n m) s q h')
enough (suc n) (suc k) m s q h h' =
    ask-agree m (walk_in n m) (walk_in k m) s q (walk_in-zeros n m) (λ s' q' l. enough n k m s' q' (omega arith) (omega arith))

-- the walk is the question whose questions are walks
pub walk_step : (m : Mesh) (s : Walked) (q : Question) → walk m s q ≡ ask m (walk m) s q
unfolding walk walk_in
walk_step m s q = by (zeros s.deleted) refl
  where
    by : (n : ℕ) → zeros s.deleted ≡ n → walk_in n m s q ≡ ask m (walk m) s q
    by zero e = ask-stays m (walk m) s q (omega arith)
    by (suc n) e = ask-agree m (walk_in n m) (walk m) s q (walk_in-zeros n m) (λ s' q' l. enough n (zeros s'.deleted) m s' q' (omega arith) (le_refl _))

-- ---- what a walk deletes and records, among N faces

-- a question that can be asked of N faces
pub record Asked (N : ℕ) (q : Question) : Type 0 where
  pub face_in : q.face < N
  pub corner_in : q.corner < 3

next-below : (ids : List ℕ) (f p : ℕ) → corner_or0 (next_ccw_pt_id ids f p) < 3
unfolding next_ccw_pt_id
next-below ids f p = by (eqb (corner_in ids f 0) p) (eqb (corner_in ids f 1) p) (eqb (corner_in ids f 2) p)
  where
    by : (a b c : Bool) → corner_or0 (cond a (Some 1) (cond b (Some 2) (cond c (Some 0) None))) < 3
    by true b c = omega arith
    by false true c = omega arith
    by false false true = omega arith
    by false false false = omega arith

-- a neighbour can be asked
pub asked-facing : (ids : List ℕ) (N : ℕ) → NeighboursIn N N ids → (f k : ℕ) → f < N → k < 3 → Asked N (facing ids f k)
unfolding facing
asked-facing ids N h f k hf hk = record { face_in = h.below f k hf hk; corner_in = next-below ids _ _ }

-- how many edges a walk has asked to record: one more than there is room for, where it found none
abbrev pub asked_of : ℕ → WalkAnswer → ℕ
asked_of room (Ok n) = n
asked_of room (Err _) = suc room

-- the room for edges
abbrev pub edge_room : Walked → ℕ
edge_room s = length s.edges / 2

abbrev pub Recorded : ℕ → Walked → WalkAnswer → Type 0
Recorded N s (Ok n) = EdgesIn N n s.edges
Recorded N s (Err _) = Unit {0}

length-put : (l : List ℕ) (n : ℕ) (q : Question) → length (pair_put l n q) ≡ length l
length-put l n q = length-set (set l (n * 2) q.face) (n * 2 + 1) q.corner ∙ length-set l (n * 2) q.face

room_noted : (s : Walked) (n : ℕ) (q : Question) → length (noted s n q).edges ≡ length s.edges
room_noted s n q = by (ltb n (length s.edges / 2))
  where
    by : (b : Bool) → length (noted_if b s n q).edges ≡ length s.edges
    by true = length-put s.edges n q
    by false = refl

-- no walk changes a length
pub same-room : (m : Mesh) (s : Walked) (q : Question) → length (walk m s q).edges ≡ length s.edges
same-room m s q = walk-law m Any (λ s s'. length s'.edges ≡ length s.edges) (λ q y. (tt, tt)) (λ s. refl) (λ s n q y e. room_noted s n q) (λ s s1 s2 q y z p1 p2. p2 ∙ p1) s q tt

pub same-marks : (m : Mesh) (s : Walked) (q : Question) → length (walk m s q).deleted ≡ length s.deleted
same-marks m s q = walk-law m Any (λ s s'. length s'.deleted ≡ length s.deleted) (λ q y. (tt, tt)) (λ s. refl) (λ s n q y e. ap (λ (d : List ℕ). length d) (noted-deletes-none s n q)) (λ s s1 s2 q y z p1 p2. p2 ∙ p1 ∙ length-set s.deleted q.face 1) s q tt

-- from s to t, faces below N were deleted, and edges recorded at places below the number of those there are, for which there is room
pub record Reached (N : ℕ) (s t : Walked) : Type 0 where
  pub same_room : length t.edges ≡ length s.edges
  pub more : recorded_of (edge_room s) s.answer ≤ recorded_of (edge_room t) t.answer
  pub fits : recorded_of (edge_room t) t.answer ≤ edge_room t
  pub of_deleted : Untouched N t.deleted s.deleted
  pub of_edges : Untouched (recorded_of (edge_room t) t.answer * 2) t.edges s.edges

-- one walk after another
pub reached-after : {N : ℕ} {s t u : Walked} → Reached N s t → Reached N t u → Reached N s u
reached-after p q = record {
  same_room = q.same_room ∙ p.same_room;
  more = omega (arith, p.more, q.more);
  fits = q.fits;
  of_deleted = after (omega arith) q.of_deleted p.of_deleted;
  of_edges = after (omega (arith, q.more)) q.of_edges p.of_edges;
}

module _ (m : Mesh) (N : ℕ) (h : NeighboursIn N N m.ids) where
  on-asked : (q : Question) → Asked N q → Asked N (facing m.ids q.face ((q.corner + 2) % 3)) × Asked N (facing m.ids q.face q.corner)
  on-asked q y = (asked-facing m.ids N h q.face ((q.corner + 2) % 3) y.face_in (omega arith), asked-facing m.ids N h q.face q.corner y.face_in y.corner_in)

  pub asked-noted : (s : Walked) (n : ℕ) (q : Question) (R : ℕ) → edge_room s ≡ R → asked_of R (noted s n q).answer + live_to N (noted s n q).deleted ≤ n + live_to N s.deleted + 1
  asked-noted s n q R e = by (ltb n (edge_room s)) refl
    where
      by : (b : Bool) → ltb n (edge_room s) ≡ b → asked_of R (noted_if b s n q).answer + live_to N (noted_if b s n q).deleted ≤ n + live_to N s.deleted + 1
      by true x = omega arith
      by false x = omega (arith, ltb-false n (edge_room s) x)

  room_after : (s t : Walked) (R : ℕ) → length t.edges ≡ length s.edges → edge_room s ≡ R → edge_room t ≡ R
  room_after s t R l e = ap (λ (n : ℕ). n / 2) l ∙ e

  -- a question asks for at most one edge more than it deletes faces
  pub spent : (R : ℕ) (s : Walked) (q : Question) → Asked N q → edge_room s ≡ R
      → asked_of R (walk m s q).answer + live_to N (walk m s q).deleted ≤ asked_of R s.answer + live_to N s.deleted + 1
  spent R s q y room = (walk-law m (Asked N) (λ s s'. edge_room s ≡ R → (asked_of R s'.answer + live_to N s'.deleted ≤ asked_of R s.answer + live_to N s.deleted + 1) × (edge_room s' ≡ R))
      on-asked
      (λ s r. (omega arith, r))
      (λ s n q y e r. (omega (arith, asked-noted s n q R r, ap (asked_of R) e), room_after s (noted s n q) R (room_noted s n q) r))
      (λ s s1 s2 q y z p1 p2 r. let a = p1 r in let b = p2 a.1 in (omega (arith, a.0, b.0, live-delete N s.deleted q.face y.face_in z), b.1))
      s
      q
      y
      room
      ).0

  -- no walk makes a face live
  pub fewer : (s : Walked) (q : Question) → Asked N q → live_to N (walk m s q).deleted ≤ live_to N s.deleted
  fewer s q y = walk-law m (Asked N) (λ s s'. live_to N s'.deleted ≤ live_to N s.deleted)
      on-asked
      (λ s. omega arith)
      (λ s n q y e. rw (noted-deletes-none s n q) (le_refl _))
      (λ s s1 s2 q y z p1 p2. omega (arith, live-delete N s.deleted q.face y.face_in z))
      s
      q
      y

  pub edges-noted : (s : Walked) (n : ℕ) (q : Question) → Asked N q → EdgesIn N n s.edges → Recorded N (noted s n q) (noted s n q).answer
  edges-noted s n q y p = by (ltb n (length s.edges / 2))
    where
      by : (b : Bool) → Recorded N (noted_if b s n q) (noted_if b s n q).answer
      by true = edges-put N n s.edges q y.face_in y.corner_in p
      by false = tt

  -- the edges recorded are of faces and their corners
  pub kept : (s : Walked) (q : Question) → Asked N q → Recorded N s s.answer → Recorded N (walk m s q) (walk m s q).answer
  kept s q y = walk-law m (Asked N) (λ s s'. Recorded N s s.answer → Recorded N s' s'.answer)
      on-asked
      (λ s i. i)
      (λ s n q y e i. edges-noted s n q y (subst (λ (a : WalkAnswer). Recorded N s a) e i))
      (λ s s1 s2 q y z p1 p2 i. p2 (p1 (as-deleted s q s.answer i)))
      s
      q
      y
    where
      as-deleted : (s : Walked) (q : Question) (a : WalkAnswer) → Recorded N s a → Recorded N (entered m s q) a
      as-deleted s q (Ok n) i = i
      as-deleted s q (Err _) i = tt

  pub reached-noted : (s : Walked) (n : ℕ) (q : Question) → s.answer ≡ Ok n → recorded_of (edge_room s) s.answer ≤ edge_room s → Reached N s (noted s n q)
  reached-noted s n q e l = by (ltb n (edge_room s)) refl
    where
      was : recorded_of (edge_room s) s.answer ≡ n
      was = rw e

      by : (b : Bool) → ltb n (edge_room s) ≡ b → Reached N s (noted_if b s n q)
      by true t =
          let room : length (pair_put s.edges n q) ≡ length s.edges = length-put s.edges n q in
          record {
            same_room = room;
            more = omega (arith, was);
            fits = rw room (omega (arith, ltb-true n (edge_room s) t));
            of_deleted = stays N s.deleted;
            of_edges = after (le_refl _) (one_set (set s.edges (n * 2) q.face) (n * 2 + 1) q.corner ((n + 1) * 2) (omega arith)) (one_set s.edges (n * 2) q.face ((n + 1) * 2) (omega arith));
          }
      by false t = record { same_room = refl; more = l; fits = omega arith; of_deleted = stays N s.deleted; of_edges = stays _ s.edges }

  -- the places that a walk writes
  reached : (s : Walked) (q : Question) → Asked N q → recorded_of (edge_room s) s.answer ≤ edge_room s → Reached N s (walk m s q)
  reached s q y = walk-law m (Asked N) (λ s s'. recorded_of (edge_room s) s.answer ≤ edge_room s → Reached N s s')
      on-asked
      (λ s l. record { same_room = refl; more = omega arith; fits = l; of_deleted = stays N s.deleted; of_edges = stays _ s.edges })
      (λ s n q y e l. reached-noted s n q e l)
      (λ s s1 s2 q y z p1 p2 l. let r = reached-after (p1 l) (p2 (p1 l).fits) in
      record { same_room = r.same_room; more = r.more; fits = r.fits; of_deleted = after (omega arith) r.of_deleted (one_set s.deleted q.face 1 N y.face_in); of_edges = r.of_edges })
      s
      q
      y

  module _ (s : Walked) (a b c : Question) (ya : Asked N a) (yb : Asked N b) (yc : Asked N c) where
    -- the places that a pass writes
    pub reached-pass : recorded_of (edge_room s) s.answer ≤ edge_room s → Reached N s (pass m s a b c)
    unfolding pass
    reached-pass l =
        let r1 = reached s a ya l in
        let r2 = reached (walk m s a) b yb r1.fits in
        reached-after r1 (reached-after r2 (reached (walk m (walk m s a) b) c yc r2.fits))

    -- THE LAW of a pass: at most three edges more than faces deleted
    pub spent-pass : (R : ℕ) → edge_room s ≡ R → asked_of R (pass m s a b c).answer + live_to N (pass m s a b c).deleted ≤ asked_of R s.answer + live_to N s.deleted + 3
    unfolding pass
    spent-pass R e =
        let s1 = walk m s a in
        let s2 = walk m s1 b in
        let e1 = room_after s s1 R (same-room m s a) e in
        let e2 = room_after s1 s2 R (same-room m s1 b) e1 in
        omega (arith, spent R s a ya e, spent R s1 b yb e1, spent R s2 c yc e2)

    pub fewer-pass : live_to N (pass m s a b c).deleted ≤ live_to N s.deleted
    unfolding pass
    fewer-pass =
        let s1 = walk m s a in
        let s2 = walk m s1 b in
        omega (arith, fewer s a ya, fewer s1 b yb, fewer s2 c yc)

    pub kept-pass : Recorded N s s.answer → Recorded N (pass m s a b c) (pass m s a b c).answer
    unfolding pass
    kept-pass i = kept (walk m (walk m s a) b) c yc (kept (walk m s a) b yb (kept s a ya i))

-- ---- the lookups that miss

pub misses-one : (a : Option ℕ) → misses a ≤ 1
misses-one (Some k) = omega arith
misses-one None = omega arith

-- an edge misses none, and deletes none
pub misses-noted : (N : ℕ) (s : Walked) (n : ℕ) (q : Question) → (noted s n q).missed + 2 * live_to N (noted s n q).deleted ≤ s.missed + 2 * live_to N s.deleted
misses-noted N s n q = by (ltb n (length s.edges / 2))
  where
    by : (b : Bool) → (noted_if b s n q).missed + 2 * live_to N (noted_if b s n q).deleted ≤ s.missed + 2 * live_to N s.deleted
    by true = omega arith
    by false = omega arith

-- a lookup that misses is one more, if any
pub one_more : (ids : List ℕ) (f k n : ℕ) → with_missed ids f k n ≤ n + 1
unfolding with_missed
one_more ids f k n = omega (arith, misses-one (lookup ids f k), mod-le (n + misses (lookup ids f k)) (2 ^ 64))

module _ (m : Mesh) (N : ℕ) (h : NeighboursIn N N m.ids) where
  -- a question brings two at most for each face that it deletes
  pub misses-few : (s : Walked) (q : Question) → Asked N q → (walk m s q).missed + 2 * live_to N (walk m s q).deleted ≤ s.missed + 2 * live_to N s.deleted
  misses-few s q y = walk-law m (Asked N) (λ s s'. s'.missed + 2 * live_to N s'.deleted ≤ s.missed + 2 * live_to N s.deleted)
      (on-asked m N h)
      (λ s. omega arith)
      (λ s n q y e. misses-noted N s n q)
      (λ s s1 s2 q y z p1 p2.
      omega (arith, p1, p2, live-delete N s.deleted q.face y.face_in z, one_more m.ids q.face ((q.corner + 2) % 3) s.missed, one_more m.ids q.face q.corner (with_missed m.ids q.face ((q.corner + 2) % 3) s.missed)))
      s
      q
      y

  pub misses-pass : (s : Walked) (a b c : Question) → Asked N a → Asked N b → Asked N c → (pass m s a b c).missed + 2 * live_to N (pass m s a b c).deleted ≤ s.missed + 2 * live_to N s.deleted
  unfolding pass
  misses-pass s a b c ya yb yc =
      let s1 = walk m s a in
      let s2 = walk m s1 b in
      omega (arith, misses-few s a ya, misses-few s1 b yb, misses-few s2 c yc)

pub same-marks-pass : (m : Mesh) (s : Walked) (a b c : Question) → length (pass m s a b c).deleted ≡ length s.deleted
unfolding pass
same-marks-pass m s a b c = same-marks m _ c ∙ same-marks m _ b ∙ same-marks m s a

-- ---- a walk as the code makes it: the four answers, by what the code tests

pub walk-zeros : (m : Mesh) (s : Walked) (q : Question) → zeros (walk m s q).deleted ≤ zeros s.deleted
unfolding walk
walk-zeros m s q = walk_in-zeros (zeros s.deleted) m s q

module _ (m : Mesh) (s : Walked) (q : Question) where
  pub walk-full : s.answer ≡ full → s ≡ walk m s q
  unfolding ask
  walk-full e = rw (walk_step m s q, e)

  module _ {n : ℕ} (e : s.answer ≡ Ok n) where
    pub walk-dead : (get_or s.deleted q.face 1 ≡ 0 → ⊥) → s ≡ walk m s q
    unfolding ask
    walk-dead h = rw (walk_step m s q, e, ne_eqb _ _ h)

    module _ (z : get_or s.deleted q.face 1 ≡ 0) where
      pub walk-edge : m.seen q ≡ false → noted s n q ≡ walk m s q
      unfolding ask
      walk-edge h = rw (walk_step m s q, e, eq-eqb _ _ z, h)

      pub walk-seen : m.seen q ≡ true → walk m (walk m (entered m s q) (facing m.ids q.face ((q.corner + 2) % 3))) (facing m.ids q.face q.corner) ≡ walk m s q
      unfolding ask
      walk-seen h = rw (walk_step m s q, e, eq-eqb _ _ z, h)

      -- by the lookups that the code makes, and the states that the two calls leave
      pub walk-both : (d1 : List ℕ) (f1 f2 : Facing) → m.seen q ≡ true → d1 ≡ set s.deleted q.face 1
          → f1 ≡ facing_from m.ids q.face ((q.corner % 3 + 2) % 3) s.missed → f2 ≡ facing_from m.ids q.face q.corner f1.missed
          → (s1 s2 : Walked) → s1 ≡ walk m (walked d1 s.edges f2.missed (Ok n)) f1.question → s2 ≡ walk m s1 f2.question → s2 ≡ walk m s q
      walk-both d1 f1 f2 h ed e1 e2 s1 s2 h1 h2 =
          let g1 : f1 ≡ facing_from m.ids q.face ((q.corner + 2) % 3) s.missed = e1 ∙ ap (λ (k : ℕ). facing_from m.ids q.face k s.missed) (next-two q.corner) in
          let y1 : f1.missed ≡ with_missed m.ids q.face ((q.corner + 2) % 3) s.missed = ap (λ (f : Facing). f.missed) g1 in
          let y2 : f2.missed ≡ with_missed m.ids q.face q.corner f1.missed = ap (λ (f : Facing). f.missed) e2 in
          let q1 : f1.question ≡ facing m.ids q.face ((q.corner + 2) % 3) = ap (λ (f : Facing). f.question) g1 in
          let q2 : f2.question ≡ facing m.ids q.face q.corner = ap (λ (f : Facing). f.question) e2 in
          let last = walk-seen h in
          cc

-- the measure falls at both calls
pub fall-first : (d d1 : List ℕ) (f t : ℕ) → zeros d ≡ t → get_or d f 1 ≡ 0 → d1 ≡ set d f 1 → zeros d1 < t
fall-first d d1 f t e z h = rw h (omega (arith, zeros-set d f z))

pub fall-second : (m : Mesh) (d1 : List ℕ) (t : ℕ) (es : List ℕ) (x : ℕ) (a : WalkAnswer) (q : Question) (s : Walked) → zeros d1 < t → s ≡ walk m (walked d1 es x a) q → zeros s.deleted < t
fall-second m d1 t es x a q s l r = rw r (omega (arith, walk-zeros m (walked d1 es x a) q))

-- a pass by the states that its three walks leave
pub pass_of : (m : Mesh) (s : Walked) (a b c : Question) (s1 s2 s3 : Walked) → s1 ≡ walk m s a → s2 ≡ walk m s1 b → s3 ≡ walk m s2 c → s3 ≡ pass m s a b c
unfolding pass
pass_of m s a b c s1 s2 s3 h1 h2 h3 = h3 ∙ ap (λ (x : Walked). walk m x c) (h2 ∙ ap (λ (x : Walked). walk m x b) h1)
