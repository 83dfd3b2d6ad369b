-- Two walks over faces that are alike: they go the same way, whatever lies above the counts, unless one of them finds no room. Assumes nothing.
use mathlib.Core.Path.{◌≡◌, refl, ap, subst, ◌∙◌}
use mathlib.Core.Bool.{Bool, true, false}
use mathlib.Core.List.{List}
use Prim.Native.Nat.{ℕ, zero, suc, ◌+◌, ◌*◌, ◌/◌, ◌%◌, ◌<◌, ◌≤◌}
use native.Mathlib.Omega.{arith}
use lib.ListN.{length, get_or, set, length-set}
use lib.Dec.{eqb, ltb}
use borrow.Author.Tests.{ltb-true, ltb-false}
use Rattle.epa_polytope.specs.Stores.{corner_in, neighbour_in}
use Rattle.epa_polytope.specs.Silhouette.{Mesh, Walked, WalkAnswer, Ok, Err, full, Question, zeros, next_ccw_pt_id, lookup, facing, with_missed, entered, pair_put, noted_if, noted, ask_if, ask, walk_in, walk, pass}
use Rattle.epa_polytope.specs.Bounds.{NeighboursIn}
use Rattle.epa_polytope.specs.Same.{Alike}
use Rattle.epa_polytope.proofs.Walks.{enough, Asked, asked-facing}
use Rattle.epa_polytope.proofs.Alike.{alike-push, alike_set}

-- two walks among N faces, with room for R and for R' edges: n edges are recorded in both, and alike
pub record Together (N R R' n : ℕ) (s t : Walked) : Type 0 where
  pub answer : s.answer ≡ Ok n
  pub answer' : t.answer ≡ Ok n
  pub few : n ≤ R
  pub few' : n ≤ R'
  pub missed : s.missed ≡ t.missed
  pub deleted : Alike N s.deleted t.deleted
  pub edges : Alike (n * 2) s.edges t.edges
  pub room : length s.edges / 2 ≡ R
  pub room' : length t.edges / 2 ≡ R'

-- both have found no room, at the same edge
pub record FullTogether (N R R' : ℕ) (s t : Walked) : Type 0 where
  pub answer : s.answer ≡ full
  pub answer' : t.answer ≡ full
  pub rooms : R ≡ R'
  pub missed : s.missed ≡ t.missed
  pub deleted : Alike N s.deleted t.deleted
  pub edges : Alike (R * 2) s.edges t.edges

pub data Along (N R R' : ℕ) (s t : Walked) : Type 0 where
  first_full : s.answer ≡ full → R < R' → Along N R R' s t
  second_full : t.answer ≡ full → R' < R → Along N R R' s t
  both_full : FullTogether N R R' s t → Along N R R' s t
  both : (n : ℕ) → Together N R R' n s t → Along N R R' s t

-- a walk that has found no room does nothing more
full-stays : (n : ℕ) (m : Mesh) (s : Walked) (q : Question) → s.answer ≡ full → walk_in n m s q ≡ s
unfolding walk_in ask
full-stays zero m s q e = refl
full-stays (suc n) m s q e = by s.answer (eqb (get_or s.deleted q.face 1) 0) (m.seen q) e
  where
    by : (a : WalkAnswer) (d v : Bool) → a ≡ full → ask_if a d v m (walk_in n m) s q ≡ s
    by (Err _) d v x = refl
    by (Ok k) d v x = let z : ◌≡◌ {A = ℕ} 0 1 = cc in let y : ⊥ = omega arith in absurd y

-- an edge more, in both
pub alike-edge : (n : ℕ) (l k : List ℕ) (q : Question) → n < length l / 2 → n < length k / 2 → Alike (n * 2) l k → Alike ((n + 1) * 2) (pair_put l n q) (pair_put k n q)
alike-edge n l k q hl hk a =
    let e : suc (suc (n * 2)) ≡ (n + 1) * 2 = omega arith in
    let one : suc (n * 2) ≡ n * 2 + 1 = omega arith in
    let b = alike-push (n * 2) l k q.face (omega arith) (omega arith) a in
    let c = alike-push (suc (n * 2)) (set l (n * 2) q.face) (set k (n * 2) q.face) q.corner (omega (arith, length-set l (n * 2) q.face)) (omega (arith, length-set k (n * 2) q.face)) b in
    subst (λ (x : ℕ). Alike x (pair_put l n q) (pair_put k n q)) e
    (subst (λ (x : ℕ). Alike (suc (suc (n * 2))) (set (set l (n * 2) q.face) x q.corner) (set (set k (n * 2) q.face) x q.corner)) one c)

pub edge-length : (n : ℕ) (l : List ℕ) (q : Question) → length (pair_put l n q) ≡ length l
edge-length n l q = length-set (set l (n * 2) q.face) (n * 2 + 1) q.corner ∙ length-set l (n * 2) q.face

alike_next : (N : ℕ) (l k : List ℕ) (f p : ℕ) → f < N → Alike (N * 6) l k → next_ccw_pt_id l f p ≡ next_ccw_pt_id k f p
unfolding next_ccw_pt_id
alike_next N l k f p h a = rw (a.same (f * 6 + 0) 0 (omega arith), a.same (f * 6 + 1) 0 (omega arith), a.same (f * 6 + 2) 0 (omega arith))

module _ (N : ℕ) (ids ids' : List ℕ) (a : Alike (N * 6) ids ids') (h : NeighboursIn N N ids) (f k : ℕ) (hf : f < N) (hk : k < 3) where
  alike-neighbour : neighbour_in ids f k ≡ neighbour_in ids' f k
  alike-neighbour = a.same _ 0 (omega arith)

  alike-lookup : lookup ids f k ≡ lookup ids' f k
  alike-lookup =
      let e = alike-neighbour in
      let p : corner_in ids f k ≡ corner_in ids' f k = a.same _ 0 (omega arith) in
      let x : lookup ids f k ≡ next_ccw_pt_id ids' (neighbour_in ids f k) (corner_in ids f k) = alike_next N ids ids' _ _ (h.below f k hf hk) a in
      cc

  -- the same neighbours are asked
  pub alike-facing : facing ids f k ≡ facing ids' f k
  unfolding facing
  alike-facing = rw (alike-lookup, alike-neighbour)

  -- the same lookups miss
  pub alike-missed : {n n' : ℕ} → n ≡ n' → with_missed ids f k n ≡ with_missed ids' f k n'
  unfolding with_missed
  alike-missed e = rw (alike-lookup, e)

module _ (N R R' : ℕ) (m m' : Mesh) (h : NeighboursIn N N m.ids) (ids : Alike (N * 6) m.ids m'.ids) (seen : (q : Question) → Asked N q → m.seen q ≡ m'.seen q) where
  abbrev Pair : Walked → Walked → Type 0
  Pair s t = Along N R R' s t

  pub along-noted : (n : ℕ) (s t : Walked) (q : Question) → Together N R R' n s t → Pair (noted s n q) (noted t n q)
  along-noted n s t q g = by (ltb n (length s.edges / 2)) (ltb n (length t.edges / 2)) refl refl
    where
      by : (b d : Bool) → ltb n (length s.edges / 2) ≡ b → ltb n (length t.edges / 2) ≡ d → Pair (noted_if b s n q) (noted_if d t n q)
      by false true e x = first_full refl (omega (arith, g.few, g.room, g.room', ltb-false n (length s.edges / 2) e, ltb-true n (length t.edges / 2) x))
      by true false e x = second_full refl (omega (arith, g.few', g.room, g.room', ltb-true n (length s.edges / 2) e, ltb-false n (length t.edges / 2) x))
      by false false e x =
          let full : n ≡ R = omega (arith, g.few, g.room, ltb-false n (length s.edges / 2) e) in
          both_full (record {
            answer = refl;
            answer' = refl;
            rooms = omega (arith, g.few', g.room', ltb-false n (length t.edges / 2) x);
            missed = g.missed;
            deleted = g.deleted;
            edges = subst (λ (k : ℕ). Alike (k * 2) s.edges t.edges) full g.edges;
          })
      by true true e x =
          let l : n < length s.edges / 2 = ltb-true n (length s.edges / 2) e in
          let l' : n < length t.edges / 2 = ltb-true n (length t.edges / 2) x in
          both (n + 1) (record {
            answer = refl;
            answer' = refl;
            few = omega (arith, g.room);
            few' = omega (arith, g.room');
            missed = g.missed;
            deleted = g.deleted;
            edges = alike-edge n s.edges t.edges q l l' g.edges;
            room = ap (λ (k : ℕ). k / 2) (edge-length n s.edges q) ∙ g.room;
            room' = ap (λ (k : ℕ). k / 2) (edge-length n t.edges q) ∙ g.room';
          })

  -- a face that is seen is deleted, and looked up, in both
  pub along-entered : (n : ℕ) (s t : Walked) (q : Question) → Asked N q → Together N R R' n s t → Together N R R' n (entered m s q) (entered m' t q)
  along-entered n s t q y g =
      let once = alike-missed N m.ids m'.ids ids h q.face ((q.corner + 2) % 3) y.face_in (omega arith) g.missed in
      record {
        answer = g.answer;
        answer' = g.answer';
        few = g.few;
        few' = g.few';
        missed = alike-missed N m.ids m'.ids ids h q.face q.corner y.face_in y.corner_in once;
        deleted = alike_set N s.deleted t.deleted q.face 1 g.deleted;
        edges = g.edges;
        room = g.room;
        room' = g.room';
      }

  along-ask : (go go' : Walked → Question → Walked) → ((s t : Walked) (q : Question) → Asked N q → Pair s t → Pair (go s q) (go' t q))
      → (k : ℕ) (s t : Walked) (q : Question) → Asked N q → Together N R R' k s t → Pair (ask m go s q) (ask m' go' t q)
  unfolding ask
  along-ask go go' law k s t q y g =
      let e1 : get_or s.deleted q.face 1 ≡ get_or t.deleted q.face 1 = g.deleted.same q.face 1 y.face_in in
      given s.answer t.answer (eqb (get_or s.deleted q.face 1) 0) (eqb (get_or t.deleted q.face 1) 0) (m.seen q) (m'.seen q) g.answer g.answer'
      (ap (λ (x : ℕ). eqb x 0) e1) (seen q y)
    where
      by : (d v : Bool) → Pair (ask_if (Ok k) d v m go s q) (ask_if (Ok k) d v m' go' t q)
      by false v = both k g
      by true false = along-noted k s t q g
      by true true =
          let c2 : (q.corner + 2) % 3 < 3 = omega arith in
          let e1 = alike-facing N m.ids m'.ids ids h q.face ((q.corner + 2) % 3) y.face_in c2 in
          let e2 = alike-facing N m.ids m'.ids ids h q.face q.corner y.face_in y.corner_in in
          let y1 = asked-facing m.ids N h q.face ((q.corner + 2) % 3) y.face_in c2 in
          let y2 = asked-facing m.ids N h q.face q.corner y.face_in y.corner_in in
          rw (← e1, ← e2) (law _ _ _ y2 (law _ _ _ y1 (both k (along-entered k s t q y g))))

      given : (a b : WalkAnswer) (d e v x : Bool) → a ≡ Ok k → b ≡ Ok k → d ≡ e → v ≡ x → Pair (ask_if a d v m go s q) (ask_if b e x m' go' t q)
      given a b d e v x ea eb ed ev = rw (ea, eb, ed, ev) (by e x)

  along-walk_in : (n : ℕ) (s t : Walked) (q : Question) → Asked N q → Pair s t → Pair (walk_in n m s q) (walk_in n m' t q)
  unfolding walk_in
  along-walk_in zero s t q y p = p
  along-walk_in (suc n) s t q y (first_full e b) = first_full (rw (full-stays (suc n) m s q e) e) b
  along-walk_in (suc n) s t q y (second_full e b) = second_full (rw (full-stays (suc n) m' t q e) e) b
  along-walk_in (suc n) s t q y (both_full g) = rw (full-stays (suc n) m s q g.answer, full-stays (suc n) m' t q g.answer') (both_full g)
  along-walk_in (suc n) s t q y (both k g) = along-ask (walk_in n m) (walk_in n m') (along-walk_in n) k s t q y g

  along-walk : (s t : Walked) (q : Question) → Asked N q → Pair s t → Pair (walk m s q) (walk m' t q)
  unfolding walk
  along-walk s t q y p =
      let n = zeros s.deleted + zeros t.deleted in
      rw (enough (zeros s.deleted) n m s q (omega arith) (omega arith), enough (zeros t.deleted) n m' t q (omega arith) (omega arith))
      (along-walk_in n s t q y p)

  pub along-pass : (s t : Walked) (a b c : Question) → Asked N a → Asked N b → Asked N c → Pair s t → Pair (pass m s a b c) (pass m' t a b c)
  unfolding pass
  along-pass s t a b c ya yb yc p = along-walk _ _ c yc (along-walk _ _ b yb (along-walk s t a ya p))
