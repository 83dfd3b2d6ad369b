-- Two passes by either walk, of runs whose stores are the same up to the counts: they go the same way, unless one of them finds no room. Assumes nothing.
use mathlib.Core.Path.{◌≡◌, refl, sym, ap, subst}
use mathlib.Core.Bool.{false}
use mathlib.Core.List.{List}
use Prim.Native.Nat.{ℕ, ◌+◌, ◌*◌, ◌<◌}
use native.Mathlib.Omega.{arith}
use Rattle.epa_polytope.specs.Stores.{State, Tally, room_for, the_edges, the_pending}
use Rattle.epa_polytope.specs.Steps.{Numbers}
use Rattle.epa_polytope.specs.Start.{Walk, recursive, plain}
use Rattle.epa_polytope.specs.Silhouette.{Question, Mesh, Walked, facing}
use Rattle.epa_polytope.specs.PlainWalk.{Walking, walking}
use Rattle.epa_polytope.specs.Expansion.{can_be_seen_by, mesh_of, before_pass, pass_by}
use Rattle.epa_polytope.specs.Bounds.{NeighboursIn}
use Rattle.epa_polytope.specs.Same.{Alike, Same}
use Rattle.epa_polytope.proofs.Alike.{alike-none}
use Rattle.epa_polytope.proofs.Places.{none-used}
use Rattle.epa_polytope.proofs.Walks.{Asked, asked-facing}
use Rattle.epa_polytope.proofs.Moves.{pass_from}
use Rattle.epa_polytope.proofs.PlainPasses.{steady-start}
use Rattle.epa_polytope.proofs.Along.{Together, Along, along-pass, alike-facing, alike-missed}
use Rattle.epa_polytope.proofs.Along as A
use Rattle.epa_polytope.proofs.PlainAlong.{Paired, PlainAlong, first_edge, second_edge, both_edge, placing, both, along-plain-pass}

-- the neighbours of faces that are alike are faces in both
pub alike-neighbours : (N : ℕ) (l k : List ℕ) → Alike (N * 6) l k → NeighboursIn N N l → NeighboursIn N N k
alike-neighbours N l k a h = record { below = λ i j hi hj. rw (← a.same (i * 6 + (3 + j)) 0 (omega arith)) (h.below i j hi hj) }

module _ (w : Numbers) (s t : State) (p i : ℕ) (a : NeighboursIn s.tally.faces s.tally.faces s.lists.face_ids) (l : i < s.tally.faces) (x : Same s t)
    (seen : (q : Question) → Asked s.tally.faces q → can_be_seen_by w.format s.lists p q ≡ can_be_seen_by w.format t.lists p q) where
  abbrev N : ℕ
  N = s.tally.faces

  abbrev R : State → ℕ
  R z = room_for the_edges z.lists

  abbrev P : State → ℕ
  P z = room_for the_pending z.lists

  abbrev m : State → Mesh
  m z = mesh_of w z.lists p

  abbrev at : State → ℕ → Question
  at z k = facing z.lists.face_ids i k

  -- they begin alike
  begin-together : Together N (R s) (R t) 0 (before_pass s i).walk (before_pass t i).walk
  begin-together =
      let ids = s.lists.face_ids in
      let ids' = t.lists.face_ids in
      let more0 = alike-missed N ids ids' x.face_ids a i 0 l (omega arith) (ap (λ (c : Tally). c.missed) x.tally) in
      let more1 = alike-missed N ids ids' x.face_ids a i 1 l (omega arith) more0 in
      let more2 = alike-missed N ids ids' x.face_ids a i 2 l (omega arith) more1 in
      record { answer = refl; answer' = refl; few = omega arith; few' = omega arith; missed = more2; deleted = x.deleted; edges = alike-none _ _; room = refl; room' = refl }

  begin-paired : Paired N (R s) (R t) (P s) (P t) 0 0 (before_pass s i) (before_pass t i)
  begin-paired = record { walks = begin-together; held = refl; held' = refl; few = omega arith; few' = omega arith; pending = alike-none _ _; room = refl; room' = refl }

  -- and ask the same questions
  same-questions : (y : Walk) → pass_from y w t p i ≡ pass_by y (m t) (before_pass t i) (at s 0) (at s 1) (at s 2)
  same-questions y =
      let go : (k : ℕ) → k < 3 → at s k ≡ at t k = λ k lk. alike-facing N s.lists.face_ids t.lists.face_ids x.face_ids a i k l lk in
      rw (go 0 (omega arith), go 1 (omega arith), go 2 (omega arith))

  asked : (k : ℕ) → k < 3 → Asked N (at s k)
  asked k lk = asked-facing s.lists.face_ids N a i k l lk

  -- the recursive walk holds no question
  recursively : {u v : Walked} → Along N (R s) (R t) u v → PlainAlong N (R s) (R t) (P s) (P t) (walking u s.lists.pending 0 false) (walking v t.lists.pending 0 false)
  recursively (A.first_full e b) = first_edge refl e b
  recursively (A.second_full e b) = second_edge refl e b
  recursively (A.both_full g) = both_edge 0 (record { walks = g; held = refl; held' = refl; pending = alike-none _ _ }) refl refl
  recursively (A.both n g) = placing (both n 0 (record { walks = g; held = refl; held' = refl; few = omega arith; few' = omega arith; pending = alike-none _ _; room = refl; room' = refl }) refl refl)

  along-by : (y : Walk) → PlainAlong N (R s) (R t) (P s) (P t) (pass_from y w s p i) (pass_by y (m t) (before_pass t i) (at s 0) (at s 1) (at s 2))
  unfolding pass_by
  along-by recursive =
      recursively (along-pass N (R s) (R t) (m s) (m t) a x.face_ids seen _ _ (at s 0) (at s 1) (at s 2) (asked 0 (omega arith)) (asked 1 (omega arith)) (asked 2 (omega arith)) (A.both 0 begin-together))
  along-by plain =
      let held = s.lists.pending in
      along-plain-pass N (R s) (R t) (P s) (P t) (m s) (m t) a x.face_ids seen (before_pass s i).walk held _ (before_pass s i) (before_pass t i) (at s 0) (at s 1) (at s 2)
      (asked 0 (omega arith)) (asked 1 (omega arith)) (asked 2 (omega arith)) (steady-start (m s) N a (before_pass s i).walk refl held held 0 refl (omega arith) (none-used 0 held)) (both 0 0 begin-paired refl refl)

  pub along-from : (y : Walk) → PlainAlong N (R s) (R t) (P s) (P t) (pass_from y w s p i) (pass_from y w t p i)
  along-from y = subst (λ (z : Walking). PlainAlong N (R s) (R t) (P s) (P t) (pass_from y w s p i) z) (sym (same-questions y)) (along-by y)
