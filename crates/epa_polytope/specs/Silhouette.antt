-- The silhouette walk: `compute_silhouette` of src/query/epa/epa3.rs with `next_ccw_pt_id`, over any test of which faces are seen. Definitions only.
use Rattle.std.specs.Prelude.{ℕ, zero, suc, ◌+◌, ◌*◌, ◌/◌, ◌%◌, ◌^◌, List, [], ◌∷◌, Bool, true, false, cond, length, get_or, set, eqb, ltb}
use Rattle.epa_polytope.specs.Stores.{corner_in, neighbour_in, one_if_zero}
pub use Rattle.std.specs.Prelude.{Option, Some, None, Result, Ok, Err}
use Rattle.refusal.specs.Refusal.{no_room}
use Rattle.refusal.specs.declared.NoRoom.{NoRoom}
pub use Rattle.epa_polytope.specs.declared.types.WalkSoFar.{WalkSoFar}
pub use Rattle.epa_polytope.specs.declared.types.Question.{Question}
pub use Rattle.epa_polytope.specs.declared.types.Facing.{Facing}

-- how a walk ends: with the number of edges that are now recorded, or for want of room
abbrev pub WalkAnswer : Type 0
WalkAnswer = Result ℕ NoRoom

abbrev pub full : WalkAnswer
full = Err no_room

-- what a walk only reads: the faces' corners and neighbours, and which questions find a face seen
pub record Mesh : Type 0 where
  pub ids : List ℕ
  pub seen : Question → Bool

-- what it changes: which faces are deleted (0: live), and the edges; how many lookups have missed; and how many edges there are, or that there was no room for one
pub record Walked : Type 0 where
  pub deleted : List ℕ
  pub edges : List ℕ
  pub missed : ℕ
  pub answer : WalkAnswer

abbrev pub walked : List ℕ → List ℕ → ℕ → WalkAnswer → Walked
walked deleted edges missed answer = record { deleted = deleted; edges = edges; missed = missed; answer = answer }

-- by what the code answers
abbrev pub walked_by : List ℕ → List ℕ → WalkSoFar → Walked
walked_by deleted edges r = walked deleted edges r.missed r.answer

-- ---- the lookups

-- `next_ccw_pt_id`: the corner after that of the face f which is the vertex p. Where none is, the Rust logs a line
unfoldable pub next_ccw_pt_id : List ℕ → ℕ → ℕ → Option ℕ
next_ccw_pt_id ids f p =
    cond (eqb (corner_in ids f 0) p) (Some 1)
    (cond (eqb (corner_in ids f 1) p) (Some 2)
    (cond (eqb (corner_in ids f 2) p) (Some 0) None))

-- the corner that a run goes on with: 0, where the lookup missed
abbrev pub corner_or0 : Option ℕ → ℕ
corner_or0 (Some k) = k
corner_or0 None = 0

abbrev pub misses : Option ℕ → ℕ
misses (Some k) = 0
misses None = 1

-- the vertex k of the face f, looked up in its neighbour there
abbrev pub lookup : List ℕ → ℕ → ℕ → Option ℕ
lookup ids f k = next_ccw_pt_id ids (neighbour_in ids f k) (corner_in ids f k)

-- the question to that neighbour
unfoldable pub facing : List ℕ → ℕ → ℕ → Question
facing ids f k = record { face = neighbour_in ids f k; corner = corner_or0 (lookup ids f k) }

-- n lookups that missed, and that one if it does. The sum wraps where a word ends, which no run comes near (`few-missed` of proofs/Missed.antt)
unfoldable pub with_missed : List ℕ → ℕ → ℕ → ℕ → ℕ
with_missed ids f k n = (n + misses (lookup ids f k)) % 2 ^ 64

-- both, as the code makes them
abbrev pub facing_from : List ℕ → ℕ → ℕ → ℕ → Facing
facing_from ids f k n = record { question = facing ids f k; missed = with_missed ids f k n }

-- ---- the walk

-- `self.silhouette.push(SilhouetteEdge::new(id, opp_pt_id))`, the n-th, if there is room for it
abbrev pub pair_put : List ℕ → ℕ → Question → List ℕ
pair_put l n q = set (set l (n * 2) q.face) (n * 2 + 1) q.corner

abbrev pub noted_if : Bool → Walked → ℕ → Question → Walked
noted_if true s n q = walked s.deleted (pair_put s.edges n q) s.missed (Ok (n + 1))
noted_if false s n q = walked s.deleted s.edges s.missed full

abbrev pub noted : Walked → ℕ → Question → Walked
noted s n q = noted_if (ltb n (length s.edges / 2)) s n q

-- a face that is seen is deleted, and in both other neighbours its vertex is looked up, before the first is asked
abbrev pub entered : Mesh → Walked → Question → Walked
entered m s q =
    let once = with_missed m.ids q.face ((q.corner + 2) % 3) s.missed in
    walked (set s.deleted q.face 1) s.edges (with_missed m.ids q.face q.corner once) s.answer

-- A question, where `go` asks those that follow from it. A walk that has found no room does nothing more; a deleted face does nothing; a live face that is not seen is an edge; one that is seen is
-- deleted, and its two other neighbours are asked, in order
abbrev pub ask_if : WalkAnswer → Bool → Bool → Mesh → (Walked → Question → Walked) → Walked → Question → Walked
ask_if (Err e) live seen m go s q = s
ask_if (Ok n) false seen m go s q = s
ask_if (Ok n) true false m go s q = noted s n q
ask_if (Ok n) true true m go s q =
    go (go (entered m s q) (facing m.ids q.face ((q.corner + 2) % 3))) (facing m.ids q.face q.corner)

unfoldable pub ask : Mesh → (Walked → Question → Walked) → Walked → Question → Walked
ask m go s q = ask_if s.answer (eqb (get_or s.deleted q.face 1) 0) (m.seen q) m go s q

-- the walk, at most n questions deep
unfoldable pub walk_in : ℕ → Mesh → Walked → Question → Walked
walk_in zero m s q = s
walk_in (suc n) m s q = ask m (walk_in n m) s q

-- how many edges a walk has recorded: as many as there is room for, where it found none for one more
abbrev pub recorded_of : ℕ → WalkAnswer → ℕ
recorded_of room (Ok n) = n
recorded_of room (Err e) = room

-- how many places of a list are zero
unfoldable pub zeros : List ℕ → ℕ
zeros [] = 0
zeros (x ∷ xs) = one_if_zero x + zeros xs

-- the walk: no question that is as deep as there are live faces finds one that is live (`walk_step` of proofs/Walks.antt)
unfoldable pub walk : Mesh → Walked → Question → Walked
walk m s q = walk_in (zeros s.deleted) m s q

-- a pass: three questions, in order
unfoldable pub pass : Mesh → Walked → Question → Question → Question → Walked
pass m s a b c = walk m (walk m (walk m s a) b) c
