-- The silhouette walk without recursion (document 02, ticket 6): a loop over a lent store of pending questions, last in, first out, over any test of which faces are seen. A question is answered as by
-- `compute_silhouette` of src/query/epa/epa3.rs (Silhouette.antt), but that the two which follow from a seen face are put in and not asked at once. Definitions only.
use Rattle.std.specs.Prelude.{ℕ, zero, suc, ◌+◌, ◌*◌, ◌/◌, ◌%◌, List, Bool, true, false, length, get_or, set, eqb, ltb}
use Rattle.epa_polytope.specs.Silhouette.{Question, WalkAnswer, Ok, Err, Mesh, Walked, walked, facing, pair_put, noted, entered, zeros}
pub use Rattle.epa_polytope.specs.declared.types.PlainSoFar.{PlainSoFar}

-- what a plain walk changes: what the recursive one does, and the pending questions, two numbers each, of which so many are held; and whether there was no place for one
pub record Walking : Type 0 where
  pub walk : Walked
  pub pending : List ℕ
  pub held : ℕ
  pub short : Bool

abbrev pub walking : Walked → List ℕ → ℕ → Bool → Walking
walking walk pending held short = record { walk = walk; pending = pending; held = held; short = short }

-- by what the code answers
abbrev pub walking_by : List ℕ → List ℕ → List ℕ → PlainSoFar → Walking
walking_by deleted edges pending r = walking (walked deleted edges r.missed r.answer) pending r.held r.short

-- ---- a question goes in

abbrev pub put_if : Bool → Bool → Walking → Question → Walking
put_if true room s q = s
put_if false true s q = walking s.walk (pair_put s.pending s.held q) (s.held + 1) false
put_if false false s q = walking s.walk s.pending s.held true

-- if none was refused before it, and there is room for it
unfoldable pub put_in : Walking → Question → Walking
put_in s q = put_if s.short (ltb s.held (length s.pending / 2)) s q

-- ---- the last question comes out, and is answered

abbrev pub question_at : List ℕ → ℕ → Question
question_at l h = record { face = get_or l (h * 2) 0; corner = get_or l (h * 2 + 1) 0 }

-- its place is zero then
abbrev pub without : List ℕ → ℕ → List ℕ
without l h = set (set l (h * 2) 0) (h * 2 + 1) 0

-- a deleted face does nothing; a live face that is not seen is an edge; of one that is seen, which is deleted, the second neighbour's question goes in, and then the first's
abbrev pub answer_if : Bool → Bool → Mesh → Walking → ℕ → Question → Walking
answer_if false seen m s n q = s
answer_if true false m s n q = walking (noted s.walk n q) s.pending s.held s.short
answer_if true true m s n q =
    put_in (put_in (walking (entered m s.walk q) s.pending s.held s.short) (facing m.ids q.face q.corner)) (facing m.ids q.face ((q.corner + 2) % 3))

unfoldable pub answer_question : Mesh → Walking → ℕ → Question → Walking
answer_question m s n q = answer_if (eqb (get_or s.walk.deleted q.face 1) 0) (m.seen q) m s n q

-- a turn of the loop: nothing is done where no question is held, or the walk has found no room for a question or for an edge
abbrev pub turn_by : Bool → WalkAnswer → ℕ → Mesh → Walking → Walking
turn_by false (Ok n) (suc h) m s = answer_question m (walking s.walk (without s.pending h) h false) n (question_at s.pending h)
turn_by false (Ok n) zero m s = s
turn_by false (Err e) h m s = s
turn_by true a h m s = s

unfoldable pub turn : Mesh → Walking → Walking
turn m s = turn_by s.short s.walk.answer s.held m s

-- the loop, at most n turns of it
unfoldable pub turns : ℕ → Mesh → Walking → Walking
turns zero m s = s
turns (suc n) m s = turns n m (turn m s)

-- the walk: after so many turns nothing is left to do (`plain-rests` of proofs/PlainWalks.antt)
unfoldable pub plain_walk : Mesh → Walking → Walking
plain_walk m s = turns (s.held + 3 * zeros s.walk.deleted) m s

-- a pass: three questions go in together, the last first
unfoldable pub plain_pass : Mesh → Walking → Question → Question → Question → Walking
plain_pass m s a b c = plain_walk m (put_in (put_in (put_in s c) b) a)
