-- What two runs over different lent lists have in common: the same end, and the same content up to the counts. Definitions only. `runs-agree` of proofs/Agreement.antt shows it of any two
-- runs from one simplex.
use Rattle.std.specs.Prelude.{◌≡◌, List, ℕ, ◌*◌, ◌<◌, ◌≤◌, length, get_or}
use Rattle.epa_polytope.specs.Stores.{Lists, State, Store, room_for, live}
use Rattle.epa_polytope.specs.Steps.{End, no_room}
use Rattle.epa_polytope.specs.Bounds.{suffices}

-- the first n places of two lists are there, and read alike
pub record Alike {A : Type 0} (n : ℕ) (l k : List A) : Type 0 where
  pub long : n ≤ length l
  pub long' : n ≤ length k
  pub same : (i : ℕ) (d : A) → i < n → get_or l i d ≡ get_or k i d

-- the same tally, and the same content up to it
pub record Same (s t : State) : Type 0 where
  pub tally : s.tally ≡ t.tally
  pub vertices : Alike (s.tally.vertices * 9) s.lists.vertices t.lists.vertices
  pub face_ids : Alike (s.tally.faces * 6) s.lists.face_ids t.lists.face_ids
  pub face_floats : Alike (s.tally.faces * 6) s.lists.face_floats t.lists.face_floats
  pub deleted : Alike s.tally.faces s.lists.deleted t.lists.deleted
  pub edges : Alike (s.tally.edges * 2) s.lists.edges t.lists.edges
  pub heap_ids : Alike s.tally.heap s.lists.heap_ids t.lists.heap_ids
  pub heap_keys : Alike s.tally.heap s.lists.heap_keys t.lists.heap_keys
  pub pending : Alike (s.tally.pending * 2) s.lists.pending t.lists.pending

-- an end over the lists l that is for want of room, of a store for which the lists l' have more
pub data Short (l l' : Lists) : End → Type 0 where
  short : (y : Store) → room_for y l < room_for y l' → Short l l' (no_room y)

-- two ends, over the lists l and l': the same, with the same content up to the counts, whether or not both are for want of room; or one of them alone is, and the other run has more of it
pub data Agreed (l l' : Lists) (e f : End) (s t : State) : Type 0 where
  first_short : Short l l' e → Agreed l l' e f s t
  second_short : Short l' l f → Agreed l l' e f s t
  alike : e ≡ f → Same s t → Agreed l l' e f s t

-- two runs that ended the same
pub record SameEnd (e f : End) (s t : State) : Type 0 where
  pub end : e ≡ f
  pub stores : Same s t
  pub living : live s ≡ live t

-- ---- rooms that make no difference

-- of the store y there is as much in l as in l', or in both as much as suffices
pub data Equivalent (l l' : Lists) (y : Store) : Type 0 where
  equal : room_for y l ≡ room_for y l' → Equivalent l l' y
  enough : suffices y ≤ room_for y l → suffices y ≤ room_for y l' → Equivalent l l' y
