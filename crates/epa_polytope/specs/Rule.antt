-- The store rule: what a run leaves in the lists that it borrows, whatever way it ends. Definitions only. `store_rule` of proofs/Rule.antt shows it of every run.
use Rattle.std.specs.Prelude.{◌≡◌, List, ℕ, ◌*◌, ◌<◌, ◌≤◌, get_or}
use Rattle.heap.specs.Heap.{no_entry}
use Rattle.epa_polytope.specs.Stores.{Lists, State, Tally, Store, the_vertices, the_faces, the_edges, the_heap, the_pending, room_for}

-- ---- a list

-- from the place n on, the list l reads as the list l0 does, whatever is read past an end
pub record Untouched {A : Type 0} (n : ℕ) (l l0 : List A) : Type 0 where
  pub same : (i : ℕ) (d : A) → n ≤ i → get_or l i d ≡ get_or l0 i d

-- the places from n up to m hold the zero z
pub record Zeroed {A : Type 0} (z : A) (n m : ℕ) (l : List A) : Type 0 where
  pub zeros : (i : ℕ) → n ≤ i → i < m → get_or l i z ≡ z

-- n entries, where once there were m: the places given back are zero, and those never used are as in l0
pub record Returned {A : Type 0} (z : A) (n m : ℕ) (l l0 : List A) : Type 0 where
  pub back : Zeroed z n m l
  pub never : Untouched m l l0

-- ---- the stores, as they were lent and as the run leaves them

-- THE STORE RULE: each store holds the run's entries up to its count; places once used and now above the count are zero; places never used are untouched. No vertex and no face is given back. The most
-- edges in one pass are the tally's; the run does not count the most entries that the heap ever had, nor the most questions ever held: they end at some marks `top`, which is at most the number of
-- faces made, and `most_held`
pub record Ruled (l : Lists) (s : State) : Type 0 where
  pub vertices : Untouched (s.tally.vertices * 9) s.lists.vertices l.vertices
  pub face_ids : Untouched (s.tally.faces * 6) s.lists.face_ids l.face_ids
  pub face_floats : Untouched (s.tally.faces * 6) s.lists.face_floats l.face_floats
  pub deleted : Untouched s.tally.faces s.lists.deleted l.deleted
  pub edges_counted : s.tally.edges ≤ s.tally.most
  pub edges : Returned 0 (s.tally.edges * 2) (s.tally.most * 2) s.lists.edges l.edges
  pub top : ℕ
  pub heap_counted : s.tally.heap ≤ top
  pub heap_few : top ≤ s.tally.faces
  pub heap_ids : Returned no_entry.face s.tally.heap top s.lists.heap_ids l.heap_ids
  pub heap_keys : Returned no_entry.key s.tally.heap top s.lists.heap_keys l.heap_keys
  pub most_held : ℕ
  pub pending_counted : s.tally.pending ≤ most_held
  pub pending_few : most_held ≤ room_for the_pending l
  pub pending : Returned 0 (s.tally.pending * 2) (most_held * 2) s.lists.pending l.pending

-- how many entries of a store there are
abbrev pub count_for : Store → Tally → ℕ
count_for the_vertices c = c.vertices
count_for the_faces c = c.faces
count_for the_edges c = c.edges
count_for the_heap c = c.heap
count_for the_pending c = c.pending

-- and the counts stay within the rooms of the lists as lent
pub record InRoom (l : Lists) (c : Tally) : Type 0 where
  pub counts : (y : Store) → count_for y c ≤ room_for y l
  pub most : c.most ≤ room_for the_edges l
