-- The queue of faces, Rust's `BinaryHeap<FaceId>`, over two lists and a count. Definitions only.
-- Carries alloc's collections/binary_heap/mod.rs (rustc 1.95): `push`, `pop`, `peek`, `sift_up` (`rise`) and `sift_down_to_bottom` (`sink`, then `rise`).
-- The Rust takes the moving element out, and shifts the others into the hole that it leaves; here two entries change places at each step, which
-- leaves the same lists: each test is on the element itself or on two others, and the element is put down where the hole comes to lie.
-- Keys are of any number format, since only `lt` looks at them: an entry is less than another where its key is, so a NaN is equal to everything.
use Rattle.std.specs.Prelude.{ℕ, zero, suc, ◌+◌, ◌*◌, ◌/◌, Bool, false, cond, List, get_or, set, ltb, pos, Float}
use Rattle.std.specs.Float.{nan, fin}
use Rattle.std.specs.Float.Ieee.{lt}
pub use Rattle.heap.specs.declared.Entry.{Entry}

-- the entries are those at the places below the count
pub record Heap : Type 0 where
  pub faces : List ℕ
  pub keys : List Float
  pub count : ℕ

-- a face and its key, the Rust's `FaceId`
abbrev pub entry : ℕ → Float → Entry
entry f k = record { face = f; key = k }

abbrev pub heap : List ℕ → List Float → ℕ → Heap
heap fs ks n = record { faces = fs; keys = ks; count = n }

-- a place that holds nothing
abbrev pub no_entry : Entry
no_entry = entry 0 (fin false 0 (pos 0))

-- ---- places

-- the entry at the place i
abbrev pub entry_at : Heap → ℕ → Entry
entry_at h i = entry (get_or h.faces i 0) (get_or h.keys i nan)

-- the entry e goes to the place i
abbrev pub put : Heap → ℕ → Entry → Heap
put h i e = heap (set h.faces i e.face) (set h.keys i e.key) h.count

-- the same places, of which the first n hold entries
abbrev pub with_count : Heap → ℕ → Heap
with_count h n = heap h.faces h.keys n

-- the entries at i and j change places
unfoldable pub swap : Heap → ℕ → ℕ → Heap
swap h i j = put (put h i (entry_at h j)) j (entry_at h i)

-- whether the entry at i is less than that at j
abbrev pub less : Heap → ℕ → ℕ → Bool
less h i j = lt (entry_at h i).key (entry_at h j).key

-- ---- `sift_up`

-- The entry at i rises while its parent is strictly less: at most n times
unfoldable pub rise_in : ℕ → Heap → ℕ → Heap
rise_in zero h i = h
rise_in (suc n) h zero = h
rise_in (suc n) h (suc i) = let up = rise_in n (swap h (suc i) (i / 2)) (i / 2) in cond (less h (i / 2) (suc i)) up h

-- fewer than i + 1 places lie above the place i
unfoldable pub rise : Heap → ℕ → Heap
rise h i = rise_in (suc i) h i

-- ---- the first half of `sift_down_to_bottom`

-- a heap, and where the entry that moved came to rest
pub record Placed : Type 0 where
  pub heap : Heap
  pub place : ℕ

abbrev pub placed : Heap → ℕ → Placed
placed h i = record { heap = h; place = i }

-- the greater of the children at c and c + 1, the right one where neither is
unfoldable pub greater : List Float → ℕ → ℕ
greater ks c = cond (lt (get_or ks (c + 1) nan) (get_or ks c nan)) c (c + 1)

-- The entry at i sinks, each time changing with the greater child, or with an only child: at most n times
unfoldable pub sink_in : ℕ → Heap → ℕ → Placed
sink_in zero h i = placed h i
sink_in (suc n) h i =
    let c = i * 2 + 1 in
    let g = greater h.keys c in
    let deeper = sink_in n (swap h i g) g in
    let only = placed (swap h i c) c in
    cond (ltb (c + 1) h.count) deeper (cond (ltb c h.count) only (placed h i))

-- the entry at i sinks to the bottom: it has fewer than count places to pass
unfoldable pub sink : Heap → ℕ → Placed
sink h i = sink_in h.count h i

-- ---- `push` and `pop`

-- `push`: the entry comes last, and rises
unfoldable pub pushed : Heap → Entry → Heap
pushed h e = rise (put (with_count h (h.count + 1)) h.count e) h.count

-- of n + 1 entries the last is taken off, and its place becomes zero
abbrev pub cleared : Heap → ℕ → Heap
cleared h n = put (with_count h n) n no_entry

-- `sift_down_to_bottom`: the entry at the root sinks to the bottom, and rises from there
unfoldable pub settled : Heap → Heap
settled h = let p = sink h 0 in rise p.heap p.place

-- `pop`, of n + 1 entries: the first goes out, and the last takes its place and settles
unfoldable pub popped : Heap → ℕ → Heap
popped h zero = cleared h 0
popped h (suc n) = settled (put (cleared h (suc n)) 0 (entry_at h (suc n)))
