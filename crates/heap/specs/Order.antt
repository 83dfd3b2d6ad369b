-- In which order keys go out of a heap: what the known cases of document 01 speak of. Definitions only.
use Rattle.std.specs.Prelude.{List, [], ◌∷◌, ℕ, zero, suc, length, replicate, Float}
use Rattle.heap.specs.Heap.{Heap, heap, entry, no_entry, entry_at, pushed, popped}

-- the keys are pushed in their order, the first as the face n, the next as n + 1, and so on
unfoldable pub push_all : List Float → ℕ → Heap → Heap
push_all [] n h = h
push_all (k ∷ ks) n h = push_all ks (suc n) (pushed h (entry n k))

-- the faces that n pops take out, in order
unfoldable pub pop_all : ℕ → Heap → List ℕ
pop_all zero h = []
pop_all (suc n) h = (entry_at h 0).face ∷ pop_all n (popped h n)

-- keys pushed as faces 0, 1, .., into a store of just their number: the order in which the faces go out
unfoldable pub order_of : List Float → List ℕ
order_of ks = pop_all (length ks) (push_all ks 0 (heap (replicate (length ks) 0) (replicate (length ks) no_entry.key) 0))
