-- When a heap is in order, told of its keys alone, whatever an entry carries beside its key. Definitions only; proofs/Ordered.antt shows that with no NaN key a push and a pop keep
-- the order, and that the key at the root is the greatest.
use Rattle.std.specs.Prelude.{◌≡◌, Bool, true, false, List, ℕ, zero, suc, ◌+◌, ◌/◌, ◌<◌, get_or, Float}
use Rattle.std.specs.Float.{nan}
use Rattle.std.specs.Float.Ieee.{lt, is_nan}
use Rattle.heap.specs.Heap.{Heap}

abbrev pub key_at : Heap → ℕ → Float
key_at h i = get_or h.keys i nan

-- Q holds of each key that the heap holds
pub record Held (Q : Float → Type 0) (h : Heap) : Type 0 where
  pub each : (i : ℕ) → i < h.count → Q (key_at h i)

-- a key that is a number or an infinity
abbrev pub NotNan : Float → Type 0
NotNan k = is_nan k ≡ false

-- x is at most k, where neither is NaN
abbrev pub AtMost : Float → Float → Type 0
AtMost k x = lt k x ≡ false

-- heap order: no parent is less than its child. The parent of the place i + 1 is i / 2
pub record Ordered (h : Heap) : Type 0 where
  pub parents : (i : ℕ) → suc i < h.count → AtMost (key_at h (i / 2)) (key_at h (suc i))

-- ---- the keys with their numbers, as a multiset

abbrev pub one_if : Bool → ℕ
one_if true = 1
one_if false = 0

-- how many of the first n keys pass a test
unfoldable pub passing : (Float → Bool) → ℕ → List Float → ℕ
passing q zero ks = 0
passing q (suc n) ks = one_if (q (get_or ks n nan)) + passing q n ks
