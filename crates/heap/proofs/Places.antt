-- Which places a push and a pop touch: the lists keep their lengths, what lies above is as it was, and a freed place is zero. Assumes nothing.
use mathlib.Core.Path.{◌≡◌, refl, sym, ap, ◌∙◌}
use mathlib.Core.Logic.{◌≢◌}
use Prim.Native.Nat.{ℕ, zero, suc, ◌+◌, ◌-◌, ◌<◌, ◌≤◌}
use native.Mathlib.Omega.{arith}
use lib.ListN.{length, set, drop, length-set}
use lib.Seq.{drop-drop, drop-set-lt, get_or-drop, get_or-set_same, get_or-set_other}
use lib.Ieee.{nan}
use Rattle.heap.specs.Heap.{Heap, Entry, entry_at, no_entry, put, with_count, swap, rise, pushed, cleared, settled, popped}
use Rattle.heap.proofs.Moves.{rise-holds, settled-holds}

-- g has h's count and lengths, and h's contents from the place n on
pub record Kept (n : ℕ) (h g : Heap) : Type 0 where
  pub count : g.count ≡ h.count
  pub face_length : length g.faces ≡ length h.faces
  pub key_length : length g.keys ≡ length h.keys
  pub faces : drop n g.faces ≡ drop n h.faces
  pub keys : drop n g.keys ≡ drop n h.keys

kept-all : (n : ℕ) (h : Heap) → Kept n h h
kept-all n h = record { count = refl; face_length = refl; key_length = refl; faces = refl; keys = refl }

kept_then : {n : ℕ} {h g k : Heap} → Kept n h g → Kept n g k → Kept n h k
kept_then a b = record {
  count = b.count ∙ a.count;
  face_length = b.face_length ∙ a.face_length;
  key_length = b.key_length ∙ a.key_length;
  faces = b.faces ∙ a.faces;
  keys = b.keys ∙ a.keys;
}

-- what is kept from n on is kept from any later place on
kept_more : (n m : ℕ) (h g : Heap) → Kept n h g → Kept (n + m) h g
kept_more n m h g k = record {
  count = k.count;
  face_length = k.face_length;
  key_length = k.key_length;
  faces = sym (drop-drop m n g.faces) ∙ ap (drop m) k.faces ∙ drop-drop m n h.faces;
  keys = sym (drop-drop m n g.keys) ∙ ap (drop m) k.keys ∙ drop-drop m n h.keys;
}

-- the entry at a place that is kept
pub kept_entry : (n : ℕ) (h g : Heap) → Kept n h g → (i : ℕ) → n ≤ i → entry_at g i ≡ entry_at h i
kept_entry n h g k i l = let e : n + (i - n) ≡ i = omega arith in rw e at (at (i - n))
  where
    at : (j : ℕ) → entry_at g (n + j) ≡ entry_at h (n + j)
    at j = rw (← get_or-drop n g.faces j 0, ← get_or-drop n g.keys j nan, ← get_or-drop n h.faces j 0, ← get_or-drop n h.keys j nan, k.faces, k.keys)

module _ (n : ℕ) where
  put-kept : (h : Heap) (i : ℕ) (e : Entry) → i < n → Kept n h (put h i e)
  put-kept h i e l = record {
    count = refl;
    face_length = length-set h.faces i e.face;
    key_length = length-set h.keys i e.key;
    faces = drop-set-lt n h.faces i e.face l;
    keys = drop-set-lt n h.keys i e.key l;
  }

  swap-kept : (h : Heap) (i j : ℕ) → i < n → j < n → Kept n h (swap h i j)
  unfolding swap
  swap-kept h i j l m = kept_then (put-kept h i (entry_at h j) l) (put-kept (put h i (entry_at h j)) j (entry_at h i) m)

  module _ (h : Heap) (counts : h.count ≡ n) where
    abbrev still : (g : Heap) → Kept n h g → g.count ≡ n
    still g k = k.count ∙ counts

    abbrev swaps : (g : Heap) (i j : ℕ) → i < n → j < n → Kept n h g → Kept n h (swap g i j)
    swaps g i j l m k = kept_then k (swap-kept g i j l m)

    pub rise-kept : (g : Heap) (i : ℕ) → i < n → Kept n h g → Kept n h (rise g i)
    rise-kept = rise-holds n (Kept n h) still swaps

    pub settled-kept : (g : Heap) → 0 < n → Kept n h g → Kept n h (settled g)
    settled-kept = settled-holds n (Kept n h) still swaps

-- ---- push and pop

-- a push has one entry more, and touches no place above its own
pub pushed-kept : (h : Heap) (e : Entry) → Kept (h.count + 1) (with_count h (h.count + 1)) (pushed h e)
unfolding pushed
pushed-kept h e =
    let n = h.count + 1 in
    let g = with_count h n in
    rise-kept n g refl (put g h.count e) h.count (omega arith) (put-kept n g h.count e (omega arith))

-- a pop of n + 1 entries leaves n, and touches no place above the one that it frees
pub popped-kept : (h : Heap) (n : ℕ) → Kept (n + 1) (with_count h n) (popped h n)
unfolding popped
popped-kept h zero = put-kept 1 (with_count h 0) 0 no_entry (omega arith)
popped-kept h (suc n) =
    let g = put (cleared h (suc n)) 0 (entry_at h (suc n)) in
    kept_then (put-kept (suc n + 1) (with_count h (suc n)) (suc n) no_entry (omega arith))
    (kept_then (put-kept (suc n + 1) (cleared h (suc n)) 0 (entry_at h (suc n)) (omega arith)) (kept_more (suc n) 1 g (settled g) (settled-kept (suc n) g refl g (omega arith) (kept-all (suc n) g))))

-- the place that a pop frees is zero
pub popped-freed : (h : Heap) (n : ℕ) → n < length h.faces → n < length h.keys → entry_at (popped h n) n ≡ no_entry
unfolding popped
popped-freed h zero l m = rw (get_or-set_same h.faces 0 0 0, get_or-set_same h.keys 0 no_entry.key nan)
popped-freed h (suc n) l m =
    let g = put (cleared h (suc n)) 0 (entry_at h (suc n)) in
    kept_entry (suc n) g (settled g) (settled-kept (suc n) g refl g (omega arith) (kept-all (suc n) g)) (suc n) (omega arith)
    ∙ (let other : suc n ≢ 0 = λ e. omega arith in
    rw (get_or-set_other (set h.faces (suc n) 0) 0 (suc n) _ 0, get_or-set_other (set h.keys (suc n) no_entry.key) 0 (suc n) _ nan, get_or-set_same h.faces (suc n) 0 0, get_or-set_same h.keys (suc n) no_entry.key nan))
