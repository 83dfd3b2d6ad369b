-- THE KEYS HELD, AS A MULTISET: whatever test a key is put to, a push adds just the key pushed to those that pass (`pushed-passing`), and a pop takes just the first key away
-- (`popped-passing`). So each key stays until it is popped, and is popped once. Of any heap with a place for each entry, any keys, NaN or not. Assumes nothing.
use mathlib.Core.Path.{◌≡◌, refl, sym, ◌∙◌}
use mathlib.Core.Bool.{Bool, true, false}
use mathlib.Core.List.{List}
use Prim.Native.Nat.{ℕ, zero, suc, ◌+◌, ◌<◌, ◌≤◌}
use native.Mathlib.Omega.{arith}
use native.Mathlib.Decide.{ℕ_discrete}
use lib.ListN.{length, get_or, set, length-set}
use lib.Seq.{get_or-set_same, get_or-set_other}
use lib.Ieee.{Float, nan, is_nan}
use Rattle.heap.specs.Heap.{Heap, Entry, entry_at, put, with_count, no_entry, swap, rise, pushed, cleared, settled, popped}
use Rattle.heap.specs.Ordered.{key_at, Held, NotNan, one_if, passing}
use Rattle.heap.proofs.Moves.{rise-holds, settled-holds}
use Rattle.heap.proofs.Places.{pushed-kept}

module _ (q : Float → Bool) where
  -- ---- one place is written

  above : (n : ℕ) (l : List Float) (i : ℕ) (v : Float) → n ≤ i → passing q n (set l i v) ≡ passing q n l
  unfolding passing
  above zero l i v h = refl
  above (suc n) l i v h = let other : n ≡ i → ⊥ = λ e. omega arith in rw (get_or-set_other l i n v nan other, above n l i v (omega arith))

  -- what it held goes, and what is written comes
  inside : (n : ℕ) (l : List Float) (i : ℕ) (v : Float) → i < n → i < length l → passing q n (set l i v) + one_if (q (get_or l i nan)) ≡ passing q n l + one_if (q v)
  unfolding passing
  inside zero l i v h k = let z : ⊥ = omega arith in absurd z
  inside (suc n) l i v h k = by (ℕ_discrete i n) (λ m. inside n l i v m k)
    where
      by : Dec (i ≡ n) → (i < n → passing q n (set l i v) + one_if (q (get_or l i nan)) ≡ passing q n l + one_if (q v))
          → one_if (q (get_or (set l i v) n nan)) + passing q n (set l i v) + one_if (q (get_or l i nan)) ≡ one_if (q (get_or l n nan)) + passing q n l + one_if (q v)
      by (yes e) before = rw (sym e, get_or-set_same l i v nan k, above i l i v (omega arith)) (omega arith)
      by (no e) before =
          let other : n ≡ i → ⊥ = λ z. e (sym z) in
          rw (get_or-set_other l i n v nan other) (omega (arith, before (omega arith)))

  -- two places change, as a swap changes them
  exchanged : (n : ℕ) (l : List Float) (i j : ℕ) → i < n → j < n → i < length l → j < length l → passing q n (set (set l i (get_or l j nan)) j (get_or l i nan)) ≡ passing q n l
  exchanged n l i j hi hj li lj = by (ℕ_discrete i j)
    where
      first : passing q n (set l i (get_or l j nan)) + one_if (q (get_or l i nan)) ≡ passing q n l + one_if (q (get_or l j nan))
      first = inside n l i (get_or l j nan) hi li

      second : passing q n (set (set l i (get_or l j nan)) j (get_or l i nan)) + one_if (q (get_or (set l i (get_or l j nan)) j nan)) ≡ passing q n (set l i (get_or l j nan)) + one_if (q (get_or l i nan))
      second = inside n (set l i (get_or l j nan)) j (get_or l i nan) hj (rw (length-set l i (get_or l j nan)) lj)

      there : Dec (i ≡ j) → get_or (set l i (get_or l j nan)) j nan ≡ get_or l j nan
      there (yes e) = rw (sym e) (get_or-set_same l i (get_or l i nan) nan li)
      there (no e) = get_or-set_other l i j (get_or l j nan) nan (λ z. e (sym z))

      by : Dec (i ≡ j) → passing q n (set (set l i (get_or l j nan)) j (get_or l i nan)) ≡ passing q n l
      by d = omega (arith, first, rw (there d) at second)

  -- ---- rising and sinking only exchange

  -- so many entries, each with a place, of which m pass
  record Passes (c m : ℕ) (h : Heap) : Type 0 where
    counts : h.count ≡ c
    placed : c ≤ length h.keys
    number : passing q c h.keys ≡ m

  passes-swap : (c m : ℕ) (h : Heap) (i j : ℕ) → i < c → j < c → Passes c m h → Passes c m (swap h i j)
  unfolding swap
  passes-swap c m h i j hi hj p =
      let l = h.keys in
      let k = p.placed in
      record {
        counts = p.counts;
        placed = rw (length-set (set l i (get_or l j nan)) j (get_or l i nan), length-set l i (get_or l j nan)) k;
        number = exchanged c l i j hi hj (omega arith) (omega arith) ∙ p.number;
      }

  passes-rise : (c m : ℕ) (h : Heap) (i : ℕ) → i < c → Passes c m h → Passes c m (rise h i)
  passes-rise c m = rise-holds c (Passes c m) (λ g p. p.counts) (passes-swap c m)

  passes-settled : (c m : ℕ) (h : Heap) → 0 < c → Passes c m h → Passes c m (settled h)
  passes-settled c m = settled-holds c (Passes c m) (λ g p. p.counts) (passes-swap c m)

  -- ---- push and pop

  -- A PUSH ADDS THE KEY PUSHED, and nothing else
  pub pushed-passing : (h : Heap) (e : Entry) → h.count < length h.keys → passing q (h.count + 1) (pushed h e).keys ≡ one_if (q e.key) + passing q h.count h.keys
  unfolding pushed passing
  pushed-passing h e room =
      (passes-rise (h.count + 1) _ (put (with_count h (h.count + 1)) h.count e) h.count (omega arith)
      (record { counts = refl; placed = rw (length-set h.keys h.count e.key) (omega arith); number = last })
      ).number
    where
      last : passing q (h.count + 1) (set h.keys h.count e.key) ≡ one_if (q e.key) + passing q h.count h.keys
      last = let one : h.count + 1 ≡ suc h.count = omega arith in rw (one, get_or-set_same h.keys h.count e.key nan room, above h.count h.keys h.count e.key (omega arith))

  -- A POP, of n + 1, TAKES THE FIRST KEY AWAY, and nothing else
  pub popped-passing : (h : Heap) (n : ℕ) → suc n ≤ length h.keys → passing q n (popped h n).keys + one_if (q (key_at h 0)) ≡ passing q (suc n) h.keys
  unfolding popped passing
  popped-passing h zero room = omega arith
  popped-passing h (suc n) room =
      let l = h.keys in
      let freed = set l (suc n) no_entry.key in
      let len : length freed ≡ length l = length-set l (suc n) no_entry.key in
      let p : passing q (suc n) (settled (put (cleared h (suc n)) 0 (entry_at h (suc n)))).keys ≡ passing q (suc n) (set freed 0 (key_at h (suc n))) =
      (passes-settled (suc n) _ (put (cleared h (suc n)) 0 (entry_at h (suc n))) (omega arith)
      (record { counts = refl; placed = rw (length-set freed 0 (key_at h (suc n)), len) (omega arith); number = refl })
      ).number
      in
      let moved = inside (suc n) freed 0 (key_at h (suc n)) (omega arith) (rw len (omega arith)) in
      let other : 0 ≡ suc n → ⊥ = λ z. omega arith in
      let root : get_or freed 0 nan ≡ key_at h 0 = get_or-set_other l (suc n) 0 no_entry.key nan other in
      let rest : passing q (suc n) freed ≡ passing q (suc n) l = above (suc n) l (suc n) no_entry.key (omega arith) in
      rw p (sum _ _ _ _ _ (rw root at moved) rest)
    where
      sum : (a b c d x : ℕ) → a + b ≡ c + d → c ≡ x → a + b ≡ d + x
      sum a b c d x e f = omega arith

-- ---- NaN

neither : (b : Bool) (n : ℕ) → one_if b + n ≡ 0 → (b ≡ false) × (n ≡ 0)
neither true n e = let z : ⊥ = omega arith in absurd z
neither false n e = (refl, omega arith)

-- with no NaN among the first n keys each of them is not NaN, and the other way round
pub none-nan : (n : ℕ) (l : List Float) → passing is_nan n l ≡ 0 → (i : ℕ) → i < n → NotNan (get_or l i nan)
unfolding passing
none-nan zero l e i h = let z : ⊥ = omega arith in absurd z
none-nan (suc n) l e i h = by (ℕ_discrete i n) (none-nan n l (neither (is_nan (get_or l n nan)) (passing is_nan n l) e).1 i)
  where
    by : Dec (i ≡ n) → (i < n → NotNan (get_or l i nan)) → NotNan (get_or l i nan)
    by (yes z) before = rw z (neither (is_nan (get_or l n nan)) (passing is_nan n l) e).0
    by (no z) before = before (omega arith)

pub nan-none : (n : ℕ) (l : List Float) → ((i : ℕ) → i < n → NotNan (get_or l i nan)) → passing is_nan n l ≡ 0
unfolding passing
nan-none zero l h = refl
nan-none (suc n) l h = rw (h n (omega arith), nan-none n l (λ i k. h i (omega arith))) (omega arith)

-- where no key is NaN after a push, none was before, and the key pushed is not
pub not-nan-before : (h : Heap) (e : Entry) → h.count < length h.keys → Held NotNan (pushed h e) → Held NotNan h × NotNan e.key
not-nan-before h e room a =
    let c : (pushed h e).count ≡ h.count + 1 = (pushed-kept h e).count in
    let z : passing is_nan (h.count + 1) (pushed h e).keys ≡ 0 = nan-none (h.count + 1) (pushed h e).keys (λ i l. a.each i (rw c l)) in
    let b = neither (is_nan e.key) (passing is_nan h.count h.keys) (sym (pushed-passing is_nan h e room) ∙ z) in
    (record { each = none-nan h.count h.keys b.1 }, b.0)
