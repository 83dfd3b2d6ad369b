-- What the contracts settle: one answer and one pair of lists, and refusal 3 of a push exactly where the store is full. Assumes nothing.
use mathlib.Core.Path.{◌≡◌, refl, sym, ap, ◌∙◌}
use mathlib.Core.Bool.{Bool, true, false, cond}
use mathlib.Core.List.{List}
use Prim.Native.Nat.{ℕ, ◌+◌}
use lib.Dec.{ltb}
use lib.Ieee.{Float}
use Rattle.std.specs.Prelude.{Ok, Err}
use Rattle.refusal.specs.Refusal.{no_room}
use Rattle.heap.specs.Heap.{Heap, Entry, pushed}
use Rattle.heap.specs.Calls.{After, after, leaves, room, push_of, push_number}

-- the contracts leave no choice: what meets one is one answer and one pair of lists
pub after-only : {A : Type 0} {fs gs : List ℕ} {ks ls : List Float} {a b : A} (x : After A) → after fs ks a ≡ x → after gs ls b ≡ x → (fs ≡ gs) × (ks ≡ ls) × (a ≡ b)
after-only {A} x p q = let e = p ∙ sym q in (ap (λ (y : After A). y.faces) e, ap (λ (y : After A). y.keys) e, ap (λ (y : After A). y.answer) e)

-- document 01's number of a push: refusal 3 exactly where the store has no place for the entry
pub push-number : (h : Heap) (e : Entry) → push_number (push_of h e).answer ≡ cond (ltb h.count (room h)) 0 3
unfolding push_of
push-number h e = by (ltb h.count (room h))
  where
    by : (b : Bool) → push_number (cond b (leaves (pushed h e) (Ok (h.count + 1))) (leaves h (Err no_room))).answer ≡ cond b 0 3
    by true = refl
    by false = refl
