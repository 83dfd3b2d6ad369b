-- What `pop` answers and leaves, by what `peek` answers. Assumes nothing.
use mathlib.Core.Path.{◌≡◌, refl, sym}
use mathlib.Core.Bool.{Bool, true, false, cond}
use Prim.Native.Nat.{ℕ, zero, suc, ◌+◌, ◌<◌}
use native.Mathlib.Omega.{arith}
use lib.Dec.{ltb}
use borrow.Author.Tests.{ltb-true}
use Rattle.std.specs.Prelude.{Option, Some, None, Result, Ok, Err}
use Rattle.refusal.specs.Refusal.{no_room}
use Rattle.refusal.specs.declared.NoRoom.{NoRoom}
use Rattle.heap.specs.Heap.{Heap, Entry, entry_at, popped}
use Rattle.heap.specs.Calls.{leaves, room, peek_in, peek_of, popped_of, pop_in, pop_of}

-- a result is a value or a refusal, and a value is some or none
an-answer : {A E : Type 0} {x : A} {e : E} → ◌≡◌ {A = Result A E} (Ok x) (Err e) → ⊥
an-answer e = let z : ◌≡◌ {A = ℕ} 0 1 = cc in omega arith

none-there : {A E : Type 0} {x : A} → ◌≡◌ {A = Result (Option A) E} (Ok None) (Ok (Some x)) → ⊥
none-there e = let z : ◌≡◌ {A = ℕ} 0 1 = cc in omega arith

-- of an entry: so many are left, each with a place
pub record First (h : Heap) (e : Entry) : Type 0 where
  pub rest : ℕ
  pub counts : h.count ≡ rest + 1
  pub within : rest < room h
  pub pops : pop_of h ≡ leaves (popped h rest) (Ok (Some (popped_of e rest)))

pub first_out : (h : Heap) {o : Option Entry} {e : Entry} → o ≡ Some e → Ok o ≡ peek_of h → First h e
unfolding peek_of peek_in pop_of pop_in
first_out h {o} {e} is q = by h.count refl (rw is at q)
  where
    by_room : (n : ℕ) (b : Bool) → h.count ≡ suc n → ltb n (room h) ≡ b → Ok (Some e) ≡ cond b (Ok (Some (entry_at h 0))) (Err no_room) → First h e
    by_room n true c l x =
        let is : e ≡ entry_at h 0 = cc in
        record { rest = n; counts = omega (arith, c); within = omega (arith, ltb-true n (room h) l); pops = rw (c, is, l) }
    by_room n false c l x = absurd (an-answer x)

    by : (n : ℕ) → h.count ≡ n → Ok (Some e) ≡ peek_in h n → First h e
    by zero c x = absurd (none-there (sym x))
    by (suc n) c x = by_room n (ltb n (room h)) c refl x

-- of none, and where there is no place for what the count tells of, the answer is the same, and nothing is written
pub none_out : (h : Heap) → Ok None ≡ peek_of h → pop_of h ≡ leaves h (Ok None)
unfolding peek_of peek_in pop_of pop_in
none_out h q = by h.count q
  where
    by_room : (n : ℕ) (b : Bool) → Ok None ≡ cond b (Ok (Some (entry_at h 0))) (Err no_room)
        → cond b (leaves (popped h n) (Ok (Some (popped_of (entry_at h 0) n)))) (leaves h (Err no_room)) ≡ leaves h (Ok None)
    by_room n true x = absurd (none-there x)
    by_room n false x = absurd (an-answer x)

    by : (n : ℕ) → Ok None ≡ peek_in h n → pop_in h n ≡ leaves h (Ok None)
    by zero x = refl
    by (suc n) x = by_room n (ltb n (room h)) x

pub refused_out : (h : Heap) {e : NoRoom} → Err e ≡ peek_of h → pop_of h ≡ leaves h (Err e)
unfolding peek_of peek_in pop_of pop_in
refused_out h {e} q = by h.count q
  where
    by_room : (n : ℕ) (b : Bool) → Err e ≡ cond b (Ok (Some (entry_at h 0))) (Err no_room)
        → cond b (leaves (popped h n) (Ok (Some (popped_of (entry_at h 0) n)))) (leaves h (Err no_room)) ≡ leaves h (Err e)
    by_room n true x = absurd (an-answer (sym x))
    by_room n false x = refl

    by : (n : ℕ) → Err e ≡ peek_in h n → pop_in h n ≡ leaves h (Err e)
    by zero x = absurd (an-answer (sym x))
    by (suc n) x = by_room n (ltb n (room h)) x
