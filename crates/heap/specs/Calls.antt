-- What the calls of this crate answer and leave, and document 01's number and values of each answer. Definitions only.
-- A store lent as two slices is as long as the shorter one. No call returns a count above that. If one is passed all the same, the call answers
-- refusal 3 and writes nothing.
use Rattle.std.specs.Prelude.{ℕ, zero, suc, ◌+◌, min, Bool, true, false, cond, List, length, ltb, Float, Option, Some, None, Result, Ok, Err}
use Rattle.heap.specs.Heap.{Heap, Entry, no_entry, entry_at, pushed, popped}
use Rattle.heap.specs.declared.Popped.{Popped}
use Rattle.refusal.specs.Refusal.{no_room, room_number}
use Rattle.refusal.specs.declared.NoRoom.{NoRoom}

-- what a call leaves in the two lists, and its answer
pub record After (A : Type 0) : Type 0 where
  pub faces : List ℕ
  pub keys : List Float
  pub answer : A

abbrev pub after : {A : Type 0} → List ℕ → List Float → A → After A
after fs ks a = record { faces = fs; keys = ks; answer = a }

abbrev pub leaves : {A : Type 0} → Heap → A → After A
leaves h a = after h.faces h.keys a

-- how many entries have a place
abbrev pub room : Heap → ℕ
room h = min (length h.faces) (length h.keys)

-- `push`: the entry goes in where there is a place for it
unfoldable pub push_of : Heap → Entry → After (Result ℕ NoRoom)
push_of h e = cond (ltb h.count (room h)) (leaves (pushed h e) (Ok (h.count + 1))) (leaves h (Err no_room))

-- `peek`, of a heap of so many entries
unfoldable pub peek_in : Heap → ℕ → Result (Option Entry) NoRoom
peek_in h zero = Ok None
peek_in h (suc n) = cond (ltb n (room h)) (Ok (Some (entry_at h 0))) (Err no_room)

unfoldable pub peek_of : Heap → Result (Option Entry) NoRoom
peek_of h = peek_in h h.count

-- the entry that goes out, and how many are left
abbrev pub popped_of : Entry → ℕ → Popped
popped_of e n = record { entry = e; count = n }

-- `pop`, of a heap of so many entries
unfoldable pub pop_in : Heap → ℕ → After (Result (Option Popped) NoRoom)
pop_in h zero = leaves h (Ok None)
pop_in h (suc n) = cond (ltb n (room h)) (leaves (popped h n) (Ok (Some (popped_of (entry_at h 0) n)))) (leaves h (Err no_room))

unfoldable pub pop_of : Heap → After (Result (Option Popped) NoRoom)
pop_of h = pop_in h h.count

-- ---- document 01's number of each answer: 0, of an empty heap too, and 3 where a place is needed that the store hasn't got; and its values, zeros where there is no entry

abbrev pub push_number : Result ℕ NoRoom → ℕ
push_number (Ok n) = 0
push_number (Err e) = room_number e

-- how many entries there are now
unfoldable pub push_value : Result ℕ NoRoom → ℕ
push_value (Ok n) = n
push_value (Err e) = 0

-- whether there is an entry, and which
pub record Given : Type 0 where
  pub some : Bool
  pub entry : Entry

abbrev pub given : Entry → Given
given e = record { some = true; entry = e }

abbrev pub nothing : Given
nothing = record { some = false; entry = no_entry }

-- and how many are left
pub record Left : Type 0 where
  pub out : Given
  pub count : ℕ

abbrev pub left : Given → ℕ → Left
left g n = record { out = g; count = n }

abbrev pub peek_number : Result (Option Entry) NoRoom → ℕ
peek_number (Ok o) = 0
peek_number (Err e) = room_number e

unfoldable pub peek_values : Result (Option Entry) NoRoom → Given
peek_values (Ok (Some e)) = given e
peek_values (Ok None) = nothing
peek_values (Err e) = nothing

abbrev pub pop_number : Result (Option Popped) NoRoom → ℕ
pop_number (Ok o) = 0
pop_number (Err e) = room_number e

unfoldable pub pop_values : Result (Option Popped) NoRoom → Left
pop_values (Ok (Some p)) = left (given p.entry) p.count
pop_values (Ok None) = left nothing 0
pop_values (Err e) = left nothing 0
