-- The refusals of document 01 that are handed on from crate to crate, and their numbers. Definitions only.
use Rattle.std.specs.Prelude.{ℕ, Result, Ok, Err}
use Rattle.refusal.specs.declared.WouldPanic.{WouldPanic}
use Rattle.refusal.specs.declared.NoRoom.{NoRoom}

-- the Rust would panic, or the simplex given is none
abbrev pub would_panic : WouldPanic
would_panic = record {}

-- a lent store has no place left
abbrev pub no_room : NoRoom
no_room = record {}

abbrev pub panic_number : WouldPanic → ℕ
panic_number e = 2

-- of an answer that may be refused so: 0, or refusal 2
abbrev pub number_or_panic : {A : Type 0} → Result A WouldPanic → ℕ
number_or_panic (Ok a) = 0
number_or_panic (Err e) = panic_number e

abbrev pub room_number : NoRoom → ℕ
room_number e = 3
