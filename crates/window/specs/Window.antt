-- The window that a case file is read through: offsets, what is not read yet, that at the start of the buffer, and what a turn did (document 01, "Case file and vote"). Definitions only.
use Rattle.std.specs.Prelude.{ℕ, ◌+◌, ◌-◌, ◌%◌, ◌^◌, cond, List, length, take, drop, nat_le, nat_lt, Result, Ok, Err}
use Rattle.std.proofs.lemmas.List.Edits.{sets}
use Rattle.refusal.specs.declared.NoRoom.{NoRoom}
use Rattle.window.specs.declared.Window.{Window}
use Rattle.window.specs.declared.Turn.{Turn}

-- where a place of the window stands in the file: no file has 2 ^ 64 bytes
abbrev pub offset_of : ℕ → ℕ → ℕ
offset_of base p = (base + p) % 2 ^ 64

-- the bytes that are not read yet
abbrev pub rest_of : ℕ → ℕ → ℕ
rest_of at end = cond (nat_le at end) (end - at) 0

-- the window once those bytes stand at the start of the buffer
abbrev pub moved_of : Window → Window
moved_of w = record { base = offset_of w.base w.from; from = 0; until = rest_of w.from w.until; ended = w.ended }

-- those bytes at the start of the buffer, where the window lies in it
unfoldable pub front_of : List ℕ → ℕ → ℕ → List ℕ
front_of s at end = cond (nat_lt (length s) end) s (cond (nat_lt end at) s (sets s 0 (take (end - at) (drop at s))))

-- of a line that was written, or had no room: with the place of the next record, or none
abbrev pub line_turn : ℕ → Result ℕ NoRoom → Turn
line_turn next (Ok k) = Turn.Line next k
line_turn next (Err e) = Turn.NoRoom

abbrev pub bad_turn : Result ℕ NoRoom → Turn
bad_turn (Ok k) = Turn.Stopped k
bad_turn (Err e) = Turn.NoRoom
