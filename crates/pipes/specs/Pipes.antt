-- How a run's window on its input and its place in its output, of 65,536 bytes, move. Which bytes a reader and a writer are left with is in `Bytes`. Definitions only.
use Rattle.std.specs.Prelude.{◌≡◌, List, Bool, true, false, cond, ◌⊎◌, ℕ, ◌+◌, ◌<◌, ◌≤◌, ltb, leb, length, take, Option, Some, None, Result, Ok, Err}
use Rattle.window.specs.declared.Window.{Window}
use Rattle.window.specs.declared.Turn.{Turn}
use Rattle.window.specs.Window.{rest_of, moved_of, front_of}
use Rattle.pipes.specs.declared.Failed.{Failed}
use Rattle.pipes.specs.declared.Run.{Run}
use Rattle.pipes.specs.declared.End.{End}

-- a read or a write failed
abbrev pub failed : Failed
failed = record {}

-- a run that goes on
abbrev pub run : Window → ℕ → Run
run w place = record { window = w; place = place }

-- ---- input

abbrev pub start_window : Window
start_window = record { base = 0; from = 0; until = 0; ended = false }

-- what decides a record: 160 bytes, or the file's rest
abbrev pub enough_of : Window → Bool
enough_of w = cond w.ended true (leb 160 (rest_of w.from w.until))

-- the bytes of an input before a place stay: of the input as it is given, and then left
pub record Kept (at : ℕ) (given left : List ℕ) : Type 0 where
  pub bytes : take at left ≡ take at given

-- a read brings a byte at least, or the file's end
abbrev pub Brought : ℕ → Result (Option ℕ) Failed → Type 0
Brought at (Ok (Some n)) = at < n
Brought at (Ok None) = Unit {0}
Brought at (Err e) = Unit {0}

-- the window v is w with what reads brought: so many bytes at least, or the file's end
pub record Grown (n : ℕ) (w v : Window) : Type 0 where
  pub base : v.base ≡ w.base
  pub from : v.from ≡ w.from
  pub more : w.until ≤ v.until
  pub brought : (v.ended ≡ true) ⊎ (w.until + n ≤ v.until)

abbrev pub ReadOn : Window → Result Window Failed → Type 0
ReadOn w (Ok v) = Grown 1 w v
ReadOn w (Err e) = Unit {0}

-- the same, with what decides a record
pub record Ample (w v : Window) : Type 0 where
  pub base : v.base ≡ w.base
  pub from : v.from ≡ w.from
  pub more : w.until ≤ v.until
  pub enough : enough_of v ≡ true

abbrev pub Read : Window → Result Window Failed → Type 0
Read w (Ok v) = Ample w v
Read w (Err e) = Unit {0}

-- with what decides a record, window and input are as they are; else what is not read yet of the window goes to the input's start, and stays there while reads bring more
pub record Filled (w : Window) (given left : List ℕ) (r : Result Window Failed) : Type 0 where
  pub enough : enough_of w ≡ true → (r ≡ Ok w) × (left ≡ given)
  pub few : enough_of w ≡ false → Read (moved_of w) r × Kept (moved_of w).until (front_of given w.from w.until) left

-- ---- output

-- lines that were written stand within the output
abbrev pub Written : List ℕ → ℕ → Bool → Type 0
Written o place true = place ≤ length o
Written o place false = Unit {0}

-- the place stays where a line of 209 bytes, the longest, fits after it (`line-length` and `line-fits` of the proofs of `lines`); else what stands before it is written,
-- and the place is the output's start
abbrev pub room_of : ℕ → Bool → Result ℕ Failed
room_of at written = cond (leb at 65327) (Ok at) (cond written (Ok 0) (Err failed))

-- whether it is written comes from outside
pub record Roomy (o : List ℕ) (at : ℕ) (r : Result ℕ Failed) : Type 0 where
  pub written : Bool
  pub within : Written o at written
  pub room : r ≡ room_of at written

-- ---- a run

abbrev pub is_open : Result Run End → Bool
is_open (Ok r) = true
is_open (Err e) = false

abbrev pub after_turn : Turn → Window → ℕ → Result Run End
after_turn (Turn.Line next following) w place = Ok (run (record { base = w.base; from = next; until = w.until; ended = w.ended }) following)
after_turn (Turn.Stopped following) w place = Err (End.Done following)
after_turn Turn.NoRoom w place = Err (End.Failed place)
after_turn Turn.AllRead w place = Err (End.Done place)

-- the answer by the room that there is and the window that is seen, on an input of n bytes: a record, unless a write or a read failed, the window is not within the input, or the file is at its end
abbrev pub ready_of : ℕ → Result ℕ Failed → Result Window Failed → Result Run End
ready_of n (Err e) seen = Err (End.Failed 0)
ready_of n (Ok place) (Err e) = Err (End.Failed place)
ready_of n (Ok place) (Ok v) = cond (ltb n v.until) (Err (End.Failed place)) (cond (leb v.until v.from) (Err (End.Done place)) (Ok (run v place)))

-- nothing is read without room
abbrev pub FilledIn : Result ℕ Failed → Window → List ℕ → List ℕ → Result Window Failed → Type 0
FilledIn (Ok place) w given left seen = Filled w given left seen
FilledIn (Err e) w given left seen = left ≡ given

-- an open state: there is room at `at` or a write failed, then the window w is filled or a read failed, and the answer is by both
pub record Begun (w : Window) (at : ℕ) (o given left : List ℕ) (r : Result Run End) : Type 0 where
  pub room : Result ℕ Failed
  pub roomy : Roomy o at room
  pub seen : Result Window Failed
  pub filled : FilledIn room w given left seen
  pub answer : r ≡ ready_of (length left) room seen

-- any state: one that is not open is handed on, and nothing is read
pub record Readied (state : Result Run End) (o given left : List ℕ) (r : Result Run End) : Type 0 where
  pub begun : {w : Window} {at : ℕ} → state ≡ Ok (run w at) → Begun w at o given left r
  pub handed : is_open state ≡ false → (r ≡ state) × (left ≡ given)

-- what follows of a record that is answered (`answerable` of the proofs), from an input of n bytes: some of them are its window's, with what decides it, and its line has room
pub record Answerable (n : ℕ) (w : Window) (place : ℕ) : Type 0 where
  pub within : w.until ≤ n
  pub some : w.from < w.until
  pub enough : enough_of w ≡ true
  pub room : place + 209 ≤ 65536
