-- What a reader has no more, and what a writer has gained, after a call of `pipes`, where their bytes are known (`R.remaining` and `W.contents` of `std`). Definitions only.
use Rattle.std.specs.Prelude.{◌≡◌, List, Bool, true, false, ℕ, ◌≤◌, leb, length, take, Option, Some, None, Result, Ok, Err}
use Rattle.std.specs.List.{between}
use Rattle.std.specs.Io.KnownBytes.{Keeps, Appends, Consumes, IsAtEnd}
use Rattle.window.specs.declared.Window.{Window}
use Rattle.window.specs.Window.{moved_of}
use Rattle.pipes.specs.declared.Failed.{Failed}
use Rattle.pipes.specs.declared.Run.{Run}
use Rattle.pipes.specs.declared.End.{End}
use Rattle.pipes.specs.Pipes.{run, enough_of, is_open, ready_of}

-- of a reader that had `unread` and has `left`
module _ (unread left : Option (List ℕ)) where
  -- what a read brings is within the input, and gone from the reader, which has no more at the file's end
  abbrev pub Gone : ℕ → List ℕ → Result (Option ℕ) Failed → Type 0
  Gone at bytes (Ok (Some n)) = (n ≤ length bytes) × Consumes unread left (between at n bytes)
  Gone at bytes (Ok None) = Keeps unread left × IsAtEnd left
  Gone at bytes (Err e) = Keeps unread left

  -- what reads bring to the window w, which is v then
  pub record Taken (w v : Window) (bytes : List ℕ) : Type 0 where
    pub more : w.until ≤ v.until
    pub gone : Consumes unread left (between w.until v.until bytes)
    pub end : w.ended ≡ false → v.ended ≡ true → IsAtEnd left

  -- what reads took before one of them failed is not told
  abbrev pub TakenBy : Window → List ℕ → Result Window Failed → Type 0
  TakenBy w bytes (Ok v) = Taken w v bytes
  TakenBy w bytes (Err e) = Unit {0}

  -- nothing is read to a window that has what decides a record
  pub record Drawn (w : Window) (bytes : List ℕ) (r : Result Window Failed) : Type 0 where
    pub enough : enough_of w ≡ true → Keeps unread left
    pub few : enough_of w ≡ false → TakenBy (moved_of w) bytes r

  -- nothing is read without room
  abbrev pub DrawnIn : Result ℕ Failed → Window → List ℕ → Result Window Failed → Type 0
  DrawnIn (Ok place) w bytes seen = Drawn w bytes seen
  DrawnIn (Err e) w bytes seen = Keeps unread left

abbrev pub is_room : Result ℕ Failed → Bool
is_room (Ok place) = true
is_room (Err e) = false

-- of a writer that held `held` and holds `holds`
module _ (held holds : Option (List ℕ)) where
  -- lines that are written are what it gains; what a write that fails leaves is not told
  abbrev pub Gained : List ℕ → ℕ → Bool → Type 0
  Gained o place true = Appends held holds (take place o)
  Gained o place false = Unit {0}

  -- nothing is written while a line has room
  pub record Drained (o : List ℕ) (at : ℕ) (r : Result ℕ Failed) : Type 0 where
    pub room : leb at 65327 ≡ true → Keeps held holds
    pub none : leb at 65327 ≡ false → Gained o at (is_room r)

-- of both
module _ (unread left held holds : Option (List ℕ)) where
  -- an open state: by the room and the window that the answer is by, as in `Begun`
  pub record Moved (w : Window) (at : ℕ) (o bytes : List ℕ) (r : Result Run End) : Type 0 where
    pub room : Result ℕ Failed
    pub drained : Drained held holds o at room
    pub seen : Result Window Failed
    pub drawn : DrawnIn unread left room w bytes seen
    pub answer : r ≡ ready_of (length bytes) room seen

  -- any state: nothing is read or written for one that is not open
  pub record Passed (state : Result Run End) (o bytes : List ℕ) (r : Result Run End) : Type 0 where
    pub moved : {w : Window} {at : ℕ} → state ≡ Ok (run w at) → Moved w at o bytes r
    pub handed : is_open state ≡ false → Keeps unread left × Keeps held holds
