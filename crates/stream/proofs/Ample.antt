-- DEMAND 3 of a turn of the stream: over the room that suffices, the line that goes out for a record is never one of letter R. Any format. Assumes nothing.
use mathlib.Core.Path.{◌≡◌}
use mathlib.Core.List.{List}
use Prim.Native.Nat.{ℕ, ◌≤◌}
use lib.Ieee.{Format}
use borrow.Author.Tests.{le-ltb}
use Rattle.casefile.specs.declared.records.Case.{Case}
use Rattle.std.specs.Prelude.{Ok}
use Rattle.casefile.specs.Numbers.{got}
use Rattle.casefile.specs.Records.{read_case}
use Rattle.lines.specs.declared.line.Outcome.{Outcome}
use Rattle.lines.specs.Text.{place_of}
use Rattle.lines.specs.Lines.{line_of}
use Rattle.epa_polytope.specs.Stores.{Lists}
use Rattle.epa_polytope.specs.Bounds.{Ample}
use Rattle.channel.specs.Channel.{HadRoom}
use Rattle.channel.proofs.Ample.{ample-separated}
use Rattle.stream.specs.Reading.{line_told, most_records, read_next}
use Rattle.stream.specs.Stream.{case_outcome, turn_of}

-- the record's outcome, whose line went out
pub record Line (f : Format) (b : List ℕ) (at base number : ℕ) (o : List ℕ) (place next : ℕ) (l : Lists) : Type 0 where
  pub outcome : Outcome
  pub told : (turn_of f b at base number o place l).answer ≡ line_told next (place_of o place (line_of f number outcome))
  pub placed : HadRoom outcome

pub ample-line : (f : Format) (b : List ℕ) (at base number : ℕ) (o : List ℕ) (place : ℕ) (c : Case) (next : ℕ) (l : Lists) → Ample l → number ≤ most_records → read_case f b at ≡ Ok (got c next)
    → Line f b at base number o place next l
unfolding turn_of read_next
ample-line f b at base number o place c next l room few e = record {
  outcome = (case_outcome f c l).answer;
  told = rw (le-ltb _ _ few, e);
  placed = ample-separated f c.pos12 c.g1 c.g2 c.dir c.max_dist c.exact l room;
}
