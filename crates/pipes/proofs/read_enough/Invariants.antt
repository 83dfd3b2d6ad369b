-- What the loop of `read_enough` keeps.
use Rattle.std.proofs.Common.{◌≡◌, length}
use Rattle.pipes.specs.Bytes.{Taken}
use Rattle.pipes.specs.Pipes.{Grown, Kept}
use Rattle.pipes.proofs.read_enough.Given as goal

abbrev pub invariant-loop : goal.invariant-loop
invariant-loop g l = (length l.input ≡ length l.initial.input) × Grown l.counter l.initial.seen l.seen × Kept l.initial.seen.until l.initial.input l.input
    × Taken (g.R.Read.remaining l.initial.stdin) (g.R.Read.remaining l.stdin) l.initial.seen l.seen l.input
