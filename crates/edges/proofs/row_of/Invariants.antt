-- The first i records' numbers are written, two a record, and zeros come after them.
use Rattle.std.proofs.Common.{◌≡◌, take, replicate}
use Rattle.edges.specs.Edges.{over, pairs_of}
use Rattle.edges.proofs.row_of.Given as goal

abbrev pub invariant-loop-i : goal.invariant-loop-i
invariant-loop-i l = l.pairs ≡ over (pairs_of (take l.i l.first)) (replicate 412 0)
