-- The store's first i records are those of the row.
use Rattle.std.proofs.Common.{◌≡◌, take}
use Rattle.edges.specs.Edges.{over, records}
use Rattle.edges.proofs.publish.Given as goal

abbrev pub invariant-loop-i : goal.invariant-loop-i
invariant-loop-i l = l.first ≡ over (take l.i (records l.pairs)) l.initial.first
