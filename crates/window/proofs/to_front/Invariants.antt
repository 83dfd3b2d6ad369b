-- What the loop of `to_front` keeps.
use Rattle.std.proofs.Common.{◌≡◌, take, drop}
use lib.Seq.{sets}
use Rattle.window.proofs.to_front.Given as goal

abbrev pub invariant-loop-i : goal.invariant-loop-i
invariant-loop-i l = l.bytes ≡ sets l.initial.bytes 0 (take l.i (drop l.from l.initial.bytes))
