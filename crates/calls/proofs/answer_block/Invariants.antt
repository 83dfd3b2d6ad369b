-- What is left of the block falls at each turn.
use Rattle.std.proofs.Common.{length}
use Rattle.calls.proofs.answer_block.Given as goal

abbrev pub decreases-loop-rest : goal.decreases-loop-rest
decreases-loop-rest l = length l.rest
