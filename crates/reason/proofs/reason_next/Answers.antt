-- `reason_next` answers and leaves what the definition does, by what reading came to. Assumes nothing.
use lib.Ieee.{binary32}
use Rattle.stream.proofs.Turns.{whole, none}
use Rattle.reason.specs.Turns.{line_for, reason_turn}
use Rattle.reason.proofs.Turning.{lined}
use Rattle.reason.proofs.reason_next.Goals as goal

pub returns-in-Ok-clause-answer : goal.returns-in-Ok-clause-answer
unfolding reason_turn
returns-in-Ok-clause-answer c =
    whole binary32 _ _ _ _ _ _ (line_for binary32 _ _) _ c.read_next.ensures c.in-Ok.is
    (lined binary32 _ _ _ _ _ c.find_reason-reason.ensures.answer c.write_maybe-written.ensures) c.line_turn.ensures

pub returns-in-Err-clause-answer : goal.returns-in-Err-clause-answer
unfolding reason_turn
returns-in-Err-clause-answer c = none binary32 _ _ _ _ _ _ (line_for binary32 _ _) _ c.read_next.ensures c.in-Err.is
