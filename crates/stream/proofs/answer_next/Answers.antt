-- `answer_next` answers and leaves what the definition does, by what reading came to. Assumes nothing.
use lib.Ieee.{binary32}
use Rattle.stream.specs.Stream.{line_for, turn_of}
use Rattle.stream.proofs.Turns.{whole, none, lined}
use Rattle.stream.proofs.answer_next.Goals as goal

pub returns-in-Ok-clause-answer : goal.returns-in-Ok-clause-answer
unfolding turn_of
returns-in-Ok-clause-answer c =
    whole binary32 _ _ _ _ _ _ (line_for binary32 _ _) _ c.read_next.ensures c.in-Ok.is
    (lined binary32 _ _ _ _ _ c.separate-outcome.ensures.answer c.write_line-written.ensures) c.line_turn.ensures

pub returns-in-Err-clause-answer : goal.returns-in-Err-clause-answer
unfolding turn_of
returns-in-Err-clause-answer c = none binary32 _ _ _ _ _ _ (line_for binary32 _ _) _ c.read_next.ensures c.in-Err.is
