-- `voted_of` returns the definition's `voted_of`, verdict by verdict. Assumes nothing.
use lib.Ieee.{of_bits}
use Rattle.vector.specs.Vector.{zero_v}
use Rattle.vote.specs.Vote.{verdict_values, no_answer}
use Rattle.answers.specs.Answers.{voted_of}
use Rattle.answers.proofs.voted_of.Goals as goal

pub returns-in-Ok : goal.returns-in-Ok
unfolding voted_of verdict_values
returns-in-Ok c = rw c.in-Ok.is

pub returns-in-Err : goal.returns-in-Err
unfolding voted_of verdict_values no_answer zero_v of_bits
returns-in-Err c = rw (c.in-Err.is, c.answer_with.ensures)
