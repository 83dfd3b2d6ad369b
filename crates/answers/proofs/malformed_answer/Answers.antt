-- What `malformed_answer` returns. Assumes nothing.
use lib.Ieee.{of_bits}
use Rattle.vector.specs.Vector.{zero_v}
use Rattle.answers.specs.Answers.{malformed}
use Rattle.answers.proofs.malformed_answer.Goals as goal

pub returns : goal.returns
unfolding malformed zero_v of_bits
returns c = simp (← c.answer_with.ensures)
