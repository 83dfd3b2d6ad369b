-- A turn: the last question comes out, and is answered. Assumes nothing.
use Rattle.epa_polytope.proofs.PlainLoop.{turn-made}
use Rattle.epa_plain_walk.proofs.take_turn.Goals as goal

pub returns : goal.returns
returns c k =
    turn-made _ _ _ _ _ _ _ c.requires c.question_at-q.ensures c.put_question.ensures
    (c.answer_question.ensures k)
