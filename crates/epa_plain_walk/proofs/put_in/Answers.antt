-- A question goes in: nothing is done after one that was refused, and where there is room it takes the next place. Assumes nothing.
use Rattle.epa_polytope.proofs.PlainLoop.{in-short, in-placed, in-refused}
use Rattle.epa_plain_walk.proofs.put_in.Goals as goal

pub returns-then-sofar : goal.returns-then-sofar
returns-then-sofar c = in-short _ _ c.if-sofar.true

pub returns-then-sofar-pending : goal.returns-then-sofar-pending
returns-then-sofar-pending c = in-placed _ _ c.if-sofar.false c.if-sofar-pending.true c.put_question.ensures

pub returns : goal.returns
returns c = in-refused _ _ c.if-sofar.false c.if-sofar-pending.false
