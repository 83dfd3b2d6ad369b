-- A pass puts in its three questions, the last first, and walks. Assumes nothing.
use Rattle.epa_polytope.proofs.PlainLoop.{pass-made}
use Rattle.epa_plain_walk.proofs.plain_pass.Goals as goal

pub returns : goal.returns
returns c k =
    pass-made _ _ _ _ _ c.put_in-third.ensures c.put_in-second.ensures c.put_in-first.ensures
    (c.plain_walk.ensures k)
