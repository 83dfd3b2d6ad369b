-- `separation_vote` hands on the verdict. Assumes nothing.
use Rattle.embedding.proofs.separation_vote.Goals as goal

pub returns : goal.returns
returns c = simp (← c.vote.ensures.answer, ← c.voted_of.ensures)
