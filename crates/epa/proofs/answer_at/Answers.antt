-- What `answer_at` returns. Assumes nothing.
use Rattle.epa.proofs.answer_at.Goals as goal

pub returns : goal.returns
returns c = rw c.counts_of-counts.ensures
