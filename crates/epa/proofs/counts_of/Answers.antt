-- What `counts_of` returns. Assumes nothing.
use Rattle.epa.proofs.counts_of.Goals as goal

pub returns : goal.returns
returns c = rw c.live_to.ensures
