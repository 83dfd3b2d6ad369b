-- The largest of three sizes, by the calls' own definitions. Assumes nothing.
use Rattle.proposal.specs.Proposal.{reach}
use Rattle.proposal.proofs.reach.Goals as goal

pub returns : goal.returns
unfolding reach
returns c = simp (c.max-2.ensures, c.abs-3.ensures, c.max.ensures, c.abs-2.ensures, c.abs.ensures)
