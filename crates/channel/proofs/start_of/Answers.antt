-- What `start_of` returns. Assumes nothing.
use lib.Ieee.{binary32}
use Rattle.channel.proofs.Separating.{started}
use Rattle.channel.proofs.start_of.Goals as goal

pub returns : goal.returns
returns c = started binary32 _ _ _ _ c.support_point-first.ensures c.new.ensures c.reset.ensures.answer
