-- `number::digits::root_bits` meets its contract, since `scale` does: the root of what it answers is the root. Assumes nothing.
use lib.Ieee.{binary32, of_bits}
use Rattle.number.proofs.digits.root_bits.Goals as goal

pub root_of-requires : goal.root_of-requires
root_of-requires c = (c.scale-x.ensures.0, c.scale-x.ensures.1, c.scale-x.ensures.2)

pub returns : goal.returns
returns c = (c.root_of.ensures.0, c.root_of.ensures.1 (of_bits binary32 c.args.b) c.scale-x.ensures.3)
