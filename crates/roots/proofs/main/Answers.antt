-- `roots::main`: each known root is the one that `root` computes. Assumes nothing.
use borrow.Author.Tests.{eq-eqb}
use lib.Ieee.{ne, is_nan, nan_bits, of_bits, to_bits}
use Rattle.number.specs.Root.{root}
use Rattle.roots.proofs.main.Goals as goal

pub root_of-requires : goal.root_of-requires
unfolding nan_bits is_nan root of_bits
root_of-requires c = (tt, tt)

pub expect-requires : goal.expect-requires
unfolding root of_bits to_bits
expect-requires c = eq-eqb c.root_of.result 0x1A800000 c.root_of.ensures

pub root_of-requires-2 : goal.root_of-requires-2
unfolding nan_bits is_nan root of_bits
root_of-requires-2 c = (tt, tt)

pub expect-requires-2 : goal.expect-requires-2
unfolding root of_bits to_bits
expect-requires-2 c = eq-eqb c.root_of-2.result 0x3FB504F3 c.root_of-2.ensures

pub root_of-requires-3 : goal.root_of-requires-3
unfolding nan_bits is_nan root of_bits
root_of-requires-3 c = (tt, tt)

pub expect-requires-3 : goal.expect-requires-3
unfolding root of_bits to_bits
expect-requires-3 c = eq-eqb c.root_of-3.result 0x5F7FFFFF c.root_of-3.ensures

pub root_of-requires-4 : goal.root_of-requires-4
unfolding nan_bits is_nan root of_bits
root_of-requires-4 c = (tt, tt)

pub expect-requires-4 : goal.expect-requires-4
unfolding root of_bits to_bits
expect-requires-4 c = eq-eqb c.root_of-4.result 0x80000000 c.root_of-4.ensures

pub has_no_root-requires : goal.has_no_root-requires
unfolding nan_bits
has_no_root-requires c = tt

pub expect-requires-5 : goal.expect-requires-5
unfolding root of_bits ne
expect-requires-5 c = c.has_no_root.ensures
