-- Two floats agree where the definition says so: `to_bits` writes the bits that it compares. Assumes nothing.
use Rattle.vote.specs.Vote.{same_bits}
use Rattle.vote.proofs.same_bits.Goals as goal

pub returns : goal.returns
unfolding same_bits
returns c = simp (← c.to_bits.ensures, ← c.to_bits-2.ensures)
