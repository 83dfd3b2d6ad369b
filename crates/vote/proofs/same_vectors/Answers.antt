-- Two vectors agree where the definition says so: each of their floats. Assumes nothing.
use Rattle.vote.specs.Vote.{same_bits_v}
use Rattle.vote.proofs.same_vectors.Goals as goal

pub returns : goal.returns
unfolding same_bits_v
returns c = simp (← c.same_bits.ensures, ← c.same_bits-2.ensures, ← c.same_bits-3.ensures)
