-- `malformed_cast` returns the definition's `malformed_cast`.
use mathlib.Core.Path.{refl}
use lib.Ieee.{of_bits}
use Rattle.vector.specs.Vector.{zero_v}
use Rattle.embedding.specs.Impact.{malformed_cast}
use Rattle.embedding.proofs.impact.malformed_cast.Goals as goal

pub returns : goal.returns
unfolding malformed_cast zero_v of_bits
returns c = refl
