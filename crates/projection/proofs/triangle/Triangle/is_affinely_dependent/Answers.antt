-- `Triangle::is_affinely_dependent` returns the definition's `is_affinely_dependent`, operation by operation.
use lib.Ieee.{of_bits}
use Rattle.projection.specs.Triangle.{is_affinely_dependent}
use Rattle.projection.proofs.triangle.Triangle.is_affinely_dependent.Goals as goal

pub returns : goal.returns
unfolding is_affinely_dependent of_bits
returns c = simp (← c.epsilon-default_epsilon.ensures, ← c.sub-ab.ensures, ← c.sub-ac.ensures, ← c.cross.ensures, ← c.length_squared-q.ensures, ← c.relative_eq.ensures)
