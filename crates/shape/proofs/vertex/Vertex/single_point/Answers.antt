-- `Vertex::single_point` returns the definition's `single_point`.
use lib.Ieee.{of_bits}
use Rattle.vector.specs.Vector.{zero_v}
use Rattle.shape.specs.Vertex.{single_point}
use Rattle.shape.proofs.vertex.Vertex.single_point.Goals as goal

pub returns : goal.returns
unfolding single_point zero_v of_bits
returns c = simp (← c.new_with_point.ensures)
