-- `Vertex::origin` returns `origin_vertex`.
use lib.Ieee.{of_bits}
use Rattle.vector.specs.Vector.{zero_v}
use Rattle.shape.specs.Vertex.{origin_vertex}
use Rattle.shape.proofs.vertex.Vertex.origin.Goals as goal

pub returns : goal.returns
unfolding origin_vertex zero_v of_bits
returns c = simp (← c.new.ensures)
