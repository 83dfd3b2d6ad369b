-- `Vertex::new` returns `new_vertex`.
use Rattle.shape.specs.Vertex.{new_vertex}
use Rattle.shape.proofs.vertex.Vertex.new.Goals as goal

pub returns : goal.returns
unfolding new_vertex
returns c = simp (← c.sub-point.ensures, ← c.new_with_point.ensures)
