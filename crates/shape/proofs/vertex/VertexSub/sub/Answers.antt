-- `Vertex::sub` returns `sub_vertex`.
use Rattle.shape.specs.Vertex.{sub_vertex}
use Rattle.shape.proofs.vertex.VertexSub.sub.Goals as goal

pub returns : goal.returns
unfolding sub_vertex
returns c = simp (← c.sub.ensures)
