-- `Vertex::translate` returns `translate_vertex`.
use Rattle.shape.specs.Vertex.{translate_vertex}
use Rattle.shape.proofs.vertex.Vertex.translate.Goals as goal

pub returns : goal.returns
unfolding translate_vertex
returns c = simp (← c.add.ensures, ← c.new_with_point.ensures)
