-- `Vertex::new_with_point` returns `vertex_with_point`.
use mathlib.Core.Path.{refl}
use Rattle.shape.specs.Vertex.{vertex_with_point}
use Rattle.shape.proofs.vertex.Vertex.new_with_point.Goals as goal

pub returns : goal.returns
unfolding vertex_with_point
returns c = refl
