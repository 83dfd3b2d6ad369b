-- What `on_face` returns, by the two arms of its test: the weights do not ask for the point nor for the side. Assumes nothing.
use lib.Ieee.{of_bits}
use Rattle.vector.specs.Vector.{zero_v}
use Rattle.projection.specs.Triangle.{on_face, barycentric_coordinates}
use Rattle.epa_polytope.specs.Face.{weights_or, holds_at}
use Rattle.epa_faces.specs.Weighed.{weighed}
use Rattle.epa_faces.proofs.face.on_face.Goals as goal

pub returns-then-sum : goal.returns-then-sum
unfolding weighed on_face barycentric_coordinates weights_or holds_at of_bits
returns-then-sum c pt a ab ac side = simp c.if-sum.true

pub returns : goal.returns
unfolding weighed on_face barycentric_coordinates weights_or holds_at zero_v of_bits
returns c pt a ab ac side = simp c.if-sum.false
