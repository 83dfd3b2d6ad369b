-- `tetrahedron_plan` plans `reduce_tetrahedron`, location by location.
use Rattle.reduction.specs.Reduction.{place_in, reduce_tetrahedron}
use Rattle.reduction.proofs.applying.Weights.tetrahedron_plan.Goals as goal

pub returns-in-OnEdge : goal.returns-in-OnEdge
unfolding reduce_tetrahedron place_in
returns-in-OnEdge c s = simp c.in-OnEdge.is (c.tetrahedron_edge.ensures s)

pub returns-in-OnFace : goal.returns-in-OnFace
unfolding reduce_tetrahedron place_in
returns-in-OnFace c s = simp c.in-OnFace.is (c.tetrahedron_face.ensures (place_in s c.args.self.proj c.args.self.dim))
