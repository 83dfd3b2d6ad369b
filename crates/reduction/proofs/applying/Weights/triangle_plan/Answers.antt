-- `triangle_plan` plans `reduce_triangle`, location by location.
use Rattle.reduction.specs.Reduction.{place_in, reduce_triangle}
use Rattle.reduction.proofs.applying.Weights.triangle_plan.Goals as goal

pub returns-in-OnEdge : goal.returns-in-OnEdge
unfolding reduce_triangle place_in
returns-in-OnEdge c s = simp c.in-OnEdge.is (c.triangle_edge.ensures s)
