-- `plan_of` plans `reduce_to`, dimension by dimension.
use mathlib.Core.Path.{◌≡◌, refl}
use native.Mathlib.Omega.{arith}
use Rattle.simplex.specs.declared.voronoi_simplex.VoronoiSimplex.{VoronoiSimplex}
use Rattle.reduction.specs.declared.location.Location.{Location}
use Rattle.reduction.specs.Reduction.{place_in, reduce_segment, reduce_triangle, reduce_tetrahedron, reduce_to}
use Rattle.reduction.proofs.applying.Weights.plan_of.Goals as goal

at_1 : (t : VoronoiSimplex) (l : Location) → t.dim ≡ 1 → reduce_to t l ≡ reduce_segment t l
unfolding reduce_to
at_1 t l e = rw e refl

at_2 : (t : VoronoiSimplex) (l : Location) → t.dim ≡ 2 → reduce_to t l ≡ reduce_triangle t l
unfolding reduce_to
at_2 t l e = rw e refl

at_3 : (t : VoronoiSimplex) (l : Location) → t.dim ≡ 3 → reduce_to t l ≡ reduce_tetrahedron t l
unfolding reduce_to
at_3 t l e = rw e refl

pub returns-in-1 : goal.returns-in-1
unfolding place_in
returns-in-1 c s = rw (at_1 (place_in s c.args.self.proj c.args.self.dim) c.args.location c.in-1.is) (c.segment_plan.ensures s)

pub returns-in-2 : goal.returns-in-2
unfolding place_in
returns-in-2 c s = rw (at_2 (place_in s c.args.self.proj c.args.self.dim) c.args.location c.in-2.is) (c.triangle_plan.ensures s)

pub returns-in_default : goal.returns-in_default
unfolding place_in
returns-in_default c s =
    let three : c.args.self.dim ≡ 3 = omega (arith, c.requires.0) in
    rw (at_3 (place_in s c.args.self.proj c.args.self.dim) c.args.location three) (c.tetrahedron_plan.ensures s)
