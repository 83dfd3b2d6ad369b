-- `Face::new` of epa3.rs never panics where it unwraps `barycentric_coordinates()` (`never-unwraps-none`): it does that at a corner and on an edge, and the projection on
-- a triangle answers none but those that a triangle has, in any format. Shown at each way out of the projection: a corner's region, an edge's, and the face. Assumes nothing.
use mathlib.Core.Bool.{cond, ◌&&◌}
use Prim.Native.Nat.{ℕ}
use Rattle.std.proofs.Common.{Option, Some, None, Result, Ok, Err}
use lib.Ieee.{Float, Format, le, ne}
use Rattle.vector.specs.declared.vec3.Vec3.{Vec3}
use Rattle.vector.specs.Vector.{zero_f, one_f, add_v, scale_v, ◌⊕◌, ◌⊖◌, ◌⊗◌, ◌⊘◌}
use Rattle.projection.specs.declared.triangle.Triangle.{Triangle}
use Rattle.projection.specs.declared.triangle.TrianglePointLocation.{TrianglePointLocation}
use Rattle.projection.specs.declared.triangle.TrianglePointLocation.TheVariants.{OnVertex, OnEdge, OnFace, OnSolid}
use Rattle.projection.specs.declared.triangle.BarycentricCoordinates.{BarycentricCoordinates}
use Rattle.projection.specs.declared.triangle.Differences.{Differences}
use Rattle.projection.specs.declared.triangle.Dots.{Dots}
use Rattle.projection.specs.declared.triangle.ProjectionInfo.{ProjectionInfo}
use Rattle.projection.specs.declared.triangle.ProjectionInfo.TheVariants as Info
use Rattle.projection.specs.Triangle.{TriangleProjection, on_vertex, vertex_region, or_else, on_edge, on_face, located, differences, dots, check_edges, project_triangle, vertex_weights, edge_weights, barycentric_coordinates}
use Rattle.projection.proofs.Choice.{either}
use Rattle.refusal.specs.declared.WouldPanic.{WouldPanic}

-- what `unwrap` has to find
abbrev pub HasWeights : Result (Option BarycentricCoordinates) WouldPanic → Type 0
HasWeights (Ok (Some w)) = Unit {0}
HasWeights (Ok None) = ⊥
HasWeights (Err e) = ⊥

-- a solid has no weights, and there the Rust does not ask for them
abbrev pub Unwraps : TrianglePointLocation → Type 0
Unwraps (OnVertex i) = HasWeights (barycentric_coordinates (OnVertex i))
Unwraps (OnEdge i u v) = HasWeights (barycentric_coordinates (OnEdge i u v))
Unwraps (OnFace i u v w) = HasWeights (barycentric_coordinates (OnFace i u v w))
Unwraps OnSolid = Unit {0}

abbrev At : TriangleProjection → Type 0
At p = Unwraps p.location

abbrev MaybeAt : Option TriangleProjection → Type 0
MaybeAt (Some p) = At p
MaybeAt None = Unit {0}

or-else : (m : Option TriangleProjection) (p : TriangleProjection) → MaybeAt m → At p → At (or_else m p)
unfolding or_else
or-else (Some q) p h k = h
or-else None p h k = k

at-corner : (t : Triangle) (k : Dots) → MaybeAt (vertex_region t k)
unfolding vertex_region on_vertex barycentric_coordinates vertex_weights
at-corner t k =
    let in-a = le k.ab_ap zero_f && le k.ac_ap zero_f in
    let in_b = le zero_f k.ab_bp && le k.ac_bp k.ab_bp in
    let in_c = le zero_f k.ac_cp && le k.ab_cp k.ac_cp in
    let from-c = cond in_c (Some (on_vertex 2 t.c)) None in
    let from-b = cond in_b (Some (on_vertex 1 t.b)) from-c in
    either MaybeAt in-a (Some (on_vertex 0 t.a)) from-b tt (either MaybeAt in_b (Some (on_vertex 1 t.b)) from-c tt (either MaybeAt in_c (Some (on_vertex 2 t.c)) None tt tt))

on-face : (f : Format) (pt a ab ac : Vec3) (side : ℕ) (va vb vc : Float) → At (on_face f pt a ab ac side va vb vc)
unfolding on_face barycentric_coordinates
on-face f pt a ab ac side va vb vc =
    let sum = ◌⊕◌ f (◌⊕◌ f va vb) vc in
    let denom = ◌⊘◌ f one_f sum in
    let v = ◌⊗◌ f vb denom in
    let w = ◌⊗◌ f vc denom in
    let on : TriangleProjection = record { point = add_v f (add_v f a (scale_v f ab v)) (scale_v f ac w); location = OnFace side (◌⊖◌ f (◌⊖◌ f one_f v) w) v w } in
    either At (ne sum zero_f) on (record { point = pt; location = OnSolid }) tt tt

on-side : (f : Format) (t : Triangle) (pt : Vec3) (v : Differences) (k : Dots) (i : ProjectionInfo) → At (located f t pt v k i)
unfolding located on_edge barycentric_coordinates edge_weights
on-side f t pt v k Info.OnAB = tt
on-side f t pt v k Info.OnAC = tt
on-side f t pt v k Info.OnBC = tt
on-side f t pt v k (Info.OnFace side va vb vc) = on-face f pt t.a v.ab v.ac side va vb vc

-- `unwrap` never finds a none
pub never-unwraps-none : (f : Format) (t : Triangle) (pt : Vec3) → Unwraps (project_triangle f t pt).location
unfolding project_triangle
never-unwraps-none f t pt =
    let v = differences f t pt in
    let k = dots f v in
    let i = check_edges f v k in
    or-else (vertex_region t k) (located f t pt v k i) (at-corner t k) (on-side f t pt v k i)
