-- The projections give only locations that there are: corners, edges and faces by numbers that a segment or a triangle has (`segment-fits`, `triangle-fits`), in any format.
-- Shown at each way out, where the numbers are literals. Assumes nothing.
use mathlib.Core.Bool.{◌&&◌}
use Prim.Native.Nat.{ℕ, ◌≤◌}
use Rattle.std.proofs.Common.{Option, Some, None, Result, Ok, Err}
use native.Mathlib.Omega.{arith}
use lib.Ieee as Ieee
use lib.Ieee.{Float, Format, lt, le, eq, ne}
use Rattle.vector.specs.declared.vec3.Vec3.{Vec3}
use Rattle.vector.specs.Vector.{zero_f, sub_v, dot_v, cross_v, length_squared_v, ◌⊕◌, ◌⊖◌}
use Rattle.projection.specs.declared.segment.Segment.{Segment}
use Rattle.projection.specs.declared.segment.SegmentPointLocation.{SegmentPointLocation}
use Rattle.projection.specs.declared.segment.SegmentPointLocation.TheVariants as OfSegment
use Rattle.projection.specs.Segment as Seg
use Rattle.projection.specs.Segment.{SegmentProjection}
use Rattle.projection.specs.declared.triangle.Triangle.{Triangle}
use Rattle.projection.specs.declared.triangle.TrianglePointLocation.{TrianglePointLocation}
use Rattle.projection.specs.declared.triangle.TrianglePointLocation.TheVariants as OfTriangle
use Rattle.projection.specs.declared.triangle.Differences.{Differences}
use Rattle.projection.specs.declared.triangle.Dots.{Dots}
use Rattle.projection.specs.declared.triangle.ProjectionInfo.{ProjectionInfo}
use Rattle.projection.specs.declared.triangle.ProjectionInfo.TheVariants as Info
use Rattle.projection.specs.Triangle as Tri
use Rattle.projection.specs.Triangle.{TriangleProjection}
use Rattle.refusal.specs.declared.WouldPanic.{WouldPanic}
use Rattle.refusal.specs.Refusal.{would_panic}
use Rattle.projection.proofs.Choice.{either}

-- ---- the locations that there are, by their numbers

pub data SegmentHas : SegmentPointLocation → Type 0 where
  vertex : (i : ℕ) → i ≤ 1 → SegmentHas (OfSegment.OnVertex i)
  edge : (u v : Float) → SegmentHas (OfSegment.OnEdge u v)

-- its face has two sides
pub data TriangleHas : TrianglePointLocation → Type 0 where
  vertex : (i : ℕ) → i ≤ 2 → TriangleHas (OfTriangle.OnVertex i)
  edge : (i : ℕ) (u v : Float) → i ≤ 2 → TriangleHas (OfTriangle.OnEdge i u v)
  face : (i : ℕ) (u v w : Float) → i ≤ 1 → TriangleHas (OfTriangle.OnFace i u v w)
  solid : TriangleHas OfTriangle.OnSolid

-- ---- the segment

-- a projection that is refused gives no location
pub data SegmentFits : Result SegmentProjection WouldPanic → Type 0 where
  at : (p : SegmentProjection) → SegmentHas p.location → SegmentFits (Ok p)
  refused : SegmentFits (Err would_panic)

pub segment-fits : (f : Format) (s : Segment) (pt : Vec3) → SegmentFits (Seg.project_segment f s pt)
unfolding Seg.project_segment Seg.on_edge
segment-fits f s pt =
    let ab = sub_v f s.b s.a in
    let t = dot_v f ab (sub_v f pt s.a) in
    let n = length_squared_v f ab in
    either SegmentFits (le t zero_f) _ _ (SegmentFits.at _ (SegmentHas.vertex 0 (omega arith)))
    (either SegmentFits (le n t) _ _ (SegmentFits.at _ (SegmentHas.vertex 1 (omega arith)))
    (either SegmentFits (eq n zero_f) _ _ SegmentFits.refused (SegmentFits.at _ (SegmentHas.edge _ _))))

-- ---- the triangle

data TriFits : Option TriangleProjection → Type 0 where
  some : (p : TriangleProjection) → TriangleHas p.location → TriFits (Some p)
  none : TriFits None

tri-region : (t : Triangle) (k : Dots) → TriFits (Tri.vertex_region t k)
unfolding Tri.vertex_region Tri.on_vertex
tri-region t k =
    either TriFits (le k.ab_ap zero_f && le k.ac_ap zero_f) _ _ (TriFits.some _ (TriangleHas.vertex 0 (omega arith)))
    (either TriFits (le zero_f k.ab_bp && le k.ac_bp k.ab_bp) _ _ (TriFits.some _ (TriangleHas.vertex 1 (omega arith)))
    (either TriFits (le zero_f k.ac_cp && le k.ab_cp k.ac_cp) _ _ (TriFits.some _ (TriangleHas.vertex 2 (omega arith))) TriFits.none))

data InfoFits : ProjectionInfo → Type 0 where
  on-ab : InfoFits Info.OnAB
  on-ac : InfoFits Info.OnAC
  on-bc : InfoFits Info.OnBC
  face : (i : ℕ) (u v w : Float) → i ≤ 1 → InfoFits (Info.OnFace i u v w)

tri-side : (x : Float) → Tri.face_side x ≤ 1
unfolding Tri.face_side
tri-side x = either (λ i. i ≤ 1) (le zero_f x) 0 1 (omega arith) (omega arith)

tri-checked : (f : Format) (v : Differences) (k : Dots) → InfoFits (Tri.check_edges f v k)
unfolding Tri.check_edges
tri-checked f v k =
    let n = cross_v f v.ab v.ac in
    let vc = dot_v f n (cross_v f v.ab v.ap) in
    let vb = Ieee.neg (dot_v f n (cross_v f v.ac v.cp)) in
    let va = dot_v f n (cross_v f v.bc v.bp) in
    either InfoFits (lt vc zero_f && le zero_f k.ab_ap && le k.ab_bp zero_f) _ _ InfoFits.on-ab
    (either InfoFits (lt vb zero_f && le zero_f k.ac_ap && le k.ac_cp zero_f) _ _ InfoFits.on-ac
    (either InfoFits (lt va zero_f && le zero_f (◌⊖◌ f k.ac_bp k.ab_bp) && le zero_f (◌⊖◌ f k.ab_cp k.ac_cp)) _ _ InfoFits.on-bc
    (InfoFits.face _ _ _ _ (tri-side (dot_v f n v.ap)))))

tri-face : (f : Format) (pt a ab ac : Vec3) (side : ℕ) (va vb vc : Float) → side ≤ 1 → TriangleHas (Tri.on_face f pt a ab ac side va vb vc).location
unfolding Tri.on_face
tri-face f pt a ab ac side va vb vc h =
    either (λ (p : TriangleProjection). TriangleHas p.location) (ne (◌⊕◌ f (◌⊕◌ f va vb) vc) zero_f) _ (record { point = pt; location = OfTriangle.OnSolid })
    (TriangleHas.face side _ _ _ h) TriangleHas.solid

tri-located : (f : Format) (t : Triangle) (pt : Vec3) (v : Differences) (k : Dots) (x : ProjectionInfo) → InfoFits x → TriangleHas (Tri.located f t pt v k x).location
unfolding Tri.located Tri.on_edge
tri-located f t pt v k _ InfoFits.on-ab = TriangleHas.edge 0 _ _ (omega arith)
tri-located f t pt v k _ InfoFits.on-ac = TriangleHas.edge 2 _ _ (omega arith)
tri-located f t pt v k _ InfoFits.on-bc = TriangleHas.edge 1 _ _ (omega arith)
tri-located f t pt v k _ (InfoFits.face i x y z h) = tri-face f pt t.a v.ab v.ac i x y z h

tri-else : (m : Option TriangleProjection) (p : TriangleProjection) → TriFits m → TriangleHas p.location → TriangleHas (Tri.or_else m p).location
unfolding Tri.or_else
tri-else _ p (TriFits.some q h) k = h
tri-else _ p TriFits.none k = k

pub triangle-fits : (f : Format) (t : Triangle) (pt : Vec3) → TriangleHas (Tri.project_triangle f t pt).location
unfolding Tri.project_triangle
triangle-fits f t pt =
    let v = Tri.differences f t pt in
    let k = Tri.dots f v in
    tri-else (Tri.vertex_region t k) (Tri.located f t pt v k (Tri.check_edges f v k)) (tri-region t k) (tri-located f t pt v k _ (tri-checked f v k))
