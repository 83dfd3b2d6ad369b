-- The projection of a point on a segment, of any format f: `point_segment.rs`, with the tests in its order, one rounding each. Definitions only.
-- That text is not published with the crate's: docs/DECISIONS.md says what stands in for it.
use Rattle.std.specs.Prelude.{ℕ, cond, Float, Result, Ok, Err}
use Rattle.std.specs.Float.{Format}
use Rattle.std.specs.Float.Ieee.{le, eq}
use Rattle.number.specs.Small.{ge}
use Rattle.vector.specs.declared.vec3.Vec3.{Vec3}
use Rattle.vector.specs.Vector.{zero_f, one_f, zero_v, add_v, sub_v, scale_v, dot_v, length_squared_v, ◌⊖◌, ◌⊘◌}
use Rattle.projection.specs.Values.{Values}
use Rattle.projection.specs.declared.segment.Segment.{Segment}
use Rattle.projection.specs.declared.segment.SegmentPointLocation.{SegmentPointLocation}
use Rattle.projection.specs.declared.segment.SegmentPointLocation.TheVariants.{OnVertex, OnEdge}
use Rattle.projection.specs.declared.point_query.Projection.{Projection}
use Rattle.refusal.specs.declared.WouldPanic.{WouldPanic}
use Rattle.refusal.specs.Refusal.{would_panic, number_or_panic}

-- a point of a segment, and where on it the point lies
abbrev pub SegmentProjection : Type 0
SegmentProjection = Projection SegmentPointLocation

-- the corner i
abbrev pub on_vertex : ℕ → Vec3 → SegmentProjection
on_vertex i corner = record { point = corner; location = OnVertex i }

-- a + ab * u, with the weights of a and b
unfoldable pub on_edge : Format → Vec3 → Vec3 → Float → SegmentProjection
on_edge f a ab u = record { point = add_v f a (scale_v f ab u); location = OnEdge (◌⊖◌ f one_f u) u }

-- `project_local_point_and_get_location`. It refuses where the Rust asserts that n differs from 0, which is reached only when t is a NaN.
unfoldable pub project_segment : Format → Segment → Vec3 → Result SegmentProjection WouldPanic
project_segment f s pt =
    let ab = sub_v f s.b s.a in
    let ap = sub_v f pt s.a in
    let t = dot_v f ab ap in
    let n = length_squared_v f ab in
    cond (le t zero_f) (Ok (on_vertex 0 s.a))
    (cond (ge t n) (Ok (on_vertex 1 s.b))
    (cond (eq n zero_f) (Err would_panic) (Ok (on_edge f s.a ab (◌⊘◌ f t n)))))

-- ---- document 01's number of a projection, 0 or refusal 2, and its values: point and location, and zeros for the refusal, the corner 0 being the location of zeros
unfoldable pub segment_number : Result SegmentProjection WouldPanic → ℕ
segment_number r = number_or_panic r

unfoldable pub segment_values : Result SegmentProjection WouldPanic → Values SegmentPointLocation
segment_values (Ok p) = record { point = p.point; location = p.location }
segment_values (Err e) = record { point = zero_v; location = OnVertex 0 }
