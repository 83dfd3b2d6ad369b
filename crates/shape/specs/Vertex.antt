-- Vertices: points of the difference of two shapes, each with the two points it came from. Definitions only.
-- Carries `CsoPoint` of src/query/gjk/cso_point.rs, but for `from_shapes` and `from_shapes_toward`, which are in Support.antt; `translate_mut` is `translate`, by value.
use Rattle.std.specs.Float.{Format}
use Rattle.vector.specs.declared.vec3.Vec3.{Vec3}
use Rattle.vector.specs.Vector.{zero_v, add_v, sub_v}
use Rattle.shape.specs.declared.vertex.Vertex.{Vertex}

-- `CsoPoint::new_with_point`
unfoldable pub vertex_with_point : Vec3 → Vec3 → Vec3 → Vertex
vertex_with_point p o1 o2 = record { point = p; orig1 = o1; orig2 = o2 }

-- `CsoPoint::ZERO`
unfoldable pub zero_vertex : Vertex
zero_vertex = vertex_with_point zero_v zero_v zero_v

-- `CsoPoint::single_point`
unfoldable pub single_point : Vec3 → Vertex
single_point p = vertex_with_point p p zero_v

module _ (f : Format) where
  -- `CsoPoint::new`
  unfoldable pub new_vertex : Vec3 → Vec3 → Vertex
  new_vertex o1 o2 = vertex_with_point (sub_v f o1 o2) o1 o2

  -- `CsoPoint::origin`
  unfoldable pub origin_vertex : Vertex
  origin_vertex = new_vertex zero_v zero_v

  -- `CsoPoint::translate`
  unfoldable pub translate_vertex : Vertex → Vec3 → Vertex
  translate_vertex v d = vertex_with_point (add_v f v.point d) v.orig1 v.orig2

  -- `v - w`
  unfoldable pub sub_vertex : Vertex → Vertex → Vec3
  sub_vertex v w = sub_v f v.point w.point
