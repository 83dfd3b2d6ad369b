-- Support points: the point of a shape farthest along a direction, with ties and NaN as the Rust has them. Definitions only.
-- Carries `SupportMap` of src/shape/ball.rs, cuboid.rs and capsule.rs, and `CsoPoint::from_shapes` and `from_shapes_toward` of src/query/gjk/cso_point.rs.
-- The trait's defaults and the triangle's rule are not published with the crate's text: docs/DECISIONS.md says what stands in for them.
use Rattle.std.specs.Prelude.{cond, Float}
use Rattle.std.specs.Float.{Format}
use Rattle.number.specs.Small.{gt, copy_sign}
use Rattle.vector.specs.declared.vec3.Vec3.{Vec3}
use Rattle.vector.specs.declared.pose.Pose.{Pose}
use Rattle.vector.specs.Vector.{vec3, y_v, neg_v, add_v, scale_v, dot_v, normalize_v, normalize_or_v}
use Rattle.vector.specs.Pose.{transform_point, inverse_transform_vector}
use Rattle.shape.specs.declared.support.Shape.{Shape}
use Rattle.shape.specs.declared.support.Shape.TheVariants.{Ball, Cuboid, Capsule, Triangle}
use Rattle.shape.specs.declared.vertex.Vertex.{Vertex}
use Rattle.shape.specs.Vertex.{new_vertex}

-- `Cuboid::local_support_point`: `dir.copy_sign_to(half_extents)`. A NaN's sign counts as positive.
unfoldable pub cuboid_local : Vec3 → Vec3 → Vec3
cuboid_local h d = vec3 (copy_sign h.x d.x) (copy_sign h.y d.y) (copy_sign h.z d.z)

-- a ball, by its radius, has a rule of its own in a pose; the other shapes keep the trait's default
unfoldable pub ball_or : Shape → (Float → Vec3) → Vec3 → Vec3
ball_or (Ball r) own default = own r
ball_or (Cuboid x y z) own default = default
ball_or (Capsule ax ay az bx by bz r) own default = default
ball_or (Triangle ax ay az bx by bz cx cy cz) own default = default

module _ (f : Format) where
  -- `Ball::support_point_toward`
  unfoldable pub ball_toward : Pose → Float → Vec3 → Vec3
  ball_toward m r d = add_v f m.translation (scale_v f d r)

  -- `Capsule::local_support_point_toward`
  unfoldable pub capsule_toward : Vec3 → Vec3 → Float → Vec3 → Vec3
  capsule_toward a b r d = cond (gt (dot_v f d a) (dot_v f d b)) (add_v f a (scale_v f d r)) (add_v f b (scale_v f d r))

  -- `Triangle::local_support_point`
  unfoldable pub triangle_local : Vec3 → Vec3 → Vec3 → Vec3 → Vec3
  triangle_local a b c d =
      let d1 = dot_v f a d in
      let d2 = dot_v f b d in
      let d3 = dot_v f c d in
      cond (gt d1 d2) (cond (gt d1 d3) a c) (cond (gt d2 d3) b c)

  -- `SupportMap::local_support_point_toward`: a direction that the caller takes for a unit vector
  unfoldable pub local_support_point_toward : Shape → Vec3 → Vec3
  local_support_point_toward (Ball r) d = scale_v f d r
  local_support_point_toward (Cuboid x y z) d = cuboid_local (vec3 x y z) d
  local_support_point_toward (Capsule ax ay az bx by bz r) d = capsule_toward (vec3 ax ay az) (vec3 bx by bz) r d
  local_support_point_toward (Triangle ax ay az bx by bz cx cy cz) d = triangle_local (vec3 ax ay az) (vec3 bx by bz) (vec3 cx cy cz) d

  -- what the shape makes of a direction before it looks for the point: a ball normalizes it with no test, a capsule with Y to fall back on
  unfoldable pub unit_for : Shape → Vec3 → Vec3
  unit_for (Ball r) d = normalize_v f d
  unit_for (Cuboid x y z) d = d
  unit_for (Capsule ax ay az bx by bz r) d = normalize_or_v f d y_v
  unit_for (Triangle ax ay az bx by bz cx cy cz) d = d

  -- `SupportMap::local_support_point`
  unfoldable pub local_support_point : Shape → Vec3 → Vec3
  local_support_point g d = local_support_point_toward g (unit_for g d)

  -- the trait's default for a shape in a pose, over the shape's local answer
  unfoldable pub in_pose : (Vec3 → Vec3) → Pose → Vec3 → Vec3
  in_pose answer m d = transform_point f m (answer (inverse_transform_vector f m d))

  -- `SupportMap::support_point`
  unfoldable pub support_point : Shape → Pose → Vec3 → Vec3
  support_point g m d = ball_or g (λ r. ball_toward m r (normalize_v f d)) (in_pose (local_support_point g) m d)

  -- `SupportMap::support_point_toward`
  unfoldable pub support_point_toward : Shape → Pose → Vec3 → Vec3
  support_point_toward g m d = ball_or g (λ r. ball_toward m r d) (in_pose (local_support_point_toward g) m d)

  -- `CsoPoint::from_shapes`
  unfoldable pub from_shapes : Pose → Shape → Shape → Vec3 → Vertex
  from_shapes pos12 g1 g2 d = new_vertex f (local_support_point g1 d) (support_point g2 pos12 (neg_v d))

  -- `CsoPoint::from_shapes_toward`
  unfoldable pub from_shapes_toward : Pose → Shape → Shape → Vec3 → Vertex
  from_shapes_toward pos12 g1 g2 d = new_vertex f (local_support_point_toward g1 d) (support_point_toward g2 pos12 (neg_v d))
