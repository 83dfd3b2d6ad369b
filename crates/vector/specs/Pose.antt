-- Rotations and poses, of any format f, each operation in the order of the Rust's vector library, one rounding each. Definitions only.
-- Carries glamx's `Rot3` and `Pose3` in their scalar form. Their text is not published with the crate's: docs/DECISIONS.md says what stands in for it.
use Rattle.std.specs.Float.Ieee as Ieee
use Rattle.std.specs.Float.{Format}
use Rattle.vector.specs.declared.vec3.Vec3.{Vec3}
use Rattle.vector.specs.declared.pose.Rotation.{Rotation}
use Rattle.vector.specs.declared.pose.Pose.{Pose}
use Rattle.vector.specs.Vector.{two_f, vec3, add_v, scale_v, dot_v, cross_v, ◌⊖◌, ◌⊗◌}

-- `q.inverse()`
unfoldable pub inverse_r : Rotation → Rotation
inverse_r q = record { x = Ieee.neg q.x; y = Ieee.neg q.y; z = Ieee.neg q.z; w = q.w }

-- the vector part of a quaternion
unfoldable pub axis_r : Rotation → Vec3
axis_r q = vec3 q.x q.y q.z

module _ (f : Format) where
  -- `q * v`, with b for the vector part: (v * (w*w - b·b) + b * ((v·b) * 2)) + (b × v) * (w * 2)
  unfoldable pub rotate_v : Rotation → Vec3 → Vec3
  rotate_v q v =
      let b = axis_r q in
      add_v f
      (add_v f (scale_v f v (◌⊖◌ f (◌⊗◌ f q.w q.w) (dot_v f b b))) (scale_v f b (◌⊗◌ f (dot_v f v b) two_f)))
      (scale_v f (cross_v f b v) (◌⊗◌ f q.w two_f))

  -- `pose * point`
  unfoldable pub transform_point : Pose → Vec3 → Vec3
  transform_point m p = add_v f (rotate_v m.rotation p) m.translation

  -- the inverse pose on a direction
  unfoldable pub inverse_transform_vector : Pose → Vec3 → Vec3
  inverse_transform_vector m d = rotate_v (inverse_r m.rotation) d
