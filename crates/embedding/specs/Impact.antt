-- The cast for a caller in another language: its answer as a record. Any format. Definitions only.
use Rattle.std.specs.Prelude.{ℕ, Float, Option, Some, None}
use Rattle.std.specs.Float.{Format}
use Rattle.vector.specs.declared.vec3.Vec3.{Vec3}
use Rattle.vector.specs.declared.pose.Pose.{Pose}
use Rattle.vector.specs.Vector.{zero_f, zero_v}
use Rattle.shape.specs.Support.{from_shapes}
use Rattle.cast.specs.declared.ray.Ray.{Ray}
use Rattle.cast.specs.Cast.{Cast, cast_number, cast_values, minkowski_ray_cast}
use Rattle.shape.specs.declared.support.Shape.{Shape}
use Rattle.embedding.specs.declared.impact.CastRecord.{CastRecord}

abbrev pub record_of : ℕ → Float → Vec3 → CastRecord
record_of number time dir = record { number = number; time = time; dir = dir }

-- the number and the values of the answer
unfoldable pub cast_record : Cast → CastRecord
cast_record c = record_of (cast_number c) (cast_values c).time (cast_values c).dir

-- a kind above 3: refusal 4
unfoldable pub malformed_cast : CastRecord
malformed_cast = record_of 4 zero_f zero_v

abbrev pub cast_between : Format → Pose → Option Shape → Option Shape → Ray → Float → CastRecord
cast_between f m (Some g1) (Some g2) ray max_time = cast_record (minkowski_ray_cast f (from_shapes f m g1 g2) ray max_time)
cast_between f m (Some g1) None ray max_time = malformed_cast
cast_between f m None x ray max_time = malformed_cast
