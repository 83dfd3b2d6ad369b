-- A caller in another language finds what one in Rattle finds: on two shapes `separation_run` answers what `channel_lent::separate` does, told as a record, and leaves the same
-- lists (`same-channel`). By the definitions. Any format. Assumes nothing.
use mathlib.Core.Path.{◌≡◌, refl}
use mathlib.Core.Bool.{Bool}
use lib.Ieee.{Float, Format}
use Rattle.vector.specs.declared.vec3.Vec3.{Vec3}
use Rattle.vector.specs.declared.pose.Pose.{Pose}
use Rattle.shape.specs.declared.support.Shape.{Shape}
use Rattle.epa_polytope.specs.Stores.{Lists}
use Rattle.epa.specs.Final.{answered}
use Rattle.epa_lent.specs.Lent.{on_first}
use Rattle.channel.specs.Channel.{separated}
use Rattle.std.specs.Prelude.{Some}
use Rattle.answers.specs.Answers.{answer_of}
use Rattle.embedding.specs.Embedding.{ran}

pub same-channel : (f : Format) (m : Pose) (g1 g2 : Shape) (dir : Vec3) (max_dist : Float) (exact : Bool) (l : Lists)
    → on_first (ran f m (Some g1) (Some g2) dir max_dist exact) l ≡ answered answer_of (on_first (separated f m g1 g2 dir max_dist exact) l)
same-channel f m g1 g2 dir max_dist exact l = refl
