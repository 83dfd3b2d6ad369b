-- DEMAND 3 and the agreement of the channel over records: lent 105 vertices, 10,710 faces, 206 records and 10,710 heap entries it is never refused for room; it answers what the channel over all the
-- records' numbers answers; and two channels over records that are not refused for room answer the same. Any format. Assumes nothing.
use mathlib.Core.Path.{◌≡◌}
use mathlib.Core.Bool.{Bool}
use lib.Ieee.{Float, Format}
use Rattle.vector.specs.declared.vec3.Vec3.{Vec3}
use Rattle.vector.specs.declared.pose.Pose.{Pose}
use Rattle.shape.specs.declared.support.Shape.{Shape}
use Rattle.epa_polytope.specs.Stores.{Lists}
use Rattle.epa_polytope.specs.Bounds.{Ample}
use Rattle.epa_lent.specs.Lent.{first_edges, on_first}
use Rattle.epa_lent.proofs.Ample.{ample-first, first-suffice}
use Rattle.channel.specs.Channel.{separated, HadRoom}
use Rattle.channel.proofs.Ample.{ample-separated}
use Rattle.channel.proofs.Agreement.{channels-agree, channels-same}

module _ (f : Format) (m : Pose) (g1 g2 : Shape) (dir : Vec3) (max_dist : Float) (exact : Bool) (l : Lists) where
  -- NEVER R, with room that suffices
  pub ample-separated_records : Ample l → HadRoom (on_first (separated f m g1 g2 dir max_dist exact) l).answer
  ample-separated_records room = ample-separated f m g1 g2 dir max_dist exact (first_edges l) (ample-first l room)

  -- THE CHANNEL OVER RECORDS ANSWERS what it does over all their numbers
  pub records-answer : (on_first (separated f m g1 g2 dir max_dist exact) l).answer ≡ (separated f m g1 g2 dir max_dist exact l).answer
  records-answer = channels-same f m g1 g2 dir max_dist exact (first_edges l) l (first-suffice l)

-- CHANNELS OVER RECORDS AGREE, neither refused for room
pub records-agree : (f : Format) (m : Pose) (g1 g2 : Shape) (dir : Vec3) (max_dist : Float) (exact : Bool) (l k : Lists)
    → HadRoom (on_first (separated f m g1 g2 dir max_dist exact) l).answer → HadRoom (on_first (separated f m g1 g2 dir max_dist exact) k).answer
    → (on_first (separated f m g1 g2 dir max_dist exact) l).answer ≡ (on_first (separated f m g1 g2 dir max_dist exact) k).answer
records-agree f m g1 g2 dir max_dist exact l k = channels-agree f m g1 g2 dir max_dist exact (first_edges l) (first_edges k)
