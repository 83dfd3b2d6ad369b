-- The channel's run for a caller in another language: its answer as a record, and the lists that it leaves. Any format. Definitions only.
use Rattle.std.specs.Prelude.{◌≡◌, Bool, Float, Option, Some, None}
use Rattle.std.specs.Float.{Format}
use Rattle.vector.specs.declared.vec3.Vec3.{Vec3}
use Rattle.vector.specs.declared.pose.Pose.{Pose}
use Rattle.epa_polytope.specs.Stores.{Lists}
use Rattle.epa.specs.Final.{Final, final, answered}
use Rattle.channel.specs.Channel.{separated}
use Rattle.vote.specs.declared.Answer.{Answer}
use Rattle.shape.specs.declared.support.Shape.{Shape}
use Rattle.answers.specs.Answers.{answer_of, malformed, number_of}

-- the channel's answer, or the malformed one with the lists as they were lent
abbrev pub ran : Format → Pose → Option Shape → Option Shape → Vec3 → Float → Bool → Lists → Final Answer
ran f m (Some g1) (Some g2) dir max_dist exact l = answered answer_of (separated f m g1 g2 dir max_dist exact l)
ran f m (Some g1) None dir max_dist exact l = final malformed l
ran f m None x dir max_dist exact l = final malformed l

-- an answer that is not refused for room, refusal 3
abbrev pub HadRoom : Answer → Type 0
HadRoom x = number_of x.outcome ≡ 3 → ⊥
