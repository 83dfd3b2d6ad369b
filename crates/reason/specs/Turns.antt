-- Why the run of a record ended, and one turn of the program that says it (document 02, ticket 5). Any format. Definitions only.
use Rattle.std.specs.Prelude.{List, Bool, ℕ, Float, Option, Some, None, Result, Ok, Err}
use Rattle.std.specs.Float.{Format}
use Rattle.refusal.specs.declared.WouldPanic.{WouldPanic}
use Rattle.vector.specs.declared.vec3.Vec3.{Vec3}
use Rattle.vector.specs.declared.pose.Pose.{Pose}
use Rattle.shape.specs.declared.support.Shape.{Shape}
use Rattle.gjk.specs.declared.rounds.GJKResult.{GJKResult}
use Rattle.gjk.specs.declared.rounds.Gjk.{Gjk}
use Rattle.epa_polytope.specs.Stores.{Lists}
use Rattle.epa_polytope.specs.declared.types.Walk.TheVariants.{Plain as plain}
use Rattle.epa.specs.declared.types.Answer.{Answer}
use Rattle.epa.specs.Final.{Final, final, answered, penetration}
use Rattle.casefile.specs.declared.records.Case.{Case}
use Rattle.channel.specs.Channel.{distance}
use Rattle.stream.specs.Reading.{Told, Answering, turn_with}
use Rattle.reason.specs.declared.reasons.Reason.{Reason}
use Rattle.reason.specs.Reasons.{reason_of}
use Rattle.reason.specs.Words.{reason_placed}

abbrev pub because : Answer → Option Reason
because x = Some (reason_of x.end)

-- by GJK's result: where the shapes meet, the reason of the polytope's run; elsewhere none, and the lists are kept
abbrev pub by_result : Result GJKResult WouldPanic → Final (Option Reason) → Final (Option Reason) → Final (Option Reason)
by_result (Ok GJKResult.Intersection) meeting kept = meeting
by_result (Ok (GJKResult.ClosestPoints p1 p2 d)) meeting kept = kept
by_result (Ok (GJKResult.Proximity d)) meeting kept = kept
by_result (Ok (GJKResult.NoIntersection d)) meeting kept = kept
by_result (Err e) meeting kept = kept

-- the polytope's run starts from the simplex that GJK left
abbrev pub reason_by : Format → Gjk → Pose → Shape → Shape → Lists → Final (Option Reason)
reason_by f g m g1 g2 l = by_result g.result (answered because (penetration plain f m g1 g2 g.simplex l)) (final None l)

-- from two shapes, a start direction, the largest distance, the exact flag, and lent lists: the channel's own run
unfoldable pub reason_for : Format → Pose → Shape → Shape → Vec3 → Float → Bool → Lists → Final (Option Reason)
reason_for f m g1 g2 dir max_dist exact l = reason_by f (distance f m g1 g2 dir max_dist exact) m g1 g2 l

-- ---- a turn

abbrev pub case_reason : Format → Case → Lists → Final (Option Reason)
case_reason f c l = reason_for f c.pos12 c.g1 c.g2 c.dir c.max_dist c.exact l

-- a record's line, if it has one
abbrev pub line_for : Format → ℕ → ℕ → Answering
line_for f number place o c l = answered (reason_placed o place number) (case_reason f c l)

-- the window's bytes, the record's place in them, where the window stands in the file, the record's number, and the output from a place on
unfoldable pub reason_turn : Format → List ℕ → ℕ → ℕ → ℕ → List ℕ → ℕ → Lists → Final Told
reason_turn f s at base number o place l = turn_with (line_for f number place) f s at base number o place l
