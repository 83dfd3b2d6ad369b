-- Document 01's number of the channel's outcome is the number of GJK's result, or where the shapes meet, of the end of the polytope's run (`numbers-agree`): X is printed only for refusal 2,
-- N for 1 and R for 3. By the cases of each. Assumes nothing.
use mathlib.Core.Path.{◌≡◌, refl}
use mathlib.Core.Bool.{Bool}
use Prim.Native.Nat.{ℕ}
use lib.Ieee.{Float, Format}
use Rattle.std.specs.Prelude.{Result, Ok, Err}
use Rattle.refusal.specs.declared.WouldPanic.{WouldPanic}
use Rattle.vector.specs.declared.vec3.Vec3.{Vec3}
use Rattle.vector.specs.declared.pose.Pose.{Pose}
use Rattle.shape.specs.declared.support.Shape.{Shape}
use Rattle.gjk.specs.declared.rounds.GJKResult.{GJKResult}
use Rattle.gjk.specs.declared.rounds.GJKResult.TheVariants.{Intersection, ClosestPoints, Proximity, NoIntersection}
use Rattle.gjk.specs.Gjk.{gjk_number}
use Rattle.epa_polytope.specs.Stores.{Lists}
use Rattle.epa_polytope.specs.Steps.{refusal}
use Rattle.epa_polytope.specs.declared.types.End.{End}
use Rattle.epa_polytope.specs.declared.types.End.TheVariants.{Answers, Nothing, Panics, NoRoom}
use Rattle.epa_polytope.specs.declared.types.Walk.TheVariants.{Plain as plain}
use Rattle.epa.specs.declared.types.Answer.{Answer}
use Rattle.epa.specs.Final.{Final, final, answered, penetration}
use Rattle.counts.specs.declared.Counts.{Counts}
use Rattle.lines.specs.declared.line.Outcome.{Outcome}
use Rattle.lines.specs.Lines.{outcome_number}
use Rattle.outcome.specs.Outcome.{ended_as, outcome_of}
use Rattle.channel.specs.Channel.{distance, by_result, separated}

-- the number of a run of GJK, and of the polytope's where it is one
abbrev pub number_by : Result GJKResult WouldPanic → End → ℕ
number_by (Ok Intersection) e = refusal e
number_by (Ok (ClosestPoints p1 p2 d)) e = gjk_number (Ok (ClosestPoints p1 p2 d))
number_by (Ok (Proximity d)) e = gjk_number (Ok (Proximity d))
number_by (Ok (NoIntersection d)) e = gjk_number (Ok (NoIntersection d))
number_by (Err r) e = gjk_number (Err r)

of_end : (e : End) (c : Counts) → outcome_number (ended_as e c) ≡ refusal e
unfolding refusal
of_end (Answers why p1 p2 n) c = refl
of_end (Nothing why) c = refl
of_end (Panics site) c = refl
of_end (NoRoom store) c = refl

of-answer : (x : Answer) → outcome_number (outcome_of x) ≡ refusal x.end
unfolding outcome_of
of-answer x = of_end x.end x.counts

of-result : (q : Result GJKResult WouldPanic) (x : Answer) (run : Final Answer) → run.answer ≡ x → (kept : Outcome → Final Outcome) → ((o : Outcome) → (kept o).answer ≡ o)
    → outcome_number (by_result q (answered outcome_of run) kept).answer ≡ number_by q x.end
unfolding gjk_number
of-result (Ok Intersection) x run is kept k = rw is (of-answer x)
of-result (Ok (ClosestPoints p1 p2 d)) x run is kept k = rw (k _) refl
of-result (Ok (Proximity d)) x run is kept k = rw (k _) refl
of-result (Ok (NoIntersection d)) x run is kept k = rw (k _) refl
of-result (Err r) x run is kept k = rw (k _) refl

pub numbers-agree : (f : Format) (m : Pose) (g1 g2 : Shape) (dir : Vec3) (max_dist : Float) (exact : Bool) (l : Lists)
    → outcome_number (separated f m g1 g2 dir max_dist exact l).answer
    ≡ number_by (distance f m g1 g2 dir max_dist exact).result (penetration plain f m g1 g2 (distance f m g1 g2 dir max_dist exact).simplex l).answer.end
unfolding separated
numbers-agree f m g1 g2 dir max_dist exact l =
    let g = distance f m g1 g2 dir max_dist exact in
    of-result g.result _ (penetration plain f m g1 g2 g.simplex l) refl (λ o. final o l) (λ o. refl)
