-- A record's reason and the letter that its line in `separation` has are of one run: the letter goes with the reason (`letters-agree`), and the lists are left alike (`lists_agree`). Any format.
-- Assumes nothing.
use Prim.Native.Nat.{ℕ}
use mathlib.Core.Path.{◌≡◌, refl, ap, ◌∙◌}
use mathlib.Core.Bool.{Bool}
use native.Mathlib.Omega.{arith}
use lib.Ieee.{Float, Format}
use Rattle.vector.specs.declared.vec3.Vec3.{Vec3}
use Rattle.vector.specs.declared.pose.Pose.{Pose}
use Rattle.shape.specs.declared.support.Shape.{Shape}
use Rattle.gjk.specs.declared.rounds.GJKResult.{GJKResult}
use Rattle.gjk.specs.declared.rounds.GJKResult.TheVariants.{Intersection, ClosestPoints, Proximity, NoIntersection}
use Rattle.epa_polytope.specs.Stores.{Lists}
use Rattle.epa_polytope.specs.declared.types.End.{End}
use Rattle.epa_polytope.specs.declared.types.Found.TheVariants as Found
use Rattle.epa_polytope.specs.declared.types.Lost.TheVariants as Lost
use Rattle.epa_polytope.specs.declared.types.Walk.TheVariants.{Plain as plain}
use Rattle.epa.specs.declared.types.Answer.{Answer}
use Rattle.epa.specs.Final.{Final, final, answered, penetration}
use Rattle.counts.specs.declared.Counts.{Counts}
use Rattle.lines.specs.declared.line.Outcome.{Outcome}
use Rattle.lines.specs.Lines.{letter_of}
use Rattle.outcome.specs.Outcome.{ended_as, outcome_of}
use Rattle.channel.specs.Channel as Channel
use Rattle.reason.specs.declared.reasons.Reason.{Reason}
use Rattle.reason.specs.declared.reasons.Reason.TheVariants as Why
use Rattle.std.specs.Prelude.{Option, Some, None, Result, Ok, Err}
use Rattle.refusal.specs.declared.WouldPanic.{WouldPanic}
use Rattle.reason.specs.Reasons.{reason_of}
use Rattle.reason.specs.Turns.{because, by_result, reason_for}

-- X, R, P and N
abbrev pub letter_for : Reason → ℕ
letter_for Why.PanicSite = 88
letter_for Why.NoRoom = 82
letter_for Why.Converged = 80
letter_for Why.Stuck = 80
letter_for Why.NearerFace = 80
letter_for Why.EnoughExpansions = 80
letter_for Why.HeapEmpty = 80
letter_for Why.DegenerateStart = 80
letter_for Why.KeyAtStart = 78
letter_for Why.NoneHolds = 78
letter_for Why.NoSilhouette = 78
letter_for Why.AllDeleted = 78
letter_for Why.KeyLater = 78

of_end : (e : End) (c : Counts) → letter_of (ended_as e c) ≡ letter_for (reason_of e)
of_end (End.Answers Found.SinglePoint p1 p2 n) c = refl
of_end (End.Answers Found.Converged p1 p2 n) c = refl
of_end (End.Answers Found.Stuck p1 p2 n) c = refl
of_end (End.Answers Found.NewFaceNearer p1 p2 n) c = refl
of_end (End.Answers Found.EnoughExpansions p1 p2 n) c = refl
of_end (End.Answers Found.HeapEmpty p1 p2 n) c = refl
of_end (End.Nothing Lost.KeyAtStart) c = refl
of_end (End.Nothing Lost.NoneHolds) c = refl
of_end (End.Nothing Lost.NoSilhouette) c = refl
of_end (End.Nothing Lost.AllDeleted) c = refl
of_end (End.Nothing Lost.KeyLater) c = refl
of_end (End.Panics site) c = refl
of_end (End.NoRoom store) c = refl

of-run : (x : Answer) → letter_of (outcome_of x) ≡ letter_for (reason_of x.end)
unfolding outcome_of
of-run x = of_end x.end x.counts

-- by GJK's result

abbrev letter_in : Option Reason → ℕ
letter_in (Some r) = letter_for r
letter_in None = 0

abbrev some : Option Reason → ℕ
some (Some r) = 1
some None = 0

not-both : (r : Reason) → None ≡ Some r → ⊥
not-both r e = let z : ◌≡◌ {A = ℕ} 0 1 = ap some e in omega arith

of-result : (q : Result GJKResult WouldPanic) (run : Final Answer) (l : Lists) (r : Reason) → (by_result q (answered because run) (final None l)).answer ≡ Some r
    → letter_of (Channel.by_result q (answered outcome_of run) (λ (o : Outcome). final o l)).answer ≡ letter_for r
of-result (Ok Intersection) run l r e = of-run run.answer ∙ ap letter_in e
of-result (Ok (ClosestPoints a b d)) run l r e = absurd (not-both r e)
of-result (Ok (Proximity d)) run l r e = absurd (not-both r e)
of-result (Ok (NoIntersection d)) run l r e = absurd (not-both r e)
of-result (Err x) run l r e = absurd (not-both r e)

same_lists : (q : Result GJKResult WouldPanic) (run : Final Answer) (l : Lists)
    → (by_result q (answered because run) (final None l)).lists ≡ (Channel.by_result q (answered outcome_of run) (λ (o : Outcome). final o l)).lists
same_lists (Ok Intersection) run l = refl
same_lists (Ok (ClosestPoints a b d)) run l = refl
same_lists (Ok (Proximity d)) run l = refl
same_lists (Ok (NoIntersection d)) run l = refl
same_lists (Err x) run l = refl

module _ (f : Format) (m : Pose) (g1 g2 : Shape) (dir : Vec3) (max_dist : Float) (exact : Bool) (l : Lists) where
  pub letters-agree : (r : Reason) → (reason_for f m g1 g2 dir max_dist exact l).answer ≡ Some r → letter_of (Channel.separated f m g1 g2 dir max_dist exact l).answer ≡ letter_for r
  unfolding reason_for Channel.separated
  letters-agree r e =
      let g = Channel.distance f m g1 g2 dir max_dist exact in
      of-result g.result (penetration plain f m g1 g2 g.simplex l) l r e

  pub lists_agree : (reason_for f m g1 g2 dir max_dist exact l).lists ≡ (Channel.separated f m g1 g2 dir max_dist exact l).lists
  unfolding reason_for Channel.separated
  lists_agree =
      let g = Channel.distance f m g1 g2 dir max_dist exact in
      same_lists g.result (penetration plain f m g1 g2 g.simplex l) l
