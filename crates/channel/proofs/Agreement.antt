-- CHANNELS AGREE: on the same shapes, pose, direction, distance and flag, over stores of any lengths and any former content, two channels that are not refused for room answer the same, floats and
-- counts. GJK reads no store, and the polytope's answers agree. Any format. Assumes nothing.
use mathlib.Core.Path.{◌≡◌, refl, ap, sym, ◌∙◌}
use mathlib.Core.Bool.{Bool}
use lib.Ieee.{Float, Format}
use Rattle.std.specs.Prelude.{Result, Ok, Err}
use Rattle.refusal.specs.declared.WouldPanic.{WouldPanic}
use Rattle.vector.specs.declared.vec3.Vec3.{Vec3}
use Rattle.vector.specs.declared.pose.Pose.{Pose}
use Rattle.shape.specs.declared.support.Shape.{Shape}
use Rattle.gjk.specs.declared.rounds.GJKResult.{GJKResult}
use Rattle.gjk.specs.declared.rounds.GJKResult.TheVariants.{Intersection, ClosestPoints, Proximity, NoIntersection}
use Rattle.epa_polytope.specs.Stores.{Lists}
use Rattle.epa_polytope.specs.Same.{Equivalent}
use Rattle.epa_polytope.specs.declared.types.Store.{Store}
use Rattle.epa_polytope.specs.declared.types.End.{End}
use Rattle.epa_polytope.specs.declared.types.Walk.TheVariants.{Plain as plain}
use Rattle.epa.specs.declared.types.Answer as Epa
use Rattle.epa.specs.Final.{Final, answered, penetration}
use Rattle.epa.specs.Final as Runs
use Rattle.epa.proofs.Agreement.{penetrations-agree, penetrations-same}
use Rattle.lines.specs.declared.line.Outcome.{Outcome}
use Rattle.outcome.specs.Outcome.{ended_as, outcome_of}
use Rattle.channel.specs.Channel.{distance, by_result, separated, HadRoom}

-- what is placed by its letter is placed by its end
placed-run : (x : Epa.Answer) → HadRoom (outcome_of x) → Runs.HadRoom x
unfolding outcome_of
placed-run x p y e = p x.counts (ap (λ (z : End). ended_as z x.counts) e)

-- one answer of the polytope is one outcome, whatever GJK's result
same-result : (q : Result GJKResult WouldPanic) (a b : Final Epa.Answer) (kept_a kept_b : Outcome → Final Outcome) → ((o : Outcome) → (kept_a o).answer ≡ o) → ((o : Outcome) → (kept_b o).answer ≡ o)
    → (q ≡ Ok Intersection → a.answer ≡ b.answer) → (by_result q (answered outcome_of a) kept_a).answer ≡ (by_result q (answered outcome_of b) kept_b).answer
same-result (Ok Intersection) a b k_a k_b e_a e_b same = ap outcome_of (same refl)
same-result (Ok (ClosestPoints p1 p2 d)) a b k_a k_b e_a e_b same = e_a _ ∙ sym (e_b _)
same-result (Ok (Proximity d)) a b k_a k_b e_a e_b same = e_a _ ∙ sym (e_b _)
same-result (Ok (NoIntersection d)) a b k_a k_b e_a e_b same = e_a _ ∙ sym (e_b _)
same-result (Err r) a b k_a k_b e_a e_b same = e_a _ ∙ sym (e_b _)

-- an outcome of a run that meets is the polytope's
met : (q : Result GJKResult WouldPanic) (a : Final Epa.Answer) (kept : Outcome → Final Outcome) → q ≡ Ok Intersection → HadRoom (by_result q (answered outcome_of a) kept).answer → Runs.HadRoom a.answer
met q a kept e p = placed-run a.answer (rw e at p)

module _ (f : Format) (m : Pose) (g1 g2 : Shape) (dir : Vec3) (max_dist : Float) (exact : Bool) (l k : Lists) where
  -- NEITHER REFUSED FOR ROOM
  pub channels-agree : HadRoom (separated f m g1 g2 dir max_dist exact l).answer → HadRoom (separated f m g1 g2 dir max_dist exact k).answer
      → (separated f m g1 g2 dir max_dist exact l).answer ≡ (separated f m g1 g2 dir max_dist exact k).answer
  unfolding separated
  channels-agree p q =
      let g = distance f m g1 g2 dir max_dist exact in
      same-result g.result (penetration plain f m g1 g2 g.simplex l) (penetration plain f m g1 g2 g.simplex k) _ _ (λ o. refl) (λ o. refl)
      (λ e. (penetrations-agree plain f m g1 g2 g.simplex l k (met g.result _ _ e p) (met g.result _ _ e q)).answers)

  -- THE SAME ROOM OF EACH STORE, or enough of it in both: R too is the same, with the same counts
  pub channels-same : ((y : Store) → Equivalent l k y) → (separated f m g1 g2 dir max_dist exact l).answer ≡ (separated f m g1 g2 dir max_dist exact k).answer
  unfolding separated
  channels-same rooms =
      let g = distance f m g1 g2 dir max_dist exact in
      same-result g.result (penetration plain f m g1 g2 g.simplex l) (penetration plain f m g1 g2 g.simplex k) _ _ (λ o. refl) (λ o. refl)
      (λ _. (penetrations-same plain f m g1 g2 g.simplex l k rooms).answers)
