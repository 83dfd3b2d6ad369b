-- `separate` answers and leaves what the definition does, by GJK's result. Assumes nothing.
use mathlib.Core.Path.{refl, ap}
use lib.Ieee.{binary32}
use Rattle.number.proofs.Told.{told}
use Rattle.lines.specs.declared.line.Outcome.{Outcome}
use Rattle.gjk.specs.declared.rounds.GJKResult.TheVariants.{Intersection, ClosestPoints, Proximity, NoIntersection}
use Rattle.epa.specs.Final.{Final}
use Rattle.channel.proofs.Separating.{found, meets, apart}
use Rattle.channel.proofs.separate.Goals as goal

pub returns-in-Ok-Intersection-clause-answer : goal.returns-in-Ok-Intersection-clause-answer
returns-in-Ok-Intersection-clause-answer c = meets binary32 _ _ _ _ _ _ _ c.start_of-start.ensures c.closest_points-run.ensures.answer (found Intersection c.in-Ok-Intersection.is (rw c.in-Ok-Intersection.is at c.in-Ok-Intersection.field-0-is)) c.closest_points_plain-answer.ensures.answer c.outcome_of.ensures.answer

pub returns-in-Ok-Intersection-clause-told : goal.returns-in-Ok-Intersection-clause-told
returns-in-Ok-Intersection-clause-told c = told (ap (λ (x : Final Outcome). x.answer) (returns-in-Ok-Intersection-clause-answer c))

pub returns-in-Ok-ClosestPoints-clause-answer : goal.returns-in-Ok-ClosestPoints-clause-answer
returns-in-Ok-ClosestPoints-clause-answer c = apart binary32 _ _ _ _ _ _ _ c.start_of-start.ensures c.closest_points-run.ensures.answer (found (ClosestPoints c.in-Ok-ClosestPoints.p1 c.in-Ok-ClosestPoints.p2 c.in-Ok-ClosestPoints.normal) c.in-Ok-ClosestPoints.is (rw c.in-Ok-ClosestPoints.is at c.in-Ok-ClosestPoints.field-0-is)) (λ m k. refl)

pub returns-in-Ok-ClosestPoints-clause-told : goal.returns-in-Ok-ClosestPoints-clause-told
returns-in-Ok-ClosestPoints-clause-told c = told (ap (λ (x : Final Outcome). x.answer) (returns-in-Ok-ClosestPoints-clause-answer c))

pub returns-in-Ok-Proximity-clause-answer : goal.returns-in-Ok-Proximity-clause-answer
returns-in-Ok-Proximity-clause-answer c = apart binary32 _ _ _ _ _ _ _ c.start_of-start.ensures c.closest_points-run.ensures.answer (found (Proximity c.in-Ok-Proximity.normal) c.in-Ok-Proximity.is (rw c.in-Ok-Proximity.is at c.in-Ok-Proximity.field-0-is)) (λ m k. refl)

pub returns-in-Ok-Proximity-clause-told : goal.returns-in-Ok-Proximity-clause-told
returns-in-Ok-Proximity-clause-told c = told (ap (λ (x : Final Outcome). x.answer) (returns-in-Ok-Proximity-clause-answer c))

pub returns-in-Ok-NoIntersection-clause-answer : goal.returns-in-Ok-NoIntersection-clause-answer
returns-in-Ok-NoIntersection-clause-answer c = apart binary32 _ _ _ _ _ _ _ c.start_of-start.ensures c.closest_points-run.ensures.answer (found (NoIntersection c.in-Ok-NoIntersection.normal) c.in-Ok-NoIntersection.is (rw c.in-Ok-NoIntersection.is at c.in-Ok-NoIntersection.field-0-is)) (λ m k. refl)

pub returns-in-Ok-NoIntersection-clause-told : goal.returns-in-Ok-NoIntersection-clause-told
returns-in-Ok-NoIntersection-clause-told c = told (ap (λ (x : Final Outcome). x.answer) (returns-in-Ok-NoIntersection-clause-answer c))

pub returns-in-Err-clause-answer : goal.returns-in-Err-clause-answer
returns-in-Err-clause-answer c = apart binary32 _ _ _ _ _ _ _ c.start_of-start.ensures c.closest_points-run.ensures.answer c.in-Err.is (λ m k. refl)

pub returns-in-Err-clause-told : goal.returns-in-Err-clause-told
returns-in-Err-clause-told c = told (ap (λ (x : Final Outcome). x.answer) (returns-in-Err-clause-answer c))
