-- `find_reason` answers and leaves what the definition does, by GJK's result. Assumes nothing.
use mathlib.Core.Path.{refl}
use lib.Ieee.{binary32}
use Rattle.gjk.specs.declared.rounds.GJKResult.TheVariants.{Intersection, ClosestPoints, Proximity, NoIntersection}
use Rattle.channel.proofs.Separating.{found}
use Rattle.reason.proofs.Finding.{meets, apart}
use Rattle.reason.proofs.find_reason.Goals as goal

pub returns-in-Ok-Intersection-clause-answer : goal.returns-in-Ok-Intersection-clause-answer
returns-in-Ok-Intersection-clause-answer c =
    meets binary32 _ _ _ _ _ _ _ c.start_of-start.ensures c.closest_points-run.ensures.answer
    (found Intersection c.in-Ok-Intersection.is (rw c.in-Ok-Intersection.is at c.in-Ok-Intersection.field-0-is)) c.closest_points_plain-answer.ensures.answer c.reason_of.ensures

pub returns-in-Ok-ClosestPoints-clause-answer : goal.returns-in-Ok-ClosestPoints-clause-answer
returns-in-Ok-ClosestPoints-clause-answer c =
    apart binary32 _ _ _ _ _ _ _ c.start_of-start.ensures c.closest_points-run.ensures.answer
    (found (ClosestPoints _ _ _) c.in-Ok-ClosestPoints.is (rw c.in-Ok-ClosestPoints.is at c.in-Ok-ClosestPoints.field-0-is)) (λ m k. refl)

pub returns-in-Ok-Proximity-clause-answer : goal.returns-in-Ok-Proximity-clause-answer
returns-in-Ok-Proximity-clause-answer c =
    apart binary32 _ _ _ _ _ _ _ c.start_of-start.ensures c.closest_points-run.ensures.answer
    (found (Proximity _) c.in-Ok-Proximity.is (rw c.in-Ok-Proximity.is at c.in-Ok-Proximity.field-0-is)) (λ m k. refl)

pub returns-in-Ok-NoIntersection-clause-answer : goal.returns-in-Ok-NoIntersection-clause-answer
returns-in-Ok-NoIntersection-clause-answer c =
    apart binary32 _ _ _ _ _ _ _ c.start_of-start.ensures c.closest_points-run.ensures.answer
    (found (NoIntersection _) c.in-Ok-NoIntersection.is (rw c.in-Ok-NoIntersection.is at c.in-Ok-NoIntersection.field-0-is)) (λ m k. refl)

pub returns-in-Err-clause-answer : goal.returns-in-Err-clause-answer
returns-in-Err-clause-answer c =
    apart binary32 _ _ _ _ _ _ _ c.start_of-start.ensures c.closest_points-run.ensures.answer c.in-Err.is (λ m k. refl)
