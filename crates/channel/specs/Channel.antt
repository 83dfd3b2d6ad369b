-- The separation channel: the outcome of two shapes, the second in a pose, and what is left in the lent lists (document 01, "What the channel computes"). Any format. Definitions only.
-- Document 01's number of an outcome is `outcome_number` of the crate `lines`; that it is the number of GJK's result, or of the run's end, is shown in proofs/Numbers.antt.
use Rattle.std.specs.Prelude.{◌≡◌, Bool, Float, Result, Ok, Err}
use Rattle.std.specs.Float.{Format}
use Rattle.refusal.specs.declared.WouldPanic.{WouldPanic}
use Rattle.vector.specs.declared.vec3.Vec3.{Vec3}
use Rattle.vector.specs.declared.pose.Pose.{Pose}
use Rattle.shape.specs.declared.support.Shape.{Shape}
use Rattle.shape.specs.Support.{from_shapes}
use Rattle.simplex.specs.declared.voronoi_simplex.VoronoiSimplex.{VoronoiSimplex}
use Rattle.simplex.specs.Simplex.{new_simplex}
use Rattle.simplex.specs.Operations.{reset_simplex}
use Rattle.gjk.specs.declared.rounds.GJKResult.{GJKResult}
use Rattle.gjk.specs.declared.rounds.Gjk.{Gjk}
use Rattle.gjk.specs.Gjk.{closest_points}
use Rattle.epa_polytope.specs.Stores.{Lists}
use Rattle.epa_polytope.specs.declared.types.Walk.TheVariants.{Plain as plain}
use Rattle.epa.specs.Final.{Final, final, answered, penetration}
use Rattle.counts.specs.declared.Counts.{Counts}
use Rattle.lines.specs.declared.line.Outcome.{Outcome}
use Rattle.outcome.specs.Outcome.{outcome_of}

-- a new simplex, reset to the support point of the start direction
unfoldable pub start_of : Format → Pose → Shape → Shape → Vec3 → VoronoiSimplex
start_of f m g1 g2 dir = (reset_simplex new_simplex (from_shapes f m g1 g2 dir)).simplex

-- GJK from there
unfoldable pub distance : Format → Pose → Shape → Shape → Vec3 → Float → Bool → Gjk
distance f m g1 g2 dir max_dist exact = closest_points f (from_shapes f m g1 g2) max_dist exact (start_of f m g1 g2 dir)

-- What is made of GJK's result: letters D, M, S and X, with the lists kept; or where the shapes meet, the run of the polytope
abbrev pub by_result : Result GJKResult WouldPanic → Final Outcome → (Outcome → Final Outcome) → Final Outcome
by_result (Ok GJKResult.Intersection) meeting kept = meeting
by_result (Ok (GJKResult.ClosestPoints p1 p2 d)) meeting kept = kept (Outcome.ClosestPoints p1 p2 d)
by_result (Ok (GJKResult.Proximity d)) meeting kept = kept (Outcome.Proximity d)
by_result (Ok (GJKResult.NoIntersection d)) meeting kept = kept (Outcome.NoIntersection d)
by_result (Err e) meeting kept = kept Outcome.Panic

-- after a run g of GJK, over lent lists: where the shapes meet, the polytope's run from the simplex that g left; elsewhere the lists are kept
abbrev pub separated_by : Format → Gjk → Pose → Shape → Shape → Lists → Final Outcome
separated_by f g m g1 g2 l = by_result g.result (answered outcome_of (penetration plain f m g1 g2 g.simplex l)) (λ o. final o l)

-- FROM TWO SHAPES, a start direction, the largest distance, the exact flag, and lent lists
unfoldable pub separated : Format → Pose → Shape → Shape → Vec3 → Float → Bool → Lists → Final Outcome
separated f m g1 g2 dir max_dist exact l = separated_by f (distance f m g1 g2 dir max_dist exact) m g1 g2 l

-- an outcome that is not refused for room: its letter is not R
abbrev pub HadRoom : Outcome → Type 0
HadRoom o = (c : Counts) → o ≡ Outcome.NoPlace c → ⊥
