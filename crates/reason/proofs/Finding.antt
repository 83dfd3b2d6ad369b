-- The reason of a record's run and what is left in the lists, by GJK's result: the polytope's run where the shapes meet (`meets`), and elsewhere none (`apart`). Any format.
-- By rewriting with what the callees answered. Assumes nothing.
use mathlib.Core.Path.{◌≡◌, sym, ap, ◌∙◌}
use mathlib.Core.Bool.{Bool}
use lib.Ieee.{Float, Format}
use Rattle.vector.specs.declared.vec3.Vec3.{Vec3}
use Rattle.vector.specs.declared.pose.Pose.{Pose}
use Rattle.shape.specs.declared.support.Shape.{Shape}
use Rattle.shape.specs.Support.{from_shapes}
use Rattle.simplex.specs.declared.voronoi_simplex.VoronoiSimplex.{VoronoiSimplex}
use Rattle.gjk.specs.declared.rounds.GJKResult.{GJKResult}
use Rattle.gjk.specs.declared.rounds.GJKResult.TheVariants.{Intersection}
use Rattle.gjk.specs.declared.rounds.Gjk.{Gjk}
use Rattle.gjk.specs.Gjk.{closest_points}
use Rattle.epa_polytope.specs.Stores.{Lists}
use Rattle.epa_polytope.specs.declared.types.Walk.TheVariants.{Plain as plain}
use Rattle.epa.specs.declared.types.Answer.{Answer}
use Rattle.epa.specs.Final.{Final, final, answered, penetration}
use Rattle.channel.specs.Channel.{start_of, distance}
use Rattle.reason.specs.declared.reasons.Reason.{Reason}
use Rattle.std.specs.Prelude.{Option, Some, None, Result, Ok}
use Rattle.refusal.specs.declared.WouldPanic.{WouldPanic}
use Rattle.reason.specs.Reasons.{reason_of}
use Rattle.reason.specs.Turns.{because, by_result, reason_by, reason_for}

module _ (f : Format) (m : Pose) (g1 g2 : Shape) (dir : Vec3) (max_dist : Float) (exact : Bool) (l : Lists) {x : VoronoiSimplex} {g : Gjk} (start : x ≡ start_of f m g1 g2 dir)
    (run : g ≡ closest_points f (from_shapes f m g1 g2) max_dist exact x) where
  by-run : reason_by f g m g1 g2 l ≡ reason_for f m g1 g2 dir max_dist exact l
  unfolding reason_for distance
  by-run = ap (λ (t : Gjk). reason_by f t m g1 g2 l) (run ∙ ap (closest_points f (from_shapes f m g1 g2) max_dist exact) start)

  -- by a result q
  by-result : (q : Result GJKResult WouldPanic) → g.result ≡ q → by_result q (answered because (penetration plain f m g1 g2 g.simplex l)) (final None l) ≡ reason_for f m g1 g2 dir max_dist exact l
  by-result q is = ap (λ (r : Result GJKResult WouldPanic). by_result r (answered because (penetration plain f m g1 g2 g.simplex l)) (final None l)) (sym is) ∙ by-run

  pub meets : {l1 : Lists} {y : Answer} {r : Reason} → g.result ≡ Ok Intersection → final y l1 ≡ penetration plain f m g1 g2 g.simplex l → r ≡ reason_of y.end
      → final (Some r) l1 ≡ reason_for f m g1 g2 dir max_dist exact l
  meets {l1} is e told = ap (λ (t : Reason). final (Some t) l1) told ∙ ap (answered because) e ∙ by-result (Ok Intersection) is

  pub apart : {q : Result GJKResult WouldPanic} → g.result ≡ q → ((meeting kept : Final (Option Reason)) → by_result q meeting kept ≡ kept) → final None l ≡ reason_for f m g1 g2 dir max_dist exact l
  apart {q} is same = sym (same _ (final None l)) ∙ by-result q is
