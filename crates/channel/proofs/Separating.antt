-- The channel's answer and lists, by GJK's result: the polytope's run where the shapes meet (`meets`), and the lists as they were lent where they do not (`apart`). Any format.
-- By rewriting with what the callees answered. Assumes nothing.
use mathlib.Core.Path.{◌≡◌, sym, ap, ◌∙◌}
use mathlib.Core.Bool.{Bool}
use lib.Ieee.{Float, Format}
use Rattle.std.specs.Prelude.{Result, Ok}
use Rattle.refusal.specs.declared.WouldPanic.{WouldPanic}
use Rattle.vector.specs.declared.vec3.Vec3.{Vec3}
use Rattle.vector.specs.declared.pose.Pose.{Pose}
use Rattle.shape.specs.declared.support.Shape.{Shape}
use Rattle.shape.specs.declared.vertex.Vertex.{Vertex}
use Rattle.shape.specs.Support.{from_shapes}
use Rattle.simplex.specs.declared.voronoi_simplex.VoronoiSimplex.{VoronoiSimplex}
use Rattle.simplex.specs.declared.operations.Altered.{Altered}
use Rattle.simplex.specs.Simplex.{new_simplex}
use Rattle.simplex.specs.Operations.{reset_simplex}
use Rattle.gjk.specs.declared.rounds.GJKResult.{GJKResult}
use Rattle.gjk.specs.declared.rounds.GJKResult.TheVariants.{Intersection}
use Rattle.gjk.specs.declared.rounds.Gjk.{Gjk}
use Rattle.gjk.specs.Gjk.{closest_points}
use Rattle.epa_polytope.specs.Stores.{Lists}
use Rattle.epa_polytope.specs.declared.types.Walk.TheVariants.{Plain as plain}
use Rattle.epa.specs.declared.types.Answer.{Answer}
use Rattle.epa.specs.Final.{Final, final, answered, penetration}
use Rattle.lines.specs.declared.line.Outcome.{Outcome}
use Rattle.outcome.specs.Outcome.{outcome_of}
use Rattle.channel.specs.Channel.{start_of, distance, by_result, separated_by, separated}

-- a result that is not refused, by its case
pub found : {r : Result GJKResult WouldPanic} {x : GJKResult} (q : GJKResult) → r ≡ Ok x → x ≡ q → r ≡ Ok q
found q is told = is ∙ ap Ok told

-- the simplex that GJK starts from
pub started : (f : Format) (m : Pose) (g1 g2 : Shape) (dir : Vec3) {p : Vertex} {x : VoronoiSimplex} {y : Altered} → p ≡ from_shapes f m g1 g2 dir → x ≡ new_simplex → y ≡ reset_simplex x p
    → y.simplex ≡ start_of f m g1 g2 dir
unfolding start_of
started f m g1 g2 dir {p} first new reset =
    ap (λ (t : Altered). t.simplex) reset ∙ ap (λ (t : VoronoiSimplex). (reset_simplex t p).simplex) new ∙ ap (λ (t : Vertex). (reset_simplex new_simplex t).simplex) first

module _ (f : Format) (m : Pose) (g1 g2 : Shape) (dir : Vec3) (max_dist : Float) (exact : Bool) (l : Lists) {x : VoronoiSimplex} {g : Gjk} (start : x ≡ start_of f m g1 g2 dir)
    (run : g ≡ closest_points f (from_shapes f m g1 g2) max_dist exact x) where
  -- what is made of GJK's result is the channel's answer
  by-run : separated_by f g m g1 g2 l ≡ separated f m g1 g2 dir max_dist exact l
  unfolding separated distance
  by-run = ap (λ (t : Gjk). separated_by f t m g1 g2 l) (run ∙ ap (closest_points f (from_shapes f m g1 g2) max_dist exact) start)

  -- by a result q
  by-result : (q : Result GJKResult WouldPanic) → g.result ≡ q → by_result q (answered outcome_of (penetration plain f m g1 g2 g.simplex l)) (λ o. final o l) ≡ separated f m g1 g2 dir max_dist exact l
  by-result q is = ap (λ (r : Result GJKResult WouldPanic). by_result r (answered outcome_of (penetration plain f m g1 g2 g.simplex l)) (λ o. final o l)) (sym is) ∙ by-run

  pub meets : {l1 : Lists} {y : Answer} {o : Outcome} → g.result ≡ Ok Intersection → final y l1 ≡ penetration plain f m g1 g2 g.simplex l → o ≡ outcome_of y
      → final o l1 ≡ separated f m g1 g2 dir max_dist exact l
  meets {l1} is e told = ap (λ (t : Outcome). final t l1) told ∙ ap (answered outcome_of) e ∙ by-result (Ok Intersection) is

  pub apart : {q : Result GJKResult WouldPanic} {o : Outcome} → g.result ≡ q → ((meeting : Final Outcome) (kept : Outcome → Final Outcome) → by_result q meeting kept ≡ kept o)
      → final o l ≡ separated f m g1 g2 dir max_dist exact l
  apart {q} is same = sym (same _ (λ o. final o l)) ∙ by-result q is
