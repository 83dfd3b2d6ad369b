-- DEMAND 3 of the channel: lent 105 vertices, 10,710 faces, 206 edges and 10,710 heap entries it is never refused for room, whatever the shapes and the numbers. Any format. Assumes nothing.
use mathlib.Core.Path.{◌≡◌, refl, sym, ap, ◌∙◌}
use mathlib.Core.Bool.{Bool}
use native.Mathlib.Omega.{arith}
use lib.Ieee.{Float, Format}
use Rattle.std.specs.Prelude.{Result, Ok, Err}
use Rattle.refusal.specs.declared.WouldPanic.{WouldPanic}
use Rattle.vector.specs.declared.vec3.Vec3.{Vec3}
use Rattle.vector.specs.declared.pose.Pose.{Pose}
use Rattle.shape.specs.declared.support.Shape.{Shape}
use Rattle.gjk.specs.declared.rounds.GJKResult.{GJKResult}
use Rattle.gjk.specs.declared.rounds.GJKResult.TheVariants.{Intersection, ClosestPoints, Proximity, NoIntersection}
use Rattle.gjk.specs.Gjk.{gjk_number}
use Rattle.epa_polytope.specs.Stores.{Lists}
use Rattle.epa_polytope.specs.Steps.{refusal}
use Rattle.epa_polytope.specs.Bounds.{Ample}
use Rattle.epa_polytope.specs.declared.types.End.{End}
use Rattle.epa_polytope.specs.declared.types.End.TheVariants.{Answers, Nothing, Panics, NoRoom}
use Rattle.epa_polytope.specs.declared.types.Store.{Store}
use Rattle.epa_polytope.specs.declared.types.Walk.TheVariants.{Plain as plain}
use Rattle.epa.proofs.Ample.{ample-penetration}
use Rattle.lines.specs.Lines.{outcome_number}
use Rattle.channel.specs.Channel.{distance, separated, HadRoom}
use Rattle.channel.proofs.Numbers.{number_by, numbers-agree}

not_three : (q : Result GJKResult WouldPanic) (e : End) → ((y : Store) → e ≡ NoRoom y → ⊥) → number_by q e ≡ 3 → ⊥
unfolding refusal gjk_number
not_three (Ok Intersection) (Answers why a b n) h z = omega arith
not_three (Ok Intersection) (Nothing why) h z = omega arith
not_three (Ok Intersection) (Panics site) h z = omega arith
not_three (Ok Intersection) (NoRoom y) h z = h y refl
not_three (Ok (ClosestPoints a b d)) e h z = omega arith
not_three (Ok (Proximity d)) e h z = omega arith
not_three (Ok (NoIntersection d)) e h z = omega arith
not_three (Err r) e h z = omega arith

module _ (f : Format) (m : Pose) (g1 g2 : Shape) (dir : Vec3) (max_dist : Float) (exact : Bool) (l : Lists) (room : Ample l) where
  -- THE CHANNEL'S NUMBER IS NEVER 3
  pub ample-number : outcome_number (separated f m g1 g2 dir max_dist exact l).answer ≡ 3 → ⊥
  ample-number e =
      let g = distance f m g1 g2 dir max_dist exact in
      not_three g.result _ (ample-penetration plain f m g1 g2 g.simplex l room) (sym (numbers-agree f m g1 g2 dir max_dist exact l) ∙ e)

  -- so its letter is never R
  pub ample-separated : HadRoom (separated f m g1 g2 dir max_dist exact l).answer
  ample-separated c e = ample-number (ap outcome_number e)
