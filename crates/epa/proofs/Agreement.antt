-- CHANNELS AGREE, of the polytope's answers: on the same shapes, pose and simplex, over lists of any lengths and any former content, two answers that are not refused for room are one
-- answer with one row of counts, and leave the same content up to the counts. By the agreement of runs. Any format. Assumes nothing.
use mathlib.Core.Path.{◌≡◌, ap, ◌∙◌}
use lib.Ieee.{Format}
use Rattle.vector.specs.declared.pose.Pose.{Pose}
use Rattle.shape.specs.declared.support.Shape.{Shape}
use Rattle.simplex.specs.declared.voronoi_simplex.VoronoiSimplex.{VoronoiSimplex}
use Rattle.epa_polytope.specs.declared.types.End.TheVariants.{NoRoom as no_room}
use Rattle.epa_polytope.specs.declared.types.Store.{Store}
use Rattle.epa_polytope.specs.Stores.{Lists}
use Rattle.epa_polytope.specs.declared.types.Walk.{Walk}
use Rattle.epa_polytope.specs.Start.{world_of, walked_as}
use Rattle.epa_polytope.specs.Same.{Same, SameEnd, Equivalent}
use Rattle.epa_polytope.proofs.Agreement.{agreement, no_difference}
use Rattle.epa.specs.Final.{Final, penetration, HadRoom}
use Rattle.epa.specs.declared.types.Answer.{Answer}
use Rattle.epa.proofs.Ample.{reported}

module _ (walk : Walk) (f : Format) (m : Pose) (g1 g2 : Shape) (x : VoronoiSimplex) (l k : Lists) where
  -- one answer, and the same content of the stores that both leave, up to the counts
  pub record OneAnswer : Type 0 where
    pub answers : (penetration walk f m g1 g2 x l).answer ≡ (penetration walk f m g1 g2 x k).answer
    pub stores : Same (reported walk f m g1 g2 x l).stores (reported walk f m g1 g2 x k).stores

  one_answer : SameEnd (reported walk f m g1 g2 x l).end (reported walk f m g1 g2 x k).end (reported walk f m g1 g2 x l).stores (reported walk f m g1 g2 x k).stores → OneAnswer
  one_answer h =
      let a = (reported walk f m g1 g2 x l).told in
      let b = (reported walk f m g1 g2 x k).told in
      let e = h.end in
      let c = h.stores.tally in
      let d = h.living in
      record { answers = cc; stores = h.stores }

  placed_end : (y : Lists) → HadRoom (penetration walk f m g1 g2 x y).answer → (z : Store) → (reported walk f m g1 g2 x y).end ≡ no_room z → ⊥
  placed_end y p z e = p z (ap (λ (q : Final Answer). q.answer.end) (reported walk f m g1 g2 x y).told ∙ e)

  -- NEITHER REFUSED FOR ROOM
  pub penetrations-agree : HadRoom (penetration walk f m g1 g2 x l).answer → HadRoom (penetration walk f m g1 g2 x k).answer → OneAnswer
  penetrations-agree p q =
      let a = reported walk f m g1 g2 x l in
      let b = reported walk f m g1 g2 x k in
      one_answer (agreement (walked_as walk (world_of f m g1 g2)) x l k a.end b.end a.stores b.stores a.ran b.ran (placed_end l p) (placed_end k q))

  -- THE SAME ROOM OF EACH STORE, or enough of it in both: refusals too are the same
  pub penetrations-same : ((y : Store) → Equivalent l k y) → OneAnswer
  penetrations-same rooms =
      let a = reported walk f m g1 g2 x l in
      let b = reported walk f m g1 g2 x k in
      one_answer (no_difference (walked_as walk (world_of f m g1 g2)) x l k a.end b.end a.stores b.stores a.ran b.ran rooms)
