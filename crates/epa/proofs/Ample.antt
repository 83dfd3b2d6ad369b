-- DEMAND 3 of the answer: its counts are those of the run that it ends, and lent the room that suffices it is never a refusal for room. Any format. Assumes nothing.
use mathlib.Core.Path.{◌≡◌, refl, sym, ap, ◌∙◌}
use mathlib.Core.List.{List, [], ◌∷◌}
use native.Mathlib.Omega.{arith}
use lib.ListN.{length}
use Prim.Native.Nat.{ℕ, ◌+◌, ◌*◌, ◌≤◌}
use lib.Ieee.{Format}
use Rattle.vector.specs.declared.pose.Pose.{Pose}
use Rattle.shape.specs.declared.support.Shape.{Shape}
use Rattle.simplex.specs.declared.voronoi_simplex.VoronoiSimplex.{VoronoiSimplex}
use Rattle.epa_polytope.specs.declared.types.End.{End}
use Rattle.epa_polytope.specs.declared.types.End.TheVariants.{NoRoom as no_room}
use Rattle.epa_polytope.specs.declared.types.Store.{Store}
use Rattle.epa_polytope.specs.Stores.{Lists, State, with_pending}
use Rattle.epa_polytope.specs.Steps.{ended}
use Rattle.epa_polytope.specs.declared.types.Walk.{Walk}
use Rattle.epa_polytope.specs.declared.types.Walk.TheVariants.{Recursive as recursive}
use Rattle.epa_polytope.specs.Start.{World, world_of, walked_as}
use Rattle.epa_polytope.specs.Run.{run, closest_points}
use Rattle.epa_polytope.specs.Bounds.{bound, Ample, AmpleFour}
use Rattle.epa_polytope.specs.Demand3.{starting_faces, expansions_of}
use Rattle.epa_polytope.proofs.Demand3.{at-the-end, at-most-101, never-refused, four-suffice}
use Rattle.epa_polytope.proofs.Lengths.{keeps-lengths}
use Rattle.epa_polytope.proofs.Agreement.{runs}
use Rattle.epa.specs.Final.{Final, final, final_of, final_at, penetration}
use Rattle.epa.specs.declared.types.Answer.{Answer}
use Rattle.counts.specs.declared.Counts.{Counts}

-- demand 3 of reported counts: from f starting faces, with k expansions, counting one under way
pub record Sized (f k : ℕ) (c : Counts) : Type 0 where
  pub few_live : c.live ≤ f + 2 * k
  pub few_made : c.made ≤ f + k * f + k * (k + 1)
  pub few_edges : c.edges ≤ f + 2 * k
  pub few_complete : c.expansions ≤ 101

module _ (walk : Walk) (f : Format) (m : Pose) (g1 g2 : Shape) (x : VoronoiSimplex) (l : Lists) where
  abbrev shapes : World
  shapes = walked_as walk (world_of f m g1 g2)

  -- THE RUN ENDS, and the answer is its end with its own counts (expansions completed, faces made, faces live, most edges in one pass), and what it leaves in its stores
  pub record Reported (y : Final Answer) : Type 0 where
    pub end : End
    pub stores : State
    pub ran : run (walked_as walk (world_of f m g1 g2)) x l ≡ ended end stores
    pub told : y ≡ final_at end stores

  pub reported : Reported (penetration walk f m g1 g2 x l)
  unfolding closest_points
  reported = let z = runs shapes x l in record { end = z.end; stores = z.state; ran = z.ran; told = ap final_of z.ran }

  -- AND THEY ARE WITHIN THE SIZES
  pub reported-sizes : Sized (starting_faces x reported.end) (expansions_of (walked_as walk (world_of f m g1 g2)) x l reported.end reported.stores) (penetration walk f m g1 g2 x l).answer.counts
  unfolding bound
  reported-sizes =
      let z = reported in
      let h = (at-the-end shapes x l z.end z.stores z.ran).within in
      rw z.told (record { few_live = h.few_live; few_made = h.few_made; few_edges = h.few_edges; few_complete = at-most-101 shapes x l z.end z.stores z.ran })

  -- an answer that is a refusal for room is the end of the run
  refused : (y : Store) → (penetration walk f m g1 g2 x l).answer.end ≡ no_room y → run shapes x l ≡ ended (no_room y) reported.stores
  refused y e = let z = reported in z.ran ∙ ap (λ (q : End). ended q z.stores) (ap (λ (q : Final Answer). q.answer.end) (sym z.told) ∙ e)

  -- LENT 105 VERTICES, 10,710 FACES, 206 EDGES, 10,710 HEAP ENTRIES AND 206 PENDING QUESTIONS, the answer is never a refusal for room
  pub ample-penetration : Ample l → (y : Store) → (penetration walk f m g1 g2 x l).answer.end ≡ no_room y → ⊥
  ample-penetration room y e = never-refused shapes x l room y reported.stores (refused y e)

-- BY THE RECURSIVE WALK the four stores suffice
pub ample-four : (f : Format) (m : Pose) (g1 g2 : Shape) (x : VoronoiSimplex) (l : Lists) → AmpleFour l → (y : Store) → (penetration recursive f m g1 g2 x l).answer.end ≡ no_room y → ⊥
ample-four f m g1 g2 x l room y e =
    four-suffice (walked_as recursive (world_of f m g1 g2)) x l refl room y (reported recursive f m g1 g2 x l).stores (refused recursive f m g1 g2 x l y e)

-- ---- where no place is lent for a question, none is left

no_place : (l : List ℕ) → length l ≡ 0 → [] ≡ l
no_place [] e = refl
no_place (x ∷ l) e = let z : ⊥ = omega arith in absurd z

pub four-end : (walk : Walk) (f : Format) (m : Pose) (g1 g2 : Shape) (x : VoronoiSimplex) (l : Lists) {l1 : Lists} {y : Answer} → final y l1 ≡ penetration walk f m g1 g2 x l → length l.pending ≡ 0
    → final y (with_pending [] l1) ≡ penetration walk f m g1 g2 x l
four-end walk f m g1 g2 x l {l1} {y} e none =
    let z = reported walk f m g1 g2 x l in
    let same : l1 ≡ z.stores.lists = ap (λ (w : Final Answer). w.lists) (e ∙ z.told) in
    let kept = (keeps-lengths (shapes walk f m g1 g2 x l) x l z.end z.stores z.ran).of_pending in
    let few : length l1.pending ≡ 0 = ap (λ (k : Lists). length k.pending) same ∙ kept ∙ none in
    ap (λ (p : List ℕ). final y (with_pending p l1)) (no_place l1.pending few) ∙ e
