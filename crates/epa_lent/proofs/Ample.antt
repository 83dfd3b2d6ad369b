-- 206 RECORDS SUFFICE: the places beyond, which the run is not handed, are never asked for, so the run over a store's first records is the run over all their numbers (`first-is-all`); and a run over at
-- least so many is never refused for a place among them (`never-full`). By the polytope's demand 3 and the agreement of runs. A list of records has room for as many edges as it has records
-- (`room-of-pairs` of the crate `edges`). Any format. Assumes nothing.
use mathlib.Core.Path.{◌≡◌, refl, sym, ap, ◌∙◌}
use mathlib.Core.Bool.{Bool, true, false}
use Prim.Native.Nat.{◌≤◌}
use native.Mathlib.Omega.{arith}
use lib.ListN.{length-take}
use lib.Dec.{leb}
use lib.Ieee.{Format}
use borrow.Author.Tests.{leb-true, leb-false}
use Rattle.vector.specs.declared.pose.Pose.{Pose}
use Rattle.shape.specs.declared.support.Shape.{Shape}
use Rattle.simplex.specs.declared.voronoi_simplex.VoronoiSimplex.{VoronoiSimplex}
use Rattle.epa_polytope.specs.declared.types.End.{End}
use Rattle.epa_polytope.specs.declared.types.End.TheVariants.{NoRoom as no_room}
use Rattle.epa_polytope.specs.declared.types.Store.{Store}
use Rattle.epa_polytope.specs.declared.types.Store.TheVariants.{Vertices as the_vertices, Faces as the_faces, Edges as the_edges, Heap as the_heap, Pending as the_pending}
use Rattle.epa_polytope.specs.Stores.{Lists, room_for}
use Rattle.epa_polytope.specs.Steps.{ended}
use Rattle.epa_polytope.specs.Start.{world_of, walked_as}
use Rattle.epa_polytope.specs.Bounds.{Ample}
use Rattle.epa_polytope.specs.Same.{Equivalent, equal, enough}
use Rattle.epa_polytope.proofs.Demand3.{always-suffices}
use Rattle.epa.specs.declared.types.Answer.{Answer}
use Rattle.epa_polytope.specs.declared.types.Walk.TheVariants.{Plain as plain}
use Rattle.epa.specs.Final.{Final, penetration}
use Rattle.epa.proofs.Ample.{reported, ample-penetration}
use Rattle.epa.proofs.Agreement.{OneAnswer, penetrations-same}
use Rattle.epa_lent.specs.Lent.{first_edges, on_first}

module _ (l : Lists) where
  many : 206 ≤ room_for the_edges l → 206 ≤ room_for the_edges (first_edges l)
  many h = omega (arith, h, length-take 412 l.edges)

  few : leb 206 (room_for the_edges l) ≡ false → room_for the_edges (first_edges l) ≡ room_for the_edges l
  few e = omega (arith, leb-false 206 (room_for the_edges l) e, length-take 412 l.edges)

  -- the first 206 records are room as good as all
  pub first-suffice : (y : Store) → Equivalent (first_edges l) l y
  first-suffice the_vertices = equal refl
  first-suffice the_faces = equal refl
  first-suffice the_heap = equal refl
  first-suffice the_pending = equal refl
  first-suffice the_edges = by (leb 206 (room_for the_edges l)) refl
    where
      by : (b : Bool) → leb 206 (room_for the_edges l) ≡ b → Equivalent (first_edges l) l the_edges
      by true e = let h = leb-true 206 (room_for the_edges l) e in enough (many h) h
      by false e = equal (few e)

  pub ample-first : Ample l → Ample (first_edges l)
  ample-first room the_vertices = room the_vertices
  ample-first room the_faces = room the_faces
  ample-first room the_edges = many (room the_edges)
  ample-first room the_heap = room the_heap
  ample-first room the_pending = room the_pending

module _ (f : Format) (m : Pose) (g1 g2 : Shape) (x : VoronoiSimplex) (l : Lists) where
  pub never-full : 206 ≤ room_for the_edges l → (on_first (penetration plain f m g1 g2 x) l).answer.end ≡ no_room the_edges → ⊥
  never-full h e =
      let z = reported plain f m g1 g2 x (first_edges l) in
      always-suffices (walked_as plain (world_of f m g1 g2)) x (first_edges l) the_edges (many l h) z.stores
      (z.ran ∙ ap (λ (q : End). ended q z.stores) (ap (λ (q : Final Answer). q.answer.end) (sym z.told) ∙ e))

  -- LENT 105 VERTICES, 10,710 FACES, 206 RECORDS, 10,710 HEAP ENTRIES AND 206 PENDING QUESTIONS, the answer is never a refusal for room
  pub ample-records : Ample l → (y : Store) → (on_first (penetration plain f m g1 g2 x) l).answer.end ≡ no_room y → ⊥
  ample-records room y e = ample-penetration plain f m g1 g2 x (first_edges l) (ample-first l room) y e

  -- THE RUN OVER RECORDS IS DOCUMENT 01'S, over all their numbers: the same answer, refusals too, and the same content up to the counts
  pub first-is-all : OneAnswer plain f m g1 g2 x (first_edges l) l
  first-is-all = penetrations-same plain f m g1 g2 x (first_edges l) l (first-suffice l)
