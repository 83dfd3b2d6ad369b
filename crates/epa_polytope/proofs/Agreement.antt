-- THE AGREEMENT OF RUNS: two runs from one simplex, over lists of any lengths and any former content, end the same and leave the same content up to the counts, but for a refusal of the one
-- for room that the other has. Any format, any support function, any face maker. The proofs stand in Agreeing.antt. Assumes nothing.
use mathlib.Core.Path.{◌≡◌}
use Prim.Native.Nat.{◌≤◌}
use Rattle.epa_polytope.specs.Stores.{Lists, State, Store, room_for}
use Rattle.epa_polytope.specs.Steps.{End, no_room, ended}
use Rattle.epa_polytope.specs.Start.{World, VoronoiSimplex}
use Rattle.epa_polytope.specs.Run.{run}
use Rattle.epa_polytope.specs.Same.{Agreed, SameEnd, Equivalent}
use Rattle.epa_polytope.proofs.Agreeing as Agreeing
pub use Rattle.epa_polytope.proofs.Agreeing.{Ran, runs}

-- two runs, the one over the lists l, the other over l', with their ends and the states that they leave
module _ (w : World) (x : VoronoiSimplex) (l l' : Lists) (e f : End) (s t : State) (p : run w x l ≡ ended e s) (q : run w x l' ≡ ended f t) where
  -- TWO RUNS AGREE, or one is refused for room that the other has
  pub runs-agree : Agreed l l' e f s t
  runs-agree = Agreeing.runs-agree w x l l' e f s t p q

  -- NEITHER REFUSED FOR ROOM: the same end, counts and live faces, and the same content up to the counts, whatever the lists' lengths and former content
  pub agreement : ((y : Store) → e ≡ no_room y → ⊥) → ((y : Store) → f ≡ no_room y → ⊥) → SameEnd e f s t
  agreement = Agreeing.agreement w x l l' e f s t p q

  -- THE SAME ROOM OF EACH STORE, or enough of it in both: the same in refusals too
  pub no_difference : ((y : Store) → Equivalent l l' y) → SameEnd e f s t
  no_difference = Agreeing.no_difference w x l l' e f s t p q

  -- MORE ROOM CHANGES NOTHING of a run that is not refused for room
  pub more_room : ((y : Store) → e ≡ no_room y → ⊥) → ((y : Store) → room_for y l ≤ room_for y l') → SameEnd e f s t
  more_room = Agreeing.more_room w x l l' e f s t p q
