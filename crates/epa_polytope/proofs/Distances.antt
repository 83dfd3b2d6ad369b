-- TICKET 9, of any run: any format, any support function and face maker, any simplex, any lent stores. With no NaN among the keys that the run makes (`keys_made`), the distances of the faces that
-- it pops, skipped ones too (`popped_by`), never get smaller, and no key made during an expansion is refused. For the second it is enough that no popped key is NaN. Where a NaN key occurs
-- nothing is claimed about distances. The definitions are those of specs/Distances.antt; the proofs stand in DistancesRuns.antt, DistancesPops.antt and DistancesWalks.antt, over the
-- heap's order (the crate `heap`, proofs/Ordered.antt). Assumes nothing.
use mathlib.Core.Path.{◌≡◌}
use lib.Ieee.{Float}
use Rattle.heap.specs.Ordered.{NotNan}
use Rattle.epa_polytope.specs.Stores.{Lists, State}
use Rattle.epa_polytope.specs.Steps.{nothing, key_later, ended}
use Rattle.epa_polytope.specs.Start.{World, VoronoiSimplex}
use Rattle.epa_polytope.specs.Run.{run}
use Rattle.epa_polytope.specs.Distances.{popped_by, keys_made, Every, NeverFalls}
use Rattle.epa_polytope.proofs.DistancesPops.{chain-every, chain-rises}
use Rattle.epa_polytope.proofs.DistancesRuns.{in_a_row, not-later}

module _ (w : World) (x : VoronoiSimplex) (l : Lists) where
  -- THE DISTANCES OF POPPED FACES, SKIPPED ONES TOO, NEVER GET SMALLER, with no NaN among the keys made
  pub never-falls : Every NotNan (keys_made w x l) → NeverFalls (popped_by w x l)
  never-falls made = in_a_row NotNan (λ k r. r) w x l made NeverFalls tt chain-rises

  -- and every key popped was made: what holds of each key made, and rules NaN out, holds of each key popped
  pub popped-were-made : (Q : Float → Type 0) → ((k : Float) → Q k → NotNan k) → Every Q (keys_made w x l) → Every (λ e. Q e.key) (popped_by w x l)
  popped-were-made Q real made = in_a_row Q real w x l made (Every (λ e. Q e.key)) tt (chain-every Q)

  -- A KEY REFUSED LATER NEEDS A POPPED NaN KEY,
  pub refused-needs-nan : Every (λ e. NotNan e.key) (popped_by w x l) → (t : State) → run w x l ≡ ended (nothing key_later) t → ⊥
  refused-needs-nan h t e = (rw e at (not-later w x l h)).held

  -- so that WITH NO NaN AMONG THE KEYS MADE NO KEY MADE DURING AN EXPANSION IS REFUSED
  pub never-refused-later : Every NotNan (keys_made w x l) → (t : State) → run w x l ≡ ended (nothing key_later) t → ⊥
  never-refused-later made = refused-needs-nan (popped-were-made NotNan (λ k r. r) made)
