-- From the start of a run to its end: the keys popped are a chain from the tolerance on (`in_a_row`), and no run ends with a key refused later unless a NaN key was popped (`not-later`).
-- Distances.antt says what it comes to. Of any run. Assumes nothing.
use mathlib.Core.Path.{◌≡◌, refl}
use mathlib.Core.List.{List, [], ◌++◌}
use Prim.Native.Nat.{ℕ, zero, suc, ◌<◌}
use native.Mathlib.Omega.{arith}
use native.Mathlib.Decide.{ℕ_discrete}
use lib.ListN.{get_or}
use lib.Ieee.{Float, nan}
use Rattle.number.proofs.Order.{lt_irrefl}
use Rattle.heap.specs.declared.Entry.{Entry}
use Rattle.heap.specs.Ordered.{Held, NotNan}
use Rattle.epa_polytope.specs.Stores.{Lists, State, state_of, none_yet, heap_of}
use Rattle.epa_polytope.specs.Steps.{Out, onward, ended}
use Rattle.epa_polytope.specs.Start.{World, VoronoiSimplex}
use Rattle.epa_polytope.specs.Run.{run}
use Rattle.epa_polytope.specs.Demand3.{Carried, run_to, rest}
use Rattle.epa_polytope.specs.Distances.{along, each_expansion, popped_in, popped_by, keys_to, keys_of_expansion, keys_made, Every}
use Rattle.epa_polytope.proofs.Stages.{run-through}
use Rattle.epa_polytope.proofs.Steps.{Meets, meets-bind}
use Rattle.epa_polytope.proofs.DistancesWalks.{NotLater, Opened, every_append, meets-along, meets-opened}
use Rattle.epa_polytope.proofs.DistancesPops.{Chain, Falls, all-real, chained, loop-not-later}

-- Q of the first n keys is Q of each of them
each-key : (Q : Float → Type 0) (n : ℕ) (ks : List Float) → Every Q (keys_to n ks) → (i : ℕ) → i < n → Q (get_or ks i nan)
unfolding keys_to
each-key Q zero ks h i l = let z : ⊥ = omega arith in absurd z
each-key Q (suc n) ks h i l = by (ℕ_discrete i n) (each-key Q n ks h.1 i)
  where
    by : Dec (i ≡ n) → (i < n → Q (get_or ks i nan)) → Q (get_or ks i nan)
    by (yes e) before = rw e h.0
    by (no e) before = before (omega arith)

-- Q is known of each key made, and says at least that it is not NaN
module _ (Q : Float → Type 0) (real : (k : Float) → Q k → NotNan k) where
  -- after a start that goes on
  from_start : (w : World) (g : Carried) (t : State) → NotNan g.tol → Opened g.tol (heap_of t)
      → Every Q (keys_to t.tally.heap t.lists.heap_keys ++ each_expansion w (keys_of_expansion w) 101 g t) → Chain (Falls Q) g.tol (each_expansion w popped_in 101 g t)
  from_start w g t some o made =
      let both = every_append Q (keys_to t.tally.heap t.lists.heap_keys) _ made in
      let held : Held Q (heap_of t) = record { each = each-key Q t.tally.heap t.lists.heap_keys both.0 } in
      chained Q real w g.tol 101 g t g.tol refl (some, lt_irrefl g.tol) (record { each = held; order = o.order (all-real Q real held); most = o.low }) both.1

  -- the popped keys are a chain, from the tolerance on
  pub in_a_row : (w : World) (x : VoronoiSimplex) (l : Lists) → Every Q (keys_made w x l)
      → (P : List Entry → Type 0) → P [] → ((b : Float) (m : List Entry) → Chain (Falls Q) b m → P m) → P (popped_by w x l)
  unfolding keys_made popped_by
  in_a_row w x l made P empty row = by (run_to w x 0 (state_of l none_yet)) (meets-opened w x l) made
    where
      by : (o : Out Carried) → Meets (λ g t. NotNan g.tol × Opened g.tol (heap_of t)) NotLater o
          → Every Q (along o (λ g s. keys_to s.tally.heap s.lists.heap_keys ++ each_expansion w (keys_of_expansion w) 101 g s)) → P (along o (each_expansion w popped_in 101))
      by (onward g t) m made = row g.tol _ (from_start w g t m.held.0 m.held.1 made)
      by (ended e t) m made = empty

-- no key is refused later, if no popped key is NaN
pub not-later : (w : World) (x : VoronoiSimplex) (l : Lists) → Every (λ e. NotNan e.key) (popped_by w x l) → Meets (λ _ _. Unit {0}) NotLater (run w x l)
unfolding run popped_by
not-later w x l h =
    rw (run-through w x 0 101 refl (state_of l none_yet))
    (meets-bind NotLater _ _ _ (rest w 101) (state_of l none_yet)
    (meets-along (λ (e : Entry). NotNan e.key) (run_to w x 0 (state_of l none_yet)) (each_expansion w popped_in 101) h (meets-opened w x l)) λ g t y.
    loop-not-later w g.tol y.0.0 101 g t refl y.0.1.low y.1)
