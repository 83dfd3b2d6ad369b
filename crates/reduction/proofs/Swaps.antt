-- The swaps of a reduction are never refused: on a simplex and places that there are, `swap` is done (`swap-done`) and exchanges the two (`swap-is`), and what it leaves is a simplex
-- for the next (`swap-keeps`). The code of this crate exchanges the two by the library's `swap`, of both arrays. Assumes nothing.
use mathlib.Core.Path.{◌≡◌, ap}
use mathlib.Core.Bool.{Bool, true, ◌&&◌}
use mathlib.Core.List.{List, [], ◌∷◌}
use Prim.Native.Nat.{ℕ, zero, suc, ◌≤◌, ◌<◌}
use native.Mathlib.Omega.{arith}
use borrow.Author.Tests.{lt-ltb, le-leb}
use lib.Dec.{ltb}
use lib.ListN.{set, get_or}
use Rattle.std.proofs.Common.{Ok}
use Rattle.simplex.specs.declared.voronoi_simplex.VoronoiSimplex.{VoronoiSimplex}
use Rattle.simplex.specs.Simplex.{is_simplex, swap_in}
use Rattle.simplex.specs.Operations.{altered_or, swap_simplex}
use Rattle.simplex.proofs.Laws.{Small, small}

-- the test of `swap`
tested : (s : VoronoiSimplex) (i j : ℕ) → is_simplex s ≡ true → i < 4 → j < 4 → is_simplex s && ltb i 4 && ltb j 4 ≡ true
tested s i j h li lj = rw (h, lt-ltb i 4 li, lt-ltb j 4 lj)

pub swap-done : (s : VoronoiSimplex) (i j : ℕ) → is_simplex s ≡ true → i < 4 → j < 4 → (swap_simplex s i j).outcome ≡ Ok tt
unfolding swap_simplex
swap-done s i j h li lj = ap (λ (b : Bool). (altered_or b s (swap_in s i j)).outcome) (tested s i j h li lj)

-- a place that is written over by one that is small
still-small : (l : List ℕ) (i v k : ℕ) → v ≤ 3 → get_or l k 0 ≤ 3 → get_or (set l i v) k 0 ≤ 3
still-small [] i v k hv h = h
still-small (x ∷ l) zero v zero hv h = hv
still-small (x ∷ l) zero v (suc k) hv h = h
still-small (x ∷ l) (suc i) v zero hv h = h
still-small (x ∷ l) (suc i) v (suc k) hv h = still-small l i v k hv h

pub is-small : (s : VoronoiSimplex) → Small s → is_simplex s ≡ true
unfolding is_simplex
is-small s h =
    rw (
      le-leb _ _ h.dimension,
      le-leb _ _ h.previous,
      le-leb _ _ (h.place 0 (omega arith)),
      le-leb _ _ (h.place 1 (omega arith)),
      le-leb _ _ (h.place 2 (omega arith)),
      le-leb _ _ (h.place 3 (omega arith)),
    )

swap-small : (s : VoronoiSimplex) (i j : ℕ) → i < 4 → j < 4 → Small s → Small (swap_in s i j)
unfolding swap_in
swap-small s i j li lj h =
    let l = s.prev_vertices in
    record {
      dimension = h.dimension;
      previous = h.previous;
      place = λ k lk. still-small (set l i (get_or l j 0)) j (get_or l i 0) k (h.place i li) (still-small l i (get_or l j 0) k (h.place j lj) (h.place k lk));
    }

-- what is left is the simplex with the two exchanged, and a simplex
pub swap-is : (s : VoronoiSimplex) (i j : ℕ) → is_simplex s ≡ true → i < 4 → j < 4 → (swap_simplex s i j).simplex ≡ swap_in s i j
unfolding swap_simplex
swap-is s i j h li lj = ap (λ (b : Bool). (altered_or b s (swap_in s i j)).simplex) (tested s i j h li lj)

pub swap-keeps : (s : VoronoiSimplex) (i j : ℕ) → is_simplex s ≡ true → i < 4 → j < 4 → is_simplex (swap_in s i j) ≡ true
swap-keeps s i j h li lj = is-small (swap_in s i j) (swap-small s i j li lj (small s h))
