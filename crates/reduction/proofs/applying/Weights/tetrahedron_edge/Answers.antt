-- `tetrahedron_edge` plans the definition's `tetrahedron_edge`: the moves are those of `edge_first`, and the weights are the old ones but for two, whatever moved.
use Prim.Native.Nat.{ℕ, zero, suc, ◌<◌, ◌≤◌}
use native.Mathlib.Omega.{arith}
use lib.Dec.{eqb}
use mathlib.Core.Bool.{true, false, ◌||◌}
use mathlib.Core.Logic.{◌≢◌}
use borrow.Author.Tests.{ne_eqb}
use mathlib.Core.Path.{◌≡◌, refl, ap, ◌∙◌}
use lib.Ieee.{Float}
use Rattle.simplex.specs.declared.voronoi_simplex.VoronoiSimplex.{VoronoiSimplex}
use Rattle.simplex.specs.Simplex.{swap_in}
use Rattle.reduction.specs.declared.applying.Moves.{Moves}
use Rattle.reduction.specs.declared.applying.Moves.TheVariants.{Stay, Swap, SwapBoth, Overwrite}
use Rattle.reduction.specs.Reduction.{overwrite_in, place_in, to_edge, edge_first, tetrahedron_edge}
use Rattle.reduction.specs.Plan.{moved_by, carried_out, edge_plan, EdgeFirst, Makes}
use Rattle.reduction.proofs.applying.Weights.tetrahedron_edge.Goals as goal
use Rattle.reduction.proofs.applying.Weights.tetrahedron_edge.Goals.{in_default-via-then-i-lt3, in_default-via-else-i-lt3+else-i-lt5}

-- no move touches the weights
edge-carried : (s : VoronoiSimplex) (m : Moves) (u v : Float) (d : ℕ) → carried_out s (edge_plan m s.proj u v d) ≡ to_edge (moved_by s m) u v d
unfolding carried_out moved_by to_edge swap_in overwrite_in
edge-carried s Stay u v d = refl
edge-carried s (Swap i j) u v d = refl
edge-carried s SwapBoth u v d = refl
edge-carried s (Overwrite i) u v d = refl

edge-planned : {i : ℕ} {m : Moves} → EdgeFirst i m → (s : VoronoiSimplex) (u v : Float) → Makes s (to_edge (edge_first s i) u v 1) (edge_plan m s.proj u v 1)
edge-planned {m = m} e s u v = record { there = e.there; gives = edge-carried s m u v 1 ∙ ap (λ t. to_edge t u v 1) (e.first s) }

-- the edges that the swap turns round, and the others
turned : (i : ℕ) → 3 ≤ i → i < 5 → (eqb i 3 || eqb i 4) ≡ true
turned zero l h = absurd (omega arith)
turned (suc zero) l h = absurd (omega arith)
turned (suc (suc zero)) l h = absurd (omega arith)
turned (suc (suc (suc zero))) l h = refl
turned (suc (suc (suc (suc zero)))) l h = refl
turned (suc (suc (suc (suc (suc i))))) l h = absurd (omega arith)

straight : (i : ℕ) → i ≢ 3 → i ≢ 4 → (eqb i 3 || eqb i 4) ≡ false
straight i n m = rw (ne_eqb _ _ n, ne_eqb _ _ m) refl

pub returns-in-3 : goal.returns-in-3
unfolding tetrahedron_edge place_in
returns-in-3 c s = rw (c.edge_plan.ensures, turned c.args.i (omega arith) (omega arith)) (edge-planned c.edge_first-moves.ensures _ _ _)

pub returns-in_default : goal.returns-in_default
unfolding tetrahedron_edge place_in
returns-in_default c s =
    let kept : (eqb c.args.i 3 || eqb c.args.i 4) ≡ false =
    elim c.in_default.branch [
      | in_default-via-then-i-lt3 w ↦ straight c.args.i (λ e. omega arith) (λ e. omega arith)
      | in_default-via-else-i-lt3+else-i-lt5 w ↦ straight c.args.i (λ e. omega arith) (λ e. omega arith)
    ] in
    rw (c.edge_plan-in_default.ensures, kept) (edge-planned c.edge_first-moves.ensures _ _ _)
