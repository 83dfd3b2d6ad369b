-- A pass by either walk: what holds of it, told once. Assumes nothing.
use mathlib.Core.Path.{◌≡◌, refl, sym, ap, subst}
use mathlib.Core.Bool.{false}
use mathlib.Core.List.{List}
use Prim.Native.Nat.{ℕ, ◌+◌, ◌*◌, ◌/◌, ◌<◌, ◌≤◌}
use native.Mathlib.Omega.{arith}
use lib.ListN.{length}
use Rattle.epa_polytope.specs.Stores.{State, live_to, live}
use Rattle.epa_polytope.specs.Steps.{Numbers}
use Rattle.epa_polytope.specs.Start.{Walk, recursive, plain}
use Rattle.epa_polytope.specs.Silhouette.{Question, WalkAnswer, Ok, Mesh, Walked, facing, recorded_of}
use Rattle.epa_polytope.specs.PlainWalk.{walking, plain_pass}
use Rattle.epa_polytope.specs.Expansion.{mesh_of, before_pass, pass_by}
use Rattle.epa_polytope.specs.Bounds.{NeighboursIn}
use Rattle.epa_polytope.specs.Rule.{Returned}
use Rattle.epa_polytope.proofs.Basics.{no_edges}
use Rattle.epa_polytope.proofs.Places.{none-used}
use Rattle.epa_polytope.proofs.Walks.{Asked, asked-facing, asked_of, edge_room, Recorded, reached-pass, spent-pass, fewer-pass, kept-pass, misses-pass, same-marks-pass}
use Rattle.epa_polytope.proofs.Moves.{pass_from}
use Rattle.epa_polytope.proofs.PlainWalks.{plain-rests, rests-empty}
use Rattle.epa_polytope.proofs.PlainPasses.{Steady, steady-start, steady-pass}

-- the most questions, edges and live faces together, from the walk w
abbrev pub bounds : ℕ → Walked → ℕ
bounds N w = live_to N w.deleted + 3

-- from no edge and no question, over a list l whose places above the mark `top` are as in l0
module _ (m : Mesh) (N : ℕ) (h : NeighboursIn N N m.ids) (w : Walked) (begins : w.answer ≡ Ok 0) (l l0 : List ℕ) (top : ℕ)
    (places : length l ≡ length l0) (top_fits : top ≤ length l0 / 2) (given : Returned 0 0 (top * 2) l l0) where
  module _ (a b c : Question) (ya : Asked N a) (yb : Asked N b) (yc : Asked N c) where
    -- A PASS BY EITHER WALK
    pub steady_by : (y : Walk) → Steady N w l0 (bounds N w) 0 (pass_by y m (walking w l 0 false) a b c)
    unfolding pass_by
    steady_by plain = steady-pass m N h w l0 (bounds N w) (walking w l 0 false) a b c ya yb yc (steady-start m N h w begins l l0 top places top_fits given)
    steady_by recursive = record {
      asked = λ i less. let z : ⊥ = omega arith in absurd z;
      few = omega (arith, spent-pass m N h w a b c ya yb yc (edge_room w) refl, ap (asked_of (edge_room w)) begins);
      missed = misses-pass m N h w a b c ya yb yc;
      fewer = fewer-pass m N h w a b c ya yb yc;
      recorded = kept-pass m N h w a b c ya yb yc (subst (λ (a : WalkAnswer). Recorded N w a) (sym begins) (no_edges N w.edges));
      reached = reached-pass m N h w a b c ya yb yc (omega (arith, ap (recorded_of (edge_room w)) begins));
      marks = same-marks-pass m w a b c;
      places = places;
      fits = omega arith;
      roomy = λ b. refl;
      top = top;
      held_below = omega arith;
      top_fits = top_fits;
      given = given;
    }

-- it holds no question where it goes on
pub none_left : (y : Walk) (m : Mesh) (w : Walked) (l : List ℕ) (a b c : Question) {n : ℕ} → (pass_by y m (walking w l 0 false) a b c).short ≡ false
    → (pass_by y m (walking w l 0 false) a b c).walk.answer ≡ Ok n → (pass_by y m (walking w l 0 false) a b c).held ≡ 0
unfolding pass_by plain_pass
none_left recursive m w l a b c e x = refl
none_left plain m w l a b c e x = rests-empty m _ (plain-rests m _) e x

-- THE PASS OF A RUN, of faces whose neighbours are faces
module _ (y : Walk) (w : Numbers) (s : State) (p i : ℕ) (a : NeighboursIn s.tally.faces s.tally.faces s.lists.face_ids) (b : i < s.tally.faces) where
  -- over a pending list whose places above a mark are as in l0
  pub steady-from : (l0 : List ℕ) (top : ℕ) → length s.lists.pending ≡ length l0 → top ≤ length l0 / 2 → Returned 0 0 (top * 2) s.lists.pending l0
      → Steady s.tally.faces (before_pass s i).walk l0 (live s + 3) 0 (pass_from y w s p i)
  steady-from l0 top places fits given =
      let n = s.tally.faces in
      let ids = s.lists.face_ids in
      steady_by (mesh_of w s.lists p) n a (before_pass s i).walk refl s.lists.pending l0 top places fits given (facing ids i 0) (facing ids i 1) (facing ids i 2)
      (asked-facing ids n a i 0 b (omega arith)) (asked-facing ids n a i 1 b (omega arith)) (asked-facing ids n a i 2 b (omega arith)) y

  -- as it is
  pub steady-here : Steady s.tally.faces (before_pass s i).walk s.lists.pending (live s + 3) 0 (pass_from y w s p i)
  steady-here = steady-from s.lists.pending 0 refl (omega arith) (none-used 0 s.lists.pending)
