-- The whole start of a run, told of the lists and the answer that the code leaves: for any world. Assumes nothing.
use mathlib.Core.Path.{◌≡◌, refl, ap, ◌∙◌}
use lib.Ieee.{Float}
use Rattle.simplex.specs.declared.voronoi_simplex.VoronoiSimplex.{VoronoiSimplex}
use Rattle.epa_polytope.specs.declared.types.Tally.{Tally}
use Rattle.epa_polytope.specs.declared.types.Finish.{Finish}
use Rattle.epa_polytope.specs.Promises.{Step}
use Rattle.std.specs.Prelude.{Ok, Err}
use Rattle.epa_polytope.specs.Stores.{Lists, none_yet, state_of}
use Rattle.epa_polytope.specs.Steps.{Out, onward, ended, next, Act, Nil, pure, ◌>>◌}
use Rattle.epa_polytope.specs.Start.{World, format_of, dist_tol, start_faces, begin}
use Rattle.epa_polytope.specs.Promises.{Does, step_out, begin_out}
use Rattle.epa_polytope.proofs.Doing.{looked, goes_on, ends-here}
use Rattle.epa_polytope.specs.Code.{simplex_vertices, ready_of}

-- three steps in sequence: the first two together, or the last two
regrouped : {A R : Type 0} {out : Lists → R → Out A} (a b : Act Nil) (k : Act A) {l l2 : Lists} {c : Tally} {r : R} → Does out ((a >> b) >> k) l c l2 r → Does out (a >> (b >> k)) l c l2 r
unfolding ◌>>◌
regrouped {A} a b k {l} {c = c} h = record { same = h.same ∙ by (a (state_of l c)) }
  where
    by : (o : Out Nil) → next (next o (λ _. b)) (λ _. k) ≡ next o (λ _ s. next (b s) (λ _. k))
    by (onward x s) = refl
    by (ended e s) = refl

-- the tolerance goes on with what the first faces leave
handed-on : (a : Act Nil) (tol : Float) {l l2 : Lists} {c : Tally} (r : Step) → Does step_out a l c l2 r → Does begin_out (a >> pure tol) l c l2 (ready_of r tol)
unfolding ◌>>◌ pure
handed-on a tol {l2 = l2} r h = record { same = by r ∙ ap (λ (o : Out Nil). next o (λ _. pure tol)) h.same }
  where
    by : (y : Step) → begin_out l2 (ready_of y tol) ≡ next (step_out l2 y) (λ _. pure tol)
    by (Ok x) = refl
    by (Err x) = refl

-- from no entries the vertices are pushed, or the run ends at them, with the answer r
module _ (w : World) (x : VoronoiSimplex) {l l1 : Lists} {c : Tally} {r : Step} (none : c ≡ none_yet) (g : Does step_out (simplex_vertices w x) l c l1 r) where
  pub not-begun : {e : Finish} → r ≡ Err e → Does begin_out (begin w x) l none_yet l1 (Err e)
  unfolding begin
  not-begun t = rw (← none) (regrouped _ _ _ (ends-here _ g _ refl t))

  pub begun : {y : Tally} → r ≡ Ok y → {tol : Float} → tol ≡ dist_tol (format_of w) l1.vertices y.vertices → {l2 : Lists} {r2 z : Step} → Does step_out (start_faces w x.dim tol) l1 y l2 r2
      → r2 ≡ z → Does begin_out (begin w x) l none_yet l2 (ready_of z tol)
  unfolding begin
  begun t is_tol f is_z = rw (← none) (regrouped _ _ _ (goes_on _ g t (looked _ (rw (← is_tol) (handed-on _ _ _ (rw is_z at f))))))
