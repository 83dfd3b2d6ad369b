-- The whole run and its answer, told of the lists that the code leaves: the start, and then the expansions. For any world. Assumes nothing.
use mathlib.Core.Path.{◌≡◌, refl, sym, ap, ◌∙◌}
use lib.Ieee.{Float, Format}
use Rattle.std.specs.Prelude.{Result, Ok, Err}
use Rattle.vector.specs.declared.pose.Pose.{Pose}
use Rattle.shape.specs.declared.support.Shape.{Shape}
use Rattle.simplex.specs.declared.voronoi_simplex.VoronoiSimplex.{VoronoiSimplex}
use Rattle.epa_polytope.specs.declared.types.Begun.{Begun}
use Rattle.epa_polytope.specs.declared.types.Finish.{Finish}
use Rattle.epa_polytope.specs.Stores.{Lists, state_of, none_yet}
use Rattle.epa_polytope.specs.Steps.{Out, next, ◌>>=◌}
use Rattle.epa_polytope.specs.declared.types.Walk.{Walk}
use Rattle.epa_polytope.specs.Start.{World, world_of, walked_as, begin}
use Rattle.epa_polytope.specs.Run.{expansions, epa, run, closest_points}
use Rattle.epa_polytope.specs.Promises.{Does, begin_out, finish_out}
use Rattle.epa.specs.declared.types.Answer.{Answer}
use Rattle.epa.specs.Final.{final, final_of, answer_at, penetration}
use Rattle.epa_polytope.specs.Code.{Started}
use Rattle.epa_polytope.proofs.AnyWalk.{begin-any}

-- the start is the same by either walk
module _ (y : Walk) (w0 : World) (x : VoronoiSimplex) {l l1 : Lists} {r : Result Begun Finish} (b : Does begin_out (begin w0 x) l none_yet l1 r) where
  abbrev w : World
  w = walked_as y w0

  g : Does begin_out (begin w x) l none_yet l1 r
  g = record { same = b.same ∙ sym (begin-any y w0 x (state_of l none_yet)) }

  goes_on : {y : Result Begun Finish} → r ≡ y → next (begin_out l1 y) (expansions w) ≡ epa w x (state_of l none_yet)
  unfolding epa ◌>>=◌
  goes_on t = ap (λ (o : Out Float). next o (expansions w)) (rw t at g.same)

  pub start-ends : {f : Finish} → r ≡ Err f → Does finish_out (epa w x) l none_yet l1 f
  start-ends t = record { same = goes_on t }

  module _ {k : Begun} (t : r ≡ Ok k) where
    -- the expansions' caller keeps what they ask
    pub started : Started w k.tol (state_of l1 k.tally)
    started = record { simplex = x; lent = l; ran = sym (rw t at g.same) }

    pub run_ends : {l2 : Lists} {f : Finish} → Does finish_out (expansions w k.tol) l1 k.tally l2 f → Does finish_out (epa w x) l none_yet l2 f
    run_ends h = record { same = h.same ∙ goes_on t }

-- the answer is the run's end with its counts
pub answers-final : (z : Walk) (f : Format) (m : Pose) (g1 g2 : Shape) (x : VoronoiSimplex) {l l1 : Lists} {r : Finish} {y : Answer} → Does finish_out (epa (walked_as z (world_of f m g1 g2)) x) l none_yet l1 r
    → y ≡ answer_at l1.deleted r → final y l1 ≡ penetration z f m g1 g2 x l
unfolding closest_points run
answers-final z f m g1 g2 x {l} {l1} g e = ap (λ (y : Answer). final y l1) e ∙ ap final_of g.same
