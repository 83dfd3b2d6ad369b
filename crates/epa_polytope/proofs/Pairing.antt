-- Steps of a run in pairs, as the code takes them: a pair and what follows it are three steps in a row. Assumes nothing.
use mathlib.Core.Path.{◌≡◌, refl, ◌∙◌}
use Rattle.epa_polytope.specs.declared.types.Tally.{Tally}
use Rattle.epa_polytope.specs.declared.types.Finish.{Finish}
use Rattle.epa_polytope.specs.Promises.{Step}
use Rattle.std.specs.Prelude.{Ok, Err}
use Rattle.epa_polytope.specs.Stores.{Lists, State}
use Rattle.epa_polytope.specs.Steps.{Out, onward, ended, next, Act, Nil, ◌>>◌}
use Rattle.epa_polytope.specs.Promises.{Does, step_out}
use Rattle.epa_polytope.proofs.Doing.{goes_on, ends-here}

-- a step that ends the run, where the code hands its answer on
pub ends_so : {a : Act Nil} (b : Act Nil) {l l1 : Lists} {c : Tally} {r : Step} {e : Finish} → Does step_out a l c l1 r → r ≡ Err e → Does step_out (a >> b) l c l1 (Err e)
ends_so b {e = e} does t = ends-here b does (Err e) refl t

then-assoc : (a b k : Act Nil) (s : State) → ((a >> b) >> k) s ≡ (a >> (b >> k)) s
unfolding ◌>>◌
then-assoc a b k s = by (a s)
  where
    by : (o : Out Nil) → next (next o (λ _. b)) (λ _. k) ≡ next o (λ _ t. next (b t) (λ _. k))
    by (onward x t) = refl
    by (ended e t) = refl

module _ (a b k : Act Nil) {l l1 : Lists} {c : Tally} {r : Step} (does : Does step_out (a >> b) l c l1 r) where
  -- the pair goes on, and the third step does the rest
  pub pair-goes-on : {x : Tally} {l2 : Lists} {r2 : Step} → r ≡ Ok x → Does step_out k l1 x l2 r2 → Does step_out (a >> (b >> k)) l c l2 r2
  pair-goes-on t h = record { same = (goes_on k does t h).same ∙ then-assoc a b k _ }

  -- the pair ends the run
  pub pair_ends : {e : Finish} → r ≡ Err e → Does step_out (a >> (b >> k)) l c l1 (Err e)
  pair_ends t = record { same = (ends_so k does t).same ∙ then-assoc a b k _ }
