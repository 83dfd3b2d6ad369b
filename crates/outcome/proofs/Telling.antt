-- The outcome of a run, from its end and its counts. Assumes nothing.
use mathlib.Core.Path.{◌≡◌, sym, ap}
use Rattle.epa_polytope.specs.declared.types.End.{End}
use Rattle.epa.specs.declared.types.Answer.{Answer}
use Rattle.outcome.specs.Outcome.{ended_as, outcome_of}

-- the outcome of a run that ended so
pub told-as : (x : Answer) (e : End) → x.end ≡ e → ended_as e x.counts ≡ outcome_of x
unfolding outcome_of
told-as x e is = sym (ap (λ (t : End). ended_as t x.counts) is)
