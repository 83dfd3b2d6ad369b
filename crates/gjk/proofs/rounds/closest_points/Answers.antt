-- `closest_points` returns the definition's `closest_points`: the start, and the run where there is one.
use mathlib.Core.Path.{◌≡◌, sym, ap, ◌∙◌}
use lib.Ieee.{binary32}
use Rattle.std.specs.Prelude.{Result}
use Rattle.number.proofs.Told.{told}
use Rattle.gjk.specs.declared.carried.Carried.{Carried}
use Rattle.gjk.specs.declared.rounds.Ending.{Ending}
use Rattle.gjk.specs.declared.rounds.Gjk.{Gjk}
use Rattle.gjk.specs.declared.rounds.Turn.{Turn}
use Rattle.gjk.specs.Gjk as Gjk
use Rattle.gjk.specs.Gjk.{after, closest_within, closest_points}
use Rattle.gjk.specs.Carried.{next_by, turn_by}
use Rattle.gjk.proofs.rounds.closest_points.Goals as goal

-- what the start comes to, by what the code's comes to
begins : (t : Turn) (n : Result Carried Ending) (d : Gjk.Turn) → turn_by binary32 t ≡ d → t.next ≡ n → d ≡ record { simplex = t.simplex; next = next_by binary32 t.simplex n }
unfolding turn_by
begins t n d e h = sym e ∙ ap (λ (x : Result Carried Ending). record { simplex = t.simplex; next = next_by binary32 t.simplex x }) h

pub returns-in-Err-clause-answer : goal.returns-in-Err-clause-answer
unfolding closest_points closest_within after next_by
returns-in-Err-clause-answer c = simp (begins _ _ _ c.start_of-start.ensures c.in-Err.is, ← c.finished.ensures)

pub returns-in-Err-clause-told : goal.returns-in-Err-clause-told
returns-in-Err-clause-told c = told (ap (λ (g : Gjk). g.result) (returns-in-Err-clause-answer c))

pub returns-in-Ok-clause-answer : goal.returns-in-Ok-clause-answer
unfolding closest_points closest_within after next_by
returns-in-Ok-clause-answer c = simp (← c.eps_rel.ensures, begins _ _ _ c.start_of-start.ensures c.in-Ok.is, ← c.run_of.ensures, ← c.finished-in-Ok.ensures)

pub returns-in-Ok-clause-told : goal.returns-in-Ok-clause-told
returns-in-Ok-clause-told c = told (ap (λ (g : Gjk). g.result) (returns-in-Ok-clause-answer c))
