-- `closest_points` answers and leaves what the definition does by the recursive walk. No place is lent for a question, and none comes. Assumes nothing.
use Rattle.std.proofs.Common.{ap, refl, rules}
use lib.Ieee.{binary32}
use Rattle.epa_polytope.specs.declared.types.Walk.TheVariants.{Recursive as recursive}
use Rattle.number.proofs.Told.{told}
use Rattle.epa.specs.declared.types.Answer.{Answer}
use Rattle.epa.specs.Final.{Final}
use Rattle.epa.proofs.Ample.{four-end}
use Rattle.epa.proofs.closest_points.Goals as goal

pub returns-clause-answer : goal.returns-clause-answer
returns-clause-answer c =
    let e = four-end recursive binary32 _ _ _ _ _ c.closest_points_by.ensures.answer refl in
    search (rules, e)

pub returns-clause-told : goal.returns-clause-told
returns-clause-told c = told (ap (λ (x : Final Answer). x.answer) c.closest_points_by.ensures.answer)
