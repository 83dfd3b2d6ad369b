-- `closest_points_by` answers and leaves what the definition does: the run's end, with its counts. Assumes nothing.
use Rattle.std.proofs.Common.{ap}
use lib.Ieee.{binary32}
use Rattle.number.proofs.Told.{told}
use Rattle.epa.specs.declared.types.Answer.{Answer}
use Rattle.epa.specs.Final.{Final}
use Rattle.epa.proofs.Running.{answers-final}
use Rattle.epa.proofs.closest_points_by.Goals as goal

pub returns-clause-answer : goal.returns-clause-answer
returns-clause-answer g c = answers-final _ binary32 _ _ _ _ c.run-finish.ensures.leaves c.answer_at.ensures

pub returns-clause-told : goal.returns-clause-told
returns-clause-told g c = told (ap (λ (x : Final Answer). x.answer) (returns-clause-answer g c))
