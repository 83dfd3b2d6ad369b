-- `closest_points_plain` answers what the definition does, told by its number and values. Assumes nothing.
use Rattle.std.proofs.Common.{ap}
use Rattle.number.proofs.Told.{told}
use Rattle.epa.specs.declared.types.Answer.{Answer}
use Rattle.epa.specs.Final.{Final}
use Rattle.epa.proofs.closest_points_plain.Goals as goal

pub returns-clause-told : goal.returns-clause-told
returns-clause-told c = told (ap (λ (x : Final Answer). x.answer) c.closest_points_by.ensures.answer)
