-- `project_origin_and_reduce` does what its definition says: the two operations in turn are the reduction.
use Rattle.std.proofs.lemmas.Result.{err_from_is_err_and}
use Rattle.number.proofs.Told.{told}
use Rattle.reduction.proofs.Fits.{both-in-turn}
use Rattle.simplex_lent.proofs.lent.project_origin_and_reduce.Goals as goal

pub returns-in_err-projection-clause-answer : goal.returns-in_err-projection-clause-answer
returns-in_err-projection-clause-answer c =
    let found = c.project_origin.ensures.answer in
    let refused = c.in_err-projection.was in
    let handed = err_from_is_err_and c.from_residual.result c.from_residual.ensures.1 in
    (simp (both-in-turn, ← found, refused), rw (handed.1, handed.2) (simp (both-in-turn, ← found, refused)))

pub returns-in_err-projection-clause-told : goal.returns-in_err-projection-clause-told
returns-in_err-projection-clause-told c = told (returns-in_err-projection-clause-answer c).1

pub returns-clause-answer : goal.returns-clause-answer
returns-clause-answer c =
    let found = c.project_origin.ensures.answer in
    let at = c.in_ok-projection.was in
    let applied = c.apply_location-r.ensures.answer in
    (simp (both-in-turn, ← found, at, ← applied), simp (both-in-turn, ← found, at))

pub returns-clause-told : goal.returns-clause-told
returns-clause-told c = told (returns-clause-answer c).1
