-- The record by its parts. Assumes nothing.
use Rattle.std.proofs.lemmas.Result.{err_from_is_err_and}
use Rattle.number.proofs.Told.{told}
use Rattle.casefile.proofs.Parts.{case-read, no-first, no-second, no-words, no-flag}
use Rattle.casefile.proofs.records.read_case.Goals as goal

pub returns-in_err-first-clause-answer : goal.returns-in_err-first-clause-answer
returns-in_err-first-clause-answer c =
    let p = err_from_is_err_and c.from_residual.result c.from_residual.ensures.1 in
    rw (p.1, p.2) (no-first _ _ _ _ c.in_err-first.ensures)

pub returns-in_err-first-clause-told : goal.returns-in_err-first-clause-told
returns-in_err-first-clause-told c = told (returns-in_err-first-clause-answer c)

pub returns-in_err-second-clause-answer : goal.returns-in_err-second-clause-answer
returns-in_err-second-clause-answer c =
    let p = err_from_is_err_and c.from_residual-in_err-second.result c.from_residual-in_err-second.ensures.1 in
    rw (p.1, p.2) (no-second _ _ _ _ _ c.in_ok-first.ensures c.in_err-second.ensures)

pub returns-in_err-second-clause-told : goal.returns-in_err-second-clause-told
returns-in_err-second-clause-told c = told (returns-in_err-second-clause-answer c)

pub returns-in_err-numbers-clause-answer : goal.returns-in_err-numbers-clause-answer
returns-in_err-numbers-clause-answer c =
    let p = err_from_is_err_and c.from_residual-in_err-numbers.result c.from_residual-in_err-numbers.ensures.1 in
    rw (p.1, p.2) (no-words _ _ _ _ _ _ c.in_ok-first.ensures c.in_ok-second.ensures c.in_err-numbers.ensures)

pub returns-in_err-numbers-clause-told : goal.returns-in_err-numbers-clause-told
returns-in_err-numbers-clause-told c = told (returns-in_err-numbers-clause-answer c)

pub returns-in_err-flag-clause-answer : goal.returns-in_err-flag-clause-answer
returns-in_err-flag-clause-answer c =
    let p = err_from_is_err_and c.from_residual-in_err-flag.result c.from_residual-in_err-flag.ensures.1 in
    rw (p.1, p.2) (no-flag _ _ _ _ _ _ _ c.in_ok-first.ensures c.in_ok-second.ensures c.in_ok-numbers.ensures c.in_err-flag.ensures)

pub returns-in_err-flag-clause-told : goal.returns-in_err-flag-clause-told
returns-in_err-flag-clause-told c = told (returns-in_err-flag-clause-answer c)

pub returns-clause-answer : goal.returns-clause-answer
returns-clause-answer c = rw (c.pose_of.ensures, c.vector_of.ensures, c.float_of.ensures) (case-read _ _ _ _ _ c.in_ok-numbers.numbers _ c.in_ok-first.ensures c.in_ok-second.ensures c.in_ok-numbers.ensures c.in_ok-flag.ensures)

pub returns-clause-told : goal.returns-clause-told
returns-clause-told c = told (returns-clause-answer c)
