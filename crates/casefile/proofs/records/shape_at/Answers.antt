-- A kind, and its numbers: what they stand for is what the words do. Assumes nothing.
use Rattle.std.proofs.lemmas.Result.{err_from_is_err_and}
use Rattle.casefile.proofs.Parts.{few-numbers, shape-read, no-kind, no-numbers}
use Rattle.casefile.proofs.records.shape_at.Goals as goal

pub numbers_at-requires : goal.numbers_at-requires
numbers_at-requires c = rw c.size_of.ensures (few-numbers c.in_ok-kind.kind.value)

pub returns-in_err-kind : goal.returns-in_err-kind
returns-in_err-kind c =
    let p = err_from_is_err_and c.from_residual.result c.from_residual.ensures.1 in
    rw (p.1, p.2) (no-kind _ _ _ _ c.in_err-kind.ensures)

pub returns-in_err-numbers : goal.returns-in_err-numbers
returns-in_err-numbers c =
    let p = err_from_is_err_and c.from_residual-in_err-numbers.result c.from_residual-in_err-numbers.ensures.1 in
    rw (p.1, p.2) (no-numbers _ _ _ _ _ c.in_ok-kind.ensures (rw c.size_of.ensures at c.in_err-numbers.ensures))

pub returns : goal.returns
returns c = shape-read _ _ _ _ c.in_ok-numbers.numbers _ c.in_ok-kind.ensures (rw c.size_of.ensures at c.in_ok-numbers.ensures) c.shape_of.ensures
