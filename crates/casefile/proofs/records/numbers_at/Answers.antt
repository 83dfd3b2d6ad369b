-- The next numbers, in a loop: the invariant is `Loop`. Assumes nothing.
use mathlib.Core.Path.{sym}
use native.Mathlib.Omega.{arith}
use Rattle.std.proofs.lemmas.Result.{err_from_is_err_and}
use Rattle.casefile.proofs.Words.{next-read, stopped, done}
use Rattle.casefile.proofs.records.numbers_at.Goals as goal

pub returns-in_err-number : goal.returns-in_err-number
returns-in_err-number c =
    let p = err_from_is_err_and c.from_residual.result c.from_residual.ensures.1 in
    rw (p.1, p.2) (stopped c.loop-i.invariant _ c.loop-i-test.true (sym c.in_err-number.ensures))

pub loop-i-preserved : goal.loop-i-preserved
loop-i-preserved c = next-read c.loop-i.invariant c.in_ok-number.number c.requires c.loop-i-test.true (sym c.in_ok-number.ensures)

pub returns : goal.returns
returns c = done c.loop-i.invariant (omega arith)
