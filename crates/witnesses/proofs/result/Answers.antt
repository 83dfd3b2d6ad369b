-- `result` returns `result_of`.
use borrow.Author.Tests.{le-ltb, lt-ltb}
use Rattle.number.proofs.Told.{told}
use Rattle.witnesses.specs.Witnesses.{result_of}
use Rattle.witnesses.proofs.result.Goals as goal

pub returns-then-last-lt4-clause-answer : goal.returns-then-last-lt4-clause-answer
unfolding result_of
returns-then-last-lt4-clause-answer c = (simp (← c.last_of-last.ensures, ← c.witnesses_to.ensures, lt-ltb _ _ c.if-last-lt4.true))

pub returns-then-last-lt4-clause-told : goal.returns-then-last-lt4-clause-told
returns-then-last-lt4-clause-told c = told ((returns-then-last-lt4-clause-answer c))

pub returns-clause-answer : goal.returns-clause-answer
unfolding result_of
returns-clause-answer c = (simp (← c.last_of-last.ensures, le-ltb _ _ c.if-last-lt4.false))

pub returns-clause-told : goal.returns-clause-told
returns-clause-told c = told ((returns-clause-answer c))
