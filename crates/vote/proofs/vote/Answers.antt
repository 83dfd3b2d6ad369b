-- The vote is `vote_of`: what the three tests decide. Assumes nothing.
use Rattle.number.proofs.Told.{told}
use Rattle.vote.specs.Vote.{vote_of}
use Rattle.vote.proofs.vote.Goals as goal

pub returns-then-first_last-clause-answer : goal.returns-then-first_last-clause-answer
unfolding vote_of
returns-then-first_last-clause-answer c = (simp (← c.agree-first_last.ensures, ← c.agree.ensures, c.if-first_last.true, c.if-agree.true))

pub returns-then-first_last-clause-told : goal.returns-then-first_last-clause-told
unfolding vote_of
returns-then-first_last-clause-told c = told ((returns-then-first_last-clause-answer c))

pub returns-else-first_last-clause-answer : goal.returns-else-first_last-clause-answer
unfolding vote_of
returns-else-first_last-clause-answer c = (simp (← c.agree-first_last.ensures, ← c.agree.ensures, c.if-first_last.false, c.if-agree.true))

pub returns-else-first_last-clause-told : goal.returns-else-first_last-clause-told
unfolding vote_of
returns-else-first_last-clause-told c = told ((returns-else-first_last-clause-answer c))

pub returns-then-first_last-2-clause-answer : goal.returns-then-first_last-2-clause-answer
unfolding vote_of
returns-then-first_last-2-clause-answer c = (simp (← c.agree-first_last.ensures, ← c.agree.ensures, c.if-first_last-2.true, c.if-agree.false))

pub returns-then-first_last-2-clause-told : goal.returns-then-first_last-2-clause-told
unfolding vote_of
returns-then-first_last-2-clause-told c = told ((returns-then-first_last-2-clause-answer c))

pub returns-then-agree-2-clause-answer : goal.returns-then-agree-2-clause-answer
unfolding vote_of
returns-then-agree-2-clause-answer c = (simp (← c.agree-first_last.ensures, ← c.agree.ensures, ← c.agree-2.ensures, c.if-agree-2.true, c.if-first_last-2.false, c.if-agree.false))

pub returns-then-agree-2-clause-told : goal.returns-then-agree-2-clause-told
unfolding vote_of
returns-then-agree-2-clause-told c = told ((returns-then-agree-2-clause-answer c))

pub returns-else-agree-2-clause-answer : goal.returns-else-agree-2-clause-answer
unfolding vote_of
returns-else-agree-2-clause-answer c = (simp (← c.agree-first_last.ensures, ← c.agree.ensures, ← c.agree-2.ensures, c.if-agree-2.false, c.if-first_last-2.false, c.if-agree.false))

pub returns-else-agree-2-clause-told : goal.returns-else-agree-2-clause-told
unfolding vote_of
returns-else-agree-2-clause-told c = told ((returns-else-agree-2-clause-answer c))
