-- What `outcome_of` returns, by the run's end. Assumes nothing.
use Rattle.number.proofs.Told.{told}
use Rattle.outcome.proofs.Telling.{told-as}
use Rattle.outcome.proofs.outcome_of.Goals as goal

pub returns-in-Answers-clause-answer : goal.returns-in-Answers-clause-answer
returns-in-Answers-clause-answer c = told-as c.args.answer _ c.in-Answers.is

pub returns-in-Answers-clause-told : goal.returns-in-Answers-clause-told
returns-in-Answers-clause-told c = told (returns-in-Answers-clause-answer c)

pub returns-in-Nothing-clause-answer : goal.returns-in-Nothing-clause-answer
returns-in-Nothing-clause-answer c = told-as c.args.answer _ c.in-Nothing.is

pub returns-in-Nothing-clause-told : goal.returns-in-Nothing-clause-told
returns-in-Nothing-clause-told c = told (returns-in-Nothing-clause-answer c)

pub returns-in-Panics-clause-answer : goal.returns-in-Panics-clause-answer
returns-in-Panics-clause-answer c = told-as c.args.answer _ c.in-Panics.is

pub returns-in-Panics-clause-told : goal.returns-in-Panics-clause-told
returns-in-Panics-clause-told c = told (returns-in-Panics-clause-answer c)

pub returns-in-NoRoom-clause-answer : goal.returns-in-NoRoom-clause-answer
returns-in-NoRoom-clause-answer c = told-as c.args.answer _ c.in-NoRoom.is

pub returns-in-NoRoom-clause-told : goal.returns-in-NoRoom-clause-told
returns-in-NoRoom-clause-told c = told (returns-in-NoRoom-clause-answer c)
