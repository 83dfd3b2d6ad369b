-- `figures_next` answers and leaves what the definition does, by its number and by what reading the record found. Assumes nothing.
use Rattle.std.proofs.Common.{ap}
use lib.Ieee.{binary32}
use Rattle.number.proofs.Told.{told}
use Rattle.epa.specs.Final.{Final}
use Rattle.std.specs.Prelude.{Result}
use Rattle.figures.specs.declared.text.Stop.{Stop}
use Rattle.figures.specs.declared.turn.Counted.{Counted}
use Rattle.figures.proofs.Turns.{at-the-end, too_many, whole, malformed, cut}
use Rattle.figures.proofs.turn.figures_next.Goals as goal

abbrev turn : Final (Result Counted Stop) → Result Counted Stop
turn x = x.answer

pub returns-then-bytes-at-clause-answer : goal.returns-then-bytes-at-clause-answer
returns-then-bytes-at-clause-answer c = at-the-end binary32 _ _ _ _ _ _ c.if-bytes-at.true

pub returns-then-bytes-at-clause-told : goal.returns-then-bytes-at-clause-told
returns-then-bytes-at-clause-told c = told (ap turn (returns-then-bytes-at-clause-answer c))

pub returns-then-number-gt-MOST_RECORDS-clause-answer : goal.returns-then-number-gt-MOST_RECORDS-clause-answer
returns-then-number-gt-MOST_RECORDS-clause-answer c = too_many binary32 _ _ _ _ _ _ c.if-bytes-at.false c.if-number-gt-MOST_RECORDS.true

pub returns-then-number-gt-MOST_RECORDS-clause-told : goal.returns-then-number-gt-MOST_RECORDS-clause-told
returns-then-number-gt-MOST_RECORDS-clause-told c = told (ap turn (returns-then-number-gt-MOST_RECORDS-clause-answer c))

pub returns-in-Ok-clause-answer : goal.returns-in-Ok-clause-answer
returns-in-Ok-clause-answer c = whole binary32 _ _ _ _ _ _ c.if-bytes-at.false c.if-number-gt-MOST_RECORDS.false c.read_case.ensures.answer c.in-Ok.is c.separate-outcome.ensures.answer c.counted-with.ensures

pub returns-in-Ok-clause-told : goal.returns-in-Ok-clause-told
returns-in-Ok-clause-told c = told (ap turn (returns-in-Ok-clause-answer c))

pub returns-in-Err-Malformed-clause-answer : goal.returns-in-Err-Malformed-clause-answer
returns-in-Err-Malformed-clause-answer c = malformed binary32 _ _ _ _ _ _ c.if-bytes-at.false c.if-number-gt-MOST_RECORDS.false c.read_case.ensures.answer (rw c.in-Err-Malformed.field-0-is at c.in-Err-Malformed.is) (rw c.in-Err-Malformed.field-0-is at c.offset_of.ensures)

pub returns-in-Err-Malformed-clause-told : goal.returns-in-Err-Malformed-clause-told
returns-in-Err-Malformed-clause-told c = told (ap turn (returns-in-Err-Malformed-clause-answer c))

pub returns-in-Err-Ended-clause-answer : goal.returns-in-Err-Ended-clause-answer
returns-in-Err-Ended-clause-answer c = cut binary32 _ _ _ _ _ _ c.if-bytes-at.false c.if-number-gt-MOST_RECORDS.false c.read_case.ensures.answer (rw c.in-Err-Ended.field-0-is at c.in-Err-Ended.is) c.offset_of-in-Err-Ended.ensures

pub returns-in-Err-Ended-clause-told : goal.returns-in-Err-Ended-clause-told
returns-in-Err-Ended-clause-told c = told (ap turn (returns-in-Err-Ended-clause-answer c))
