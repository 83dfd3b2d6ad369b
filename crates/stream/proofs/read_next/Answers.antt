-- `read_next` comes to what the definition does, by the record's number and by what reading it found. Assumes nothing.
use lib.Ieee.{binary32}
use Rattle.stream.proofs.Turns.{all_read, found-whole, malformed, cut}
use Rattle.stream.proofs.read_next.Goals as goal

pub returns-then-number-gt-MOST_RECORDS : goal.returns-then-number-gt-MOST_RECORDS
returns-then-number-gt-MOST_RECORDS c = all_read binary32 _ _ _ _ _ _ c.if-number-gt-MOST_RECORDS.true

pub returns-in-Ok : goal.returns-in-Ok
returns-in-Ok c = found-whole binary32 _ _ _ _ _ _ c.if-number-gt-MOST_RECORDS.false c.read_case.ensures.answer c.in-Ok.is

pub returns-in-Err-Malformed : goal.returns-in-Err-Malformed
returns-in-Err-Malformed c =
    malformed binary32 _ _ _ _ _ _ c.if-number-gt-MOST_RECORDS.false c.read_case.ensures.answer c.write_bad-written.ensures
    c.bad_turn.ensures (rw c.in-Err-Malformed.field-0-is at c.in-Err-Malformed.is) c.offset_of.ensures

pub returns-in-Err-Ended : goal.returns-in-Err-Ended
returns-in-Err-Ended c =
    cut binary32 _ _ _ _ _ _ c.if-number-gt-MOST_RECORDS.false c.read_case.ensures.answer c.write_bad-written-in-Err-Ended.ensures
    c.bad_turn-in-Err-Ended.ensures (rw c.in-Err-Ended.field-0-is at c.in-Err-Ended.is) c.offset_of-in-Err-Ended.ensures
