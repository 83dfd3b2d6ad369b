-- What the loop of `numbers_at` keeps.
use Rattle.casefile.proofs.Words.{Loop}
use Rattle.casefile.proofs.records.numbers_at.Given as goal

abbrev pub invariant-loop-i : goal.invariant-loop-i
invariant-loop-i l = Loop l.bytes l.at l.count l.words l.next l.i
