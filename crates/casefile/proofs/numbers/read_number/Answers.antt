-- A number is `decode_number`: its first group, joined with the later ones. Assumes nothing.
use mathlib.Core.Path.{sym, ◌∙◌}
use Rattle.number.proofs.Told.{told}
use Rattle.casefile.proofs.Groups.{first_ended, first-last, first_more}
use Rattle.casefile.proofs.numbers.read_number.Goals as goal

pub returns-then-bytes-at-clause-answer : goal.returns-then-bytes-at-clause-answer
returns-then-bytes-at-clause-answer c = let a = c.args in (sym (first_ended a.bytes.now a.at c.if-bytes-at.true))

pub returns-then-bytes-at-clause-told : goal.returns-then-bytes-at-clause-told
returns-then-bytes-at-clause-told c = told ((returns-then-bytes-at-clause-answer c))

pub returns-then-group-lt128-clause-answer : goal.returns-then-group-lt128-clause-answer
returns-then-group-lt128-clause-answer c =
    let w = c in
    let a = w.args in
    (sym (first-last a.bytes.now a.at w.from-group.result w.if-bytes-at.false w.from-group.ensures c.if-group-lt128.true))

pub returns-then-group-lt128-clause-told : goal.returns-then-group-lt128-clause-told
returns-then-group-lt128-clause-told c = told ((returns-then-group-lt128-clause-answer c))

pub returns-clause-answer : goal.returns-clause-answer
returns-clause-answer c =
    let w = c in
    let a = w.args in
    (c.later.ensures ∙ sym (first_more a.bytes.now a.at w.from-group.result w.if-bytes-at.false w.from-group.ensures c.if-group-lt128.false))

pub returns-clause-told : goal.returns-clause-told
returns-clause-told c = told ((returns-clause-answer c))
