-- `number::digits::nearest_root` meets its contract. The invariant of its loop: the digits of n's root that stand before the next weight are found, and nothing wraps. The measure is c. Assumes nothing.
use borrow.Author.Rules.{rules}
use native.Mathlib.Omega.{arith}
use Rattle.number.proofs.Schoolbook.{Root, first, one-next, zero-next, all, round_up, round-down}
use Rattle.number.proofs.digits.nearest_root.Goals as goal
use Rattle.number.proofs.digits.nearest_root.Goals.{After-loop-c, then-rest-t, else-rest-t}

-- past the loop all digits are found
whole : (c : After-loop-c) → Root c.before.before.args.n c.before.loop-c.p c.before.loop-c.rest
whole c = all _ _ _ _ c.loop-c-test.false c.before.loop-c.invariant.0

pub loop-c-init : goal.loop-c-init
loop-c-init c = (first c.args.n 24 c.requires.1, search rules, search rules)

pub loop-c-preserved : goal.loop-c-preserved
loop-c-preserved c =
    let more = c.loop-c-test.true in
    let f = c.loop-c.invariant.0 in
    elim c.if-rest-t.branch [
      | then-rest-t w ↦ rw (w.rest-is, w.p-is) (zero-next _ _ _ _ more f w.if-rest-t.true, omega arith, omega arith)
      | else-rest-t w ↦ rw (w.rest-is, w.p-is) (one-next _ _ _ _ more f w.if-rest-t.false, omega arith, omega arith)
    ]

pub returns-then-p-rest : goal.returns-then-p-rest
returns-then-p-rest c = round_up _ _ _ (whole (goal.at.returns-then-p-rest c).After-loop-c) c.if-p-rest.true

pub returns-else-p-rest : goal.returns-else-p-rest
returns-else-p-rest c = round-down _ _ _ c.requires.0 (whole (goal.at.returns-else-p-rest c).After-loop-c) c.if-p-rest.false
