-- `number::max` meets its contract: the code's tests are those of `larger`, in its order. Assumes nothing.
use lib.Ieee.{is_nan}
use Rattle.number.specs.Small.{larger}
use Rattle.number.proofs.Values.{is-nan, no_nan}
use Rattle.number.proofs.max.Goals as goal

pub returns-then-a : goal.returns-then-a
unfolding larger is_nan
returns-then-a c = rw (is-nan c.args.a c.if-a.true)

pub returns-then-b : goal.returns-then-b
unfolding larger is_nan
returns-then-b c = rw (no_nan c.args.a c.if-a.false, is-nan c.args.b c.if-b.true)

pub returns-then-a-b : goal.returns-then-a-b
unfolding larger
returns-then-a-b c =
    let s = c in
    rw (no_nan s.args.a c.if-a.false, no_nan s.args.b c.if-b.false, c.if-a-b.true)

pub returns-then-b-a : goal.returns-then-b-a
unfolding larger
returns-then-b-a c =
    let s = c in
    rw (no_nan s.args.a c.if-a.false, no_nan s.args.b c.if-b.false, c.if-a-b.false, c.if-b-a.true)

pub returns-then-has_minus : goal.returns-then-has_minus
unfolding larger
returns-then-has_minus c =
    let t = c in
    let s = t in
    rw (no_nan s.args.a t.if-a.false, no_nan s.args.b t.if-b.false, t.if-a-b.false, t.if-b-a.false, ← c.has_minus.ensures, c.if-has_minus.true)

pub returns-else-has_minus : goal.returns-else-has_minus
unfolding larger
returns-else-has_minus c =
    let t = c in
    let s = t in
    rw (no_nan s.args.a t.if-a.false, no_nan s.args.b t.if-b.false, t.if-a-b.false, t.if-b-a.false, ← c.has_minus.ensures, c.if-has_minus.false)
