-- A number of more than one group. The invariant: the groups so far, with what the later ones are by `later_in`, give the whole number, and there is room for it. The measure is how many may follow. Assumes nothing.
use Prim.Native.Nat.{ℕ, suc, ◌+◌, ◌-◌, ◌*◌, ◌%◌, ◌<◌}
use mathlib.Core.Path.{◌≡◌, refl, sym, ap, ◌∙◌}
use native.Mathlib.Omega.{arith}
use lib.ListN.{drop}
use Rattle.std.specs.Prelude.{Result}
use Rattle.casefile.specs.declared.numbers.Got.{Got}
use Rattle.casefile.specs.declared.numbers.NumberError.{NumberError}
use Rattle.casefile.specs.Numbers.{joined, later_in, limit}
use Rattle.casefile.proofs.Groups.{later-ended, later-none, later-over, later-fifth, later_last, later_more, held, held_first, held_more, room, seven, limit-next}
use Rattle.casefile.proofs.numbers.later.Goals as goal
use Rattle.casefile.proofs.numbers.later.Goals.{After-from-group}

-- one group fewer may follow
fewer : (n : ℕ) → (n ≡ 0 → ⊥) → n ≡ suc (n - 1)
fewer n h = omega arith

-- what the group at `next` and those after it are is what the number is
whole : (w : After-from-group) (x : Result (Got ℕ) NumberError) → let k = w.before.before.before.loop-next in let a = w.before.before.before.before.before.args in
    later_in k.more (drop k.next a.bytes.now) k.next ≡ x → held k.value k.weight x ≡ joined a.first (later_in 3 (drop a.at a.bytes.now) a.at)
whole w x e = let k = w.before.before.before.loop-next in sym (ap (held k.value k.weight) e) ∙ k.invariant.2

fits : (w : After-from-group) (group : ℕ) → let k = w.before.before.before.loop-next in group < limit k.more → k.value + k.weight * group < 0x1_0000_0000
fits w group l = let k = w.before.before.before.loop-next in rw k.invariant.1 at (room k.value k.weight (limit k.more) group k.invariant.0 l)

pub loop-next-init : goal.loop-next-init
loop-next-init c = let a = c.args in (c.requires, refl, held_first a.first (later_in 3 (drop a.at a.bytes.now) a.at))

pub returns-then-group-eq0 : goal.returns-then-group-eq0
returns-then-group-eq0 c =
    let w = c in
    let k = w.loop-next in
    whole (goal.at.returns-then-group-eq0 c).After-from-group _ (later-none w.args.bytes.now k.next w.from-group.result w.loop-next-test.true w.from-group.ensures k.more c.if-group-eq0.true)

pub returns-then-group-gt15 : goal.returns-then-group-gt15
returns-then-group-gt15 c =
    let w = c in
    let k = w.loop-next in
    whole (goal.at.returns-then-group-gt15 c).After-from-group _ (later-over w.args.bytes.now k.next w.from-group.result w.loop-next-test.true w.from-group.ensures k.more c.if-more-eq0.true c.if-group-eq0.false c.if-group-gt15.true)

pub returns-then-more-eq0 : goal.returns-then-more-eq0
returns-then-more-eq0 c =
    let w = c in
    let k = w.loop-next in
    whole (goal.at.returns-then-more-eq0 c).After-from-group _ (later-fifth w.args.bytes.now k.next w.from-group.result w.loop-next-test.true w.from-group.ensures k.more c.if-more-eq0.true c.if-group-eq0.false c.if-group-gt15.false)

pub returns-then-group-lt128 : goal.returns-then-group-lt128
returns-then-group-lt128 c =
    let w = c in
    let k = w.loop-next in
    whole (goal.at.returns-then-group-lt128 c).After-from-group _ (later_last w.args.bytes.now k.next w.from-group.result w.loop-next-test.true w.from-group.ensures k.more _ (fewer _ c.if-more-eq0.false) c.if-group-eq0.false c.if-group-lt128.true)

pub loop-next-preserved : goal.loop-next-preserved
loop-next-preserved c =
    let w = c in
    let k = w.loop-next in
    let one_less = fewer _ c.if-more-eq0.false in (
      room _ _ 128 _ k.invariant.0 (omega arith),
      limit-next _ _ k.weight one_less ∙ k.invariant.1,
      sym (held_more k.value k.weight (w.from-group.result % 128) (later_in (k.more - 1) (drop (k.next + 1) w.args.bytes.now) (k.next + 1)))
          ∙ whole (goal.at.loop-next-preserved c).After-from-group _ (later_more w.args.bytes.now k.next w.from-group.result w.loop-next-test.true w.from-group.ensures k.more _ one_less c.if-group-eq0.false c.if-group-lt128.false),
    )

pub returns : goal.returns
returns c =
    let k = c.loop-next in
    sym (ap (held k.value k.weight) (later-ended c.args.bytes.now k.next k.more c.loop-next-test.false)) ∙ k.invariant.2

pub overflow_mul-result-then-group-lt128 : goal.overflow_mul-result-then-group-lt128
overflow_mul-result-then-group-lt128 c = omega (arith, fits (goal.at.overflow_mul-result-then-group-lt128 c).After-from-group c.from-group.result (omega (arith, c.if-group-lt128.true, seven _ c.if-more-eq0.false)))

pub overflow_add-result-then-group-lt128 : goal.overflow_add-result-then-group-lt128
overflow_add-result-then-group-lt128 c = omega (arith, fits (goal.at.overflow_add-result-then-group-lt128 c).After-from-group c.from-group.result (omega (arith, c.if-group-lt128.true, seven _ c.if-more-eq0.false)))

-- a group that another follows
pub overflow_mul-value : goal.overflow_mul-value
overflow_mul-value c = omega (arith, fits (goal.at.overflow_mul-value c).After-from-group (c.from-group.result % 128) (omega (arith, seven _ c.if-more-eq0.false)))

pub overflow_add-value : goal.overflow_add-value
overflow_add-value c = omega (arith, fits (goal.at.overflow_add-value c).After-from-group (c.from-group.result % 128) (omega (arith, seven _ c.if-more-eq0.false)))

pub overflow_mul-weight : goal.overflow_mul-weight
overflow_mul-weight c = omega (arith, fits (goal.at.overflow_mul-weight c).After-from-group 128 (seven _ c.if-more-eq0.false))
