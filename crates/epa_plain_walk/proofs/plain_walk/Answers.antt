-- The loop is the walk: at each turn what is left of it does the same as all did at first, and something falls. Assumes nothing.
use mathlib.Core.Path.{refl, ap, ◌∙◌}
use native.Mathlib.Omega.{arith}
use Rattle.epa_polytope.specs.PlainWalk.{plain_walk}
use Rattle.epa_polytope.proofs.Doing.{nothing-else}
use Rattle.epa_polytope.proofs.PlainLoop.{goes, turn-less, walk-short, walk-full, loop-starts, ends-short, ends-full, ends-empty, loop-again as again}
use Rattle.epa_plain_walk.proofs.plain_walk.Goals as goal

pub loop-held-init : goal.loop-held-init
loop-held-init c = loop-starts _ _

pub loop-held-smaller : goal.loop-held-smaller
loop-held-smaller c = turn-less _ _ _ _ _ _ _ c.loop-held-test.true (c.take_turn-turned.ensures nothing-else)

pub loop-held-preserved : goal.loop-held-preserved
loop-held-preserved c =
    again c.loop-held.invariant c.take_turn-turned.ensures (goes _ c.in-Ok-answer.is c.if-turned.false)
    c.take_turn-turned.auto.deleted c.take_turn-turned.auto.edges c.take_turn-turned.auto.pending

-- a start after which nothing is done
pub returns-in_default : goal.returns-in_default
returns-in_default c k = walk-full _ _ c.in_default.is

pub returns-then-start : goal.returns-then-start
returns-then-start c k = walk-short _ _ c.if-start.true

-- a turn that found no room
pub returns-in_default-answer : goal.returns-in_default-answer
returns-in_default-answer c k =
    ends-full c.loop-held.invariant c.take_turn-turned.ensures c.in_default-answer.is k
    ∙ ap (plain_walk _) (goes _ c.in-Ok.is c.if-start.false)

pub returns-then-turned : goal.returns-then-turned
returns-then-turned c k =
    ends-short c.loop-held.invariant c.take_turn-turned.ensures c.if-turned.true k
    ∙ ap (plain_walk _) (goes _ c.in-Ok.is c.if-start.false)

-- no question is held
pub returns : goal.returns
returns c k =
    ends-empty c.loop-held.invariant refl refl (omega (arith, c.loop-held-test.false)) k
    ∙ ap (plain_walk _) (goes _ c.in-Ok.is c.if-start.false)
