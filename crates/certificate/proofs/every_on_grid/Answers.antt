-- Each number of the hull is tested, up to the first that fails. The loop's invariant: what is left to test decides. Assumes nothing.
use mathlib.Core.Path.{◌≡◌, sym, ap, ◌∙◌}
use native.Mathlib.Omega.{arith}
use borrow.Author.Rules.{rules}
use lib.IntN.{pos}
use lib.ListN.{get_or}
use mir.Facts.{to_z-of_z}
use mir.Syntax.{w32}
use mir.Val.{SFits}
use Rattle.certificate.specs.Certificate.{on_grid}
use Rattle.certificate.proofs.Places.{every-fails, every-passes, every-end}
use Rattle.certificate.proofs.every_on_grid.Goals as goal
use Rattle.certificate.proofs.every_on_grid.Goals.{After-on_grid}

-- what the call tells of the number at this place
told : (c : After-on_grid) → c.on_grid.result ≡ on_grid (get_or c.args.hull.now c.loop-n.n-index (pos 0))
told c =
    let fits : SFits w32 (get_or c.args.hull.now c.loop-n.n-index (pos 0)) = search rules in
    c.on_grid.ensures ∙ ap on_grid (to_z-of_z fits)

pub returns-then-not-on_grid : goal.returns-then-not-on_grid
returns-then-not-on_grid c =
    sym (every-fails on_grid c.args.hull.now c.loop-n.n-index c.loop-n-test.true (sym (told (goal.at.returns-then-not-on_grid c).After-on_grid) ∙ c.if-not-on_grid.true))
    ∙ c.loop-n.invariant.1

pub loop-n-preserved : goal.loop-n-preserved
loop-n-preserved c = (
  omega arith,
  sym (every-passes on_grid c.args.hull.now c.loop-n.n-index c.loop-n-test.true (sym (told (goal.at.loop-n-preserved c).After-on_grid) ∙ c.if-not-on_grid.false))
      ∙ c.loop-n.invariant.1,
)

pub returns : goal.returns
returns c = sym (every-end on_grid c.args.hull.now c.loop-n.n-index c.loop-n-test.false) ∙ c.loop-n.invariant.1
