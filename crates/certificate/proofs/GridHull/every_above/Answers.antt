-- Each corner is tested, up to the first that fails. The loop's invariant: what is left to test decides. Assumes nothing.
use mathlib.Core.Path.{◌≡◌, sym, ap, ◌∙◌}
use lib.IntN.{ℤ}
use lib.Signed.{lt_z}
use mir.Facts.{to_z-of_z}
use mir.Syntax.{w64}
use mir.Val.{to_z, of_z}
use Rattle.certificate.specs.Certificate.{every, above, corners, product}
use Rattle.certificate.proofs.Sizes.{back-64}
use Rattle.certificate.proofs.Order.{less_of-not-at-most, not-less_of-at-most}
use Rattle.certificate.proofs.Places.{corner-fails, corner-passes, no-corner-left}
use Rattle.certificate.proofs.GridHull.every_above.Goals as goal
use Rattle.certificate.proofs.GridHull.every_above.Goals.{After-product}

-- what the call tells of the first corner
told : (c : After-product) → to_z w64 (of_z w64 c.product.result) ≡ product c.args.direction.vector c.in-Some.split.corner.vector
told c = back-64 c.product.result c.product.type_inv ∙ c.product.ensures

pub returns-then-product-n : goal.returns-then-product-n
unfolding above
returns-then-product-n c =
    let d = c.args.direction.vector in
    let n = to_z w64 (of_z w64 c.args.n) in
    let p = told (goal.at.returns-then-product-n c).After-product in
    let fails = ap (lt_z n) (sym p) ∙ not-less_of-at-most (to_z w64 (of_z w64 c.product.result)) n c.if-product-n.true in
    sym (corner-fails (above d n) c.in-Some.ensures.parts fails) ∙ c.loop-split.invariant ∙ ap (λ (m : ℤ). every (above d m) (corners c.args.self.numbers.now)) (to_z-of_z c.ranges.n)

pub loop-split-preserved : goal.loop-split-preserved
unfolding above
loop-split-preserved c =
    let n = to_z w64 (of_z w64 c.args.n) in
    let p = told (goal.at.loop-split-preserved c).After-product in
    let passes = ap (lt_z n) (sym p) ∙ less_of-not-at-most (to_z w64 (of_z w64 c.product.result)) n c.if-product-n.false in
    sym (corner-passes (above c.args.direction.vector n) c.in-Some.ensures.parts passes) ∙ c.loop-split.invariant

pub returns : goal.returns
returns c =
    let d = c.args.direction.vector in
    let n = to_z w64 (of_z w64 c.args.n) in
    sym (no-corner-left (above d n) c.in_default.ensures.parts) ∙ c.loop-split.invariant ∙ ap (λ (m : ℤ). every (above d m) (corners c.args.self.numbers.now)) (to_z-of_z c.ranges.n)
