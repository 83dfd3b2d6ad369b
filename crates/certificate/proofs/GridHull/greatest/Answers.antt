-- The greatest product bounds the hull: what is above it is above every corner. The loop's invariant: what is above `top`, and above each corner that is left, is above every corner. Assumes nothing.
use mathlib.Core.Path.{◌≡◌, sym, ap, ◌∙◌}
use mathlib.Core.Bool.{Bool, ◌&&◌, and-true}
use mathlib.Core.List.{◌∷◌}
use lib.IntN.{ℤ}
use mir.Syntax.{w64}
use mir.Val.{to_z, of_z}
use Rattle.std.specs.Int.{int_max}
use Rattle.certificate.specs.Certificate.{every, above, corners, product, separated}
use Rattle.certificate.specs.Parts.{Bounds}
use Rattle.certificate.proofs.Sizes.{back-64}
use Rattle.certificate.proofs.Places.{separated-step, separated-end, step}
use Rattle.certificate.proofs.GridHull.greatest.Goals as goal

pub loop-split-init : goal.loop-split-init
loop-split-init c second =
    let d = c.args.direction.vector in
    let first = c.unwrap-first.result in
    let told = c.split_first.ensures.parts in
    let parts : corners c.args.self.numbers.now ≡ first.corner.vector ∷ corners first.rest.numbers.now = rw c.unwrap-first.ensures at told in
    let is : to_z w64 (of_z w64 c.product-top.result) ≡ product d first.corner.vector = back-64 c.product-top.result c.product-top.type_inv ∙ c.product-top.ensures in
    ap (λ (n : ℤ). every (above d n) second && separated d (corners first.rest.numbers.now) second) is ∙ sym (separated-step d second parts)

pub loop-split-preserved : goal.loop-split-preserved
loop-split-preserved c second =
    let d = c.args.direction.vector in
    let top = to_z w64 c.loop-split.top-bits in
    let is = back-64 c.product.result c.product.type_inv ∙ c.product.ensures in
    let greater = back-64 c.max-top.result c.max-top.type_inv ∙ c.max-top.ensures.value ∙ ap (int_max top) is in
    ap (λ (n : ℤ). every (above d n) second && separated d (corners c.in-Some.split.rest.numbers.now) second) greater
    ∙ step d second c.in-Some.ensures.parts top
    ∙ c.loop-split.invariant second

pub returns : goal.returns
unfolding Bounds
returns c second =
    let d = c.args.direction.vector in
    let one = every (above d (to_z w64 c.loop-split.top-bits)) second in
    sym (and-true one) ∙ ap (λ (b : Bool). one && b) (sym (separated-end d second c.in_default.ensures.parts)) ∙ c.loop-split.invariant second
