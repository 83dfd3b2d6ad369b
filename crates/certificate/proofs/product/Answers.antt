-- The product of two vectors on the grid: each part is at most 2^40, so that the sums fit. Assumes nothing.
use mathlib.Core.Path.{◌≡◌}
use borrow.Author.Rules.{rules}
use lib.IntN.{◌*ℤ◌}
use mir.Facts.{to_z-of_z}
use mir.Syntax.{w32}
use mir.Val.{SFits}
use Rattle.certificate.specs.Certificate.{product}
use Rattle.certificate.proofs.Sizes.{Fitting, on-grid-fits}
use Rattle.certificate.proofs.product.Goals as goal
use Rattle.certificate.proofs.product.Goals.{After-times-2, After-times-3}

-- the first two products
record Two (c : After-times-2) : Type 0 where
  fit : Fitting c.args.direction.vector c.args.corner.vector
  first : c.times.result ≡ c.args.direction.vector.x *ℤ c.args.corner.vector.x
  second : c.times-2.result ≡ c.args.direction.vector.y *ℤ c.args.corner.vector.y

two : (c : After-times-2) → Two c
two c =
    let dx : SFits w32 c.args.direction.vector.x = search rules in
    let dy : SFits w32 c.args.direction.vector.y = search rules in
    let cx : SFits w32 c.args.corner.vector.x = search rules in
    let cy : SFits w32 c.args.corner.vector.y = search rules in
    record {
      fit = on-grid-fits c.args.direction.vector c.args.corner.vector c.args.direction.in_range c.args.corner.in_range;
      first = simp (to_z-of_z dx, to_z-of_z cx) at c.times.ensures;
      second = simp (to_z-of_z dy, to_z-of_z cy) at c.times-2.ensures;
    }

third : (c : After-times-3) → c.times-3.result ≡ c.args.direction.vector.z *ℤ c.args.corner.vector.z
third c =
    let dz : SFits w32 c.args.direction.vector.z = search rules in
    let cz : SFits w32 c.args.corner.vector.z = search rules in
    simp (to_z-of_z dz, to_z-of_z cz) at c.times-3.ensures

pub overflow_add-result : goal.overflow_add-result
overflow_add-result c =
    let p = two (goal.at.overflow_add-result c).After-times-2 in
    let fit = p.fit in
    simp (p.first, p.second, to_z-of_z fit.first, to_z-of_z fit.second) fit.two

pub overflow_add-result-2 : goal.overflow_add-result-2
overflow_add-result-2 c =
    let p = two (goal.at.overflow_add-result-2 c).After-times-2 in
    let fit = p.fit in
    simp (p.first, p.second, third (goal.at.overflow_add-result-2 c).After-times-3, to_z-of_z fit.first, to_z-of_z fit.second, to_z-of_z fit.third, to_z-of_z fit.two) fit.three

pub returns : goal.returns
unfolding product
returns c =
    let p = two (goal.at.returns c).After-times-2 in
    let fit = p.fit in
    simp (p.first, p.second, third (goal.at.returns c).After-times-3, to_z-of_z fit.first, to_z-of_z fit.second, to_z-of_z fit.third, to_z-of_z fit.two) (to_z-of_z fit.three)
