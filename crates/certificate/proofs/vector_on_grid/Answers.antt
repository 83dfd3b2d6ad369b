-- Each number of a vector is tested. Assumes nothing.
use borrow.Author.Rules.{rules}
use mir.Facts.{to_z-of_z}
use mir.Syntax.{w32}
use mir.Val.{SFits}
use Rattle.certificate.specs.Certificate.{vector_on_grid}
use Rattle.certificate.proofs.vector_on_grid.Goals as goal

pub returns : goal.returns
unfolding vector_on_grid
returns c =
    let x : SFits w32 c.args.v.x = search rules in
    let y : SFits w32 c.args.v.y = search rules in
    let z : SFits w32 c.args.v.z = search rules in
    simp (c.on_grid.ensures, c.on_grid-2.ensures, c.on_grid-3.ensures, to_z-of_z x, to_z-of_z y, to_z-of_z z)
