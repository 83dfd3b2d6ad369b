-- The first three numbers are the first corner; they and the others are on the grid as all are. Assumes nothing.
use borrow.Author.Rules.{rules}
use native.Mathlib.Omega.{arith}
use lib.IntN.{pos}
use lib.ListN.{get_or}
use mir.Facts.{to_z-of_z}
use mir.Syntax.{w32}
use mir.Val.{SFits}
use Rattle.certificate.proofs.Places.{few-corners, parts}
use Rattle.certificate.proofs.GridHull.split_first.Goals as goal

pub returns-in_default-clause-parts : goal.returns-in_default-clause-parts
returns-in_default-clause-parts c = few-corners c.args.self.numbers.now (omega arith)

pub invariant_of-result : goal.invariant_of-result
invariant_of-result c =
    let l = c.args.self.numbers.now in
    let x : SFits w32 (get_or l 0 (pos 0)) = search rules in
    let y : SFits w32 (get_or l 1 (pos 0)) = search rules in
    let z : SFits w32 (get_or l 2 (pos 0)) = search rules in
    let on = (parts l (omega arith)).corner_on_grid c.args.self.in_range in
    record { in_range = simp (to_z-of_z x, to_z-of_z y, to_z-of_z z) on }

pub invariant_of-result-2 : goal.invariant_of-result-2
invariant_of-result-2 c = record { in_range = (parts c.args.self.numbers.now (omega arith)).others_on_grid c.args.self.in_range }

pub returns-clause-parts : goal.returns-clause-parts
returns-clause-parts c =
    let l = c.args.self.numbers.now in
    let x : SFits w32 (get_or l 0 (pos 0)) = search rules in
    let y : SFits w32 (get_or l 1 (pos 0)) = search rules in
    let z : SFits w32 (get_or l 2 (pos 0)) = search rules in
    simp (to_z-of_z x, to_z-of_z y, to_z-of_z z) (parts l (omega arith)).corners
