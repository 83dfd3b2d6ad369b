-- What `direction_of` returns: `direction` by computation, one arm of the match a place. Assumes nothing.
use Rattle.std.proofs.Common.{◌≢◌, arith, ne_eqb}
use lib.Ieee.{of_bits}
use Rattle.vector.specs.Vector.{x_v, y_v, z_v}
use Rattle.epa_polytope.specs.Start.{direction}
use Rattle.epa_start.proofs.vertices.direction_of.Goals as goal

pub returns-in-0 : goal.returns-in-0
unfolding direction x_v y_v z_v of_bits
returns-in-0 c = simp c.in-0.is

pub returns-in-1 : goal.returns-in-1
unfolding direction x_v y_v z_v of_bits
returns-in-1 c = simp c.in-1.is

pub returns-in-2 : goal.returns-in-2
unfolding direction x_v y_v z_v of_bits
returns-in-2 c = simp c.in-2.is

pub returns-in-3 : goal.returns-in-3
unfolding direction x_v y_v z_v of_bits
returns-in-3 c = simp (← c.neg.ensures, c.in-3.is)

pub returns-in-4 : goal.returns-in-4
unfolding direction x_v y_v z_v of_bits
returns-in-4 c = simp (← c.neg-in-4.ensures, c.in-4.is)

pub returns-in_default : goal.returns-in_default
unfolding direction x_v y_v z_v of_bits
returns-in_default c =
    let n0 : c.args.i ≢ 0 = omega arith in
    let n1 : c.args.i ≢ 1 = omega arith in
    let n2 : c.args.i ≢ 2 = omega arith in
    let n3 : c.args.i ≢ 3 = omega arith in
    let n4 : c.args.i ≢ 4 = omega arith in
    simp (← c.neg-in_default.ensures, ne_eqb _ _ n0, ne_eqb _ _ n1, ne_eqb _ _ n2, ne_eqb _ _ n3, ne_eqb _ _ n4)
