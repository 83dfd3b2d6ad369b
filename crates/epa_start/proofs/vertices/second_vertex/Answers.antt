-- `second_vertex` finds what `first_far` finds: the directions that are left find what all six do. Assumes nothing.
use native.Mathlib.Omega.{arith}
use Rattle.epa_polytope.proofs.Searching.{search-starts, found, passed-by, none_left}
use Rattle.epa_start.proofs.vertices.second_vertex.Goals as goal

pub loop-i-init : goal.loop-i-init
loop-i-init c = search-starts _ _ _

pub loop-i-smaller : goal.loop-i-smaller
loop-i-smaller c = omega (arith, c.if-i-eq6.false, c.loop-i.invariant.within)

pub loop-i-preserved : goal.loop-i-preserved
loop-i-preserved c =
    passed-by c.loop-i.invariant (omega (arith, c.if-i-eq6.false, c.loop-i.invariant.within)) c.direction_of.ensures c.support_point-pt.ensures
    c.is_far_from.ensures c.if-is_far_from.false

pub returns-then-i-eq6 : goal.returns-then-i-eq6
returns-then-i-eq6 c = none_left c.loop-i.invariant (omega (arith, c.if-i-eq6.true))

pub returns-then-is_far_from : goal.returns-then-is_far_from
returns-then-is_far_from c =
    found c.loop-i.invariant (omega (arith, c.if-i-eq6.false, c.loop-i.invariant.within)) c.direction_of.ensures c.support_point-pt.ensures
    c.is_far_from.ensures c.if-is_far_from.true
