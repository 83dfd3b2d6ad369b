-- `push_points` does what the run's `push_points` does: at each turn what is left of the simplex does the same as all did at first. Assumes nothing.
use Rattle.std.proofs.Common.{rules, arith}
use Rattle.epa_polytope.proofs.Doing.{hands-on}
use Rattle.epa_polytope.proofs.Starting.{points-start, points-turn, points-end, points-done}
use Rattle.epa_start.proofs.vertices.push_points.Goals as goal

pub loop-i-init : goal.loop-i-init
loop-i-init c = record { pushed = points-start _ _ _ _; kept = search rules }

pub returns-in_err-tally-clause-leaves : goal.returns-in_err-tally-clause-leaves
returns-in_err-tally-clause-leaves c =
    hands-on c.from_residual.ensures.1
    (points-end c.loop-i.invariant.pushed (omega (arith, c.loop-i-test.true)) c.push_vertex.ensures.leaves c.in_err-tally.was)

pub loop-i-preserved : goal.loop-i-preserved
loop-i-preserved c =
    record {
      pushed = points-turn c.loop-i.invariant.pushed (omega (arith, c.loop-i-test.true)) c.push_vertex.ensures.leaves c.in_ok-tally.was;
      kept = search rules;
    }

pub returns-clause-leaves : goal.returns-clause-leaves
returns-clause-leaves c = points-done c.loop-i.invariant.pushed (omega (arith, c.loop-i-test.false))
