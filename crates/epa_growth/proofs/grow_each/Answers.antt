-- `grow_each` does what the run's `grow_all` does: at each turn what is left of the edges does the same as all did at first. Assumes nothing.
use Rattle.std.proofs.Common.{rules}
use Rattle.std.proofs.lemmas.Result.{err_from_is_err_and}
use Rattle.epa_polytope.specs.Promises.{single}
use Rattle.epa_polytope.proofs.Growing.{loop-starts, loop-turns, loop-ends, loop-done}
use Rattle.epa_growth.proofs.grow_each.Goals as goal

pub loop-i-init : goal.loop-i-init
loop-i-init c = record { grown = λ k. loop-starts single _ _ _ _; kept = search rules }

pub returns-in_err-tally-clause-leaves : goal.returns-in_err-tally-clause-leaves
returns-in_err-tally-clause-leaves c k =
    let p = err_from_is_err_and c.from_residual.result c.from_residual.ensures.1 in
    rw (p.1, p.2) (loop-ends (c.loop-i.invariant.grown k) c.loop-i-test.true (c.grow.ensures.leaves k) c.in_err-tally.was)

pub loop-i-preserved : goal.loop-i-preserved
loop-i-preserved c =
    record {
      grown = λ k. loop-turns (c.loop-i.invariant.grown k) c.loop-i-test.true (c.grow.ensures.leaves k) c.in_ok-tally.was;
      kept = search rules;
    }

pub returns-clause-leaves : goal.returns-clause-leaves
returns-clause-leaves c k = loop-done (c.loop-i.invariant.grown k) c.loop-i-test.false
