-- `run` does what the run's `epa` does: the start, and then the expansions, of which the stores that the start leaves are a run's. Assumes nothing.
use Rattle.epa.proofs.Running.{start-ends, started, run_ends}
use Rattle.epa.proofs.run.Goals as goal

pub returns-in-Err-clause-leaves : goal.returns-in-Err-clause-leaves
returns-in-Err-clause-leaves g c = start-ends _ _ _ c.begin.ensures.leaves c.in-Err.is

pub expansions-requires : goal.expansions-requires
expansions-requires g c = started _ _ _ c.begin.ensures.leaves c.in-Ok.is

pub returns-in-Ok-clause-leaves : goal.returns-in-Ok-clause-leaves
returns-in-Ok-clause-leaves g c = run_ends _ _ _ c.begin.ensures.leaves c.in-Ok.is c.expansions.ensures.leaves
