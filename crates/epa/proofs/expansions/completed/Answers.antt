-- What `completed` returns: the count is one of at most 101. Assumes nothing.
use native.Mathlib.Omega.{arith}
use Rattle.epa.proofs.expansions.completed.Goals as goal

pub overflow_add-tally : goal.overflow_add-tally
overflow_add-tally c = omega (arith, c.requires)
