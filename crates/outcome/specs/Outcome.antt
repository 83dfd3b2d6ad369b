-- A run of the polytope, told as the outcome of a record (document 01, "What the channel computes"). Definitions only.
use Rattle.epa_polytope.specs.declared.types.End.{End}
use Rattle.epa.specs.declared.types.Answer.{Answer}
use Rattle.counts.specs.declared.Counts.{Counts}
use Rattle.lines.specs.declared.line.Outcome.{Outcome}

-- letters P, N, X and R
abbrev pub ended_as : End → Counts → Outcome
ended_as (End.Answers why p1 p2 n) c = Outcome.Penetration p1 p2 n c
ended_as (End.Nothing why) c = Outcome.NoAnswer c
ended_as (End.Panics site) c = Outcome.Panic
ended_as (End.NoRoom store) c = Outcome.NoPlace c

unfoldable pub outcome_of : Answer → Outcome
outcome_of x = ended_as x.end x.counts
