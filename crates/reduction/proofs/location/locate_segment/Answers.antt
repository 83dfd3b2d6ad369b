-- `locate_segment` returns the definition's `locate_segment`.
use Rattle.std.proofs.Common.{rules}
use lib.Ieee.{of_bits}
use Rattle.vector.specs.Vector.{zero_v}
use Rattle.reduction.specs.Reduction.{locate_segment}
use Rattle.reduction.proofs.location.locate_segment.Goals as goal

pub returns-in_err-proj : goal.returns-in_err-proj
unfolding locate_segment zero_v of_bits
returns-in_err-proj c = search rules

pub returns : goal.returns
unfolding locate_segment zero_v of_bits
returns c = search rules
