-- `locate_triangle` returns the definition's `locate_triangle`.
use Rattle.std.proofs.Common.{rules}
use lib.Ieee.{of_bits}
use Rattle.vector.specs.Vector.{zero_v}
use Rattle.reduction.specs.Reduction.{locate_triangle}
use Rattle.reduction.proofs.location.locate_triangle.Goals as goal

pub returns : goal.returns
unfolding locate_triangle zero_v of_bits
returns c = search rules
