-- `is_inside_eps` returns `within_origin`: the distance test alone.
use Rattle.vector.specs.Vector.{zero_v}
use lib.Ieee.{of_bits}
use Rattle.projection.specs.Inside.{within_origin, within}
use Rattle.projection.proofs.point_query.is_inside_eps.Goals as goal

pub returns : goal.returns
unfolding within_origin within of_bits zero_v
returns c = simp (← c.sub-away.ensures, ← c.length_squared.ensures)
