-- What `winds_inward` returns, its calls folded back in the order of the code. Assumes nothing.
use lib.Ieee.{of_bits}
use Rattle.epa_polytope.specs.Start.{winds_inward}
use Rattle.epa_first_faces.proofs.four.winds_inward.Goals as goal

pub returns : goal.returns
unfolding winds_inward of_bits
returns c = simp (
  ← c.dot.ensures,
  ← c.cross.ensures,
  ← c.sub-dp3.ensures,
  ← c.vertex_at-4.ensures,
  ← c.sub-dp2.ensures,
  ← c.vertex_at-3.ensures,
  ← c.sub-dp1.ensures,
  ← c.vertex_at-2.ensures,
  ← c.vertex_at.ensures,
)
