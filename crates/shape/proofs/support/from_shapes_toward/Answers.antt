-- `from_shapes_toward` returns the definition's `from_shapes_toward`.
use Rattle.shape.specs.Support.{from_shapes_toward}
use Rattle.shape.proofs.support.from_shapes_toward.Goals as goal

pub returns : goal.returns
unfolding from_shapes_toward
returns c = simp (← c.local_support_point_toward-sp1.ensures, ← c.neg.ensures, ← c.support_point_toward-sp2.ensures, ← c.new.ensures)
