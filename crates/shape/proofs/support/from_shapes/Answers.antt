-- `from_shapes` returns the definition's `from_shapes`.
use Rattle.shape.specs.Support.{from_shapes}
use Rattle.shape.proofs.support.from_shapes.Goals as goal

pub returns : goal.returns
unfolding from_shapes
returns c = simp (← c.local_support_point-sp1.ensures, ← c.neg.ensures, ← c.support_point-sp2.ensures, ← c.new.ensures)
