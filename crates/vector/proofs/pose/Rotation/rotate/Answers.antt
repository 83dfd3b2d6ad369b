-- `Rotation::rotate` returns `rotate_v`, operation by operation.
use lib.Ieee.{of_bits}
use Rattle.vector.specs.Pose.{rotate_v}
use Rattle.vector.proofs.pose.Rotation.rotate.Goals as goal

pub returns : goal.returns
unfolding rotate_v of_bits
returns c = simp (← c.axis-b.ensures, ← c.dot.ensures, ← c.mul-along.ensures, ← c.dot-2.ensures, ← c.mul-onto.ensures, ← c.cross.ensures, ← c.mul-across.ensures, ← c.add.ensures, ← c.add-2.ensures)
