-- `Shape::local_support_point` returns the definition's `local_support_point`.
use Rattle.shape.specs.Support.{local_support_point}
use Rattle.shape.proofs.support.Shape.local_support_point.Goals as goal

pub returns : goal.returns
unfolding local_support_point
returns c = simp (← c.unit_for.ensures, ← c.local_support_point_toward.ensures)
