-- `cuboid_local` returns the definition's `cuboid_local`, component by component.
use Rattle.shape.specs.Support.{cuboid_local}
use Rattle.shape.proofs.support.cuboid_local.Goals as goal

pub returns : goal.returns
unfolding cuboid_local
returns c = simp (← c.copy_sign.ensures, ← c.copy_sign-2.ensures, ← c.copy_sign-3.ensures)
