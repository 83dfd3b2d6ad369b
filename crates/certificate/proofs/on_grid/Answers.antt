-- A number is tested against both ends, which is the definition's test of its size (`range-tested`). Assumes nothing.
use mir.Facts.{to_z-of_z}
use Rattle.certificate.proofs.Sizes.{range-tested}
use Rattle.certificate.proofs.on_grid.Goals as goal

pub returns : goal.returns
returns c = simp (to_z-of_z c.ranges.n) (range-tested c.args.n)
