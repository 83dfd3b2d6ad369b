-- The number of numbers is tested as the definition says. Assumes nothing.
use mathlib.Core.Path.{refl}
use Rattle.certificate.specs.Certificate.{is_hull}
use Rattle.certificate.proofs.is_hull.Goals as goal

pub returns : goal.returns
unfolding is_hull
returns c = refl
