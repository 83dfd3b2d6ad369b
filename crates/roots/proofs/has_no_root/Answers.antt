-- `roots::has_no_root` meets its contract, by what `number::sqrt` ensures. Assumes nothing.
use mathlib.Core.Path.{ap}
use lib.Ieee.{Float, ne}
use Rattle.roots.proofs.has_no_root.Goals as goal

pub returns : goal.returns
returns c = ap (λ (v : Float). ne v v) c.sqrt-r.ensures.value
