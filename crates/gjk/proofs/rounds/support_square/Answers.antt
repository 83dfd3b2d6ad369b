-- `support_square` returns what has the larger scale for its root. Assumes nothing.
use lib.Dec.{T}
use lib.Ieee.{Format, binary32, fits}
use lib.Ieee.Fits.{add-fits}
use Rattle.number.proofs.Monotone.{larger-root}
use Rattle.vector.specs.declared.vec3.Vec3.{Vec3}
use Rattle.vector.specs.Vector.{dot_v, length_squared_v, length_v}
use Rattle.gjk.proofs.rounds.support_square.Goals as goal
use Rattle.gjk.proofs.rounds.support_square.Goals.{Start}

-- what a parameter holds is a value of the format, and so is a sum
kept-fits : (c : Start) → T (fits binary32 c.args.kept)
kept-fits c = rw c.well_formed.0.1 tt

square-fits : (f : Format) (p : Vec3) → T (fits f (length_squared_v f p))
unfolding length_squared_v dot_v
square-fits f p = add-fits f _ _

pub returns : goal.returns
unfolding length_v
returns c =
    let start = (goal.at.returns c).Start in
    simp (c.max.ensures, c.length_squared.ensures, larger-root binary32 c.args.kept (length_squared_v binary32 c.args.point) (kept-fits start) (square-fits binary32 c.args.point))
