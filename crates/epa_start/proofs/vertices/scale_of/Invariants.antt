-- What the loop of `scale_of` keeps.
use lib.Ieee.{binary32}
use Rattle.epa_polytope.proofs.Starting.{ScaleLoop}
use Rattle.epa_stores.specs.Lent.{held}
use Rattle.epa_start.proofs.vertices.scale_of.Given as goal

abbrev pub invariant-loop-i : goal.invariant-loop-i
invariant-loop-i l = ScaleLoop binary32 (held l.stores).vertices l.i l.greatest
