-- What `put_face` leaves: the six places, one after another. Assumes nothing.
use mathlib.Core.Path.{refl, ap}
use native.Mathlib.Omega.{arith}
use Prim.Native.Nat.{ℕ, ◌*◌}
use lib.ListN.{set}
use Rattle.epa_polytope.proofs.Pushing.{six-written}
use Rattle.epa_pushes.proofs.put_face.Goals as goal

pub returns : goal.returns
returns c =
    let a = c.args in
    six-written a.ids.now (a.n * 6) a.corners.a a.corners.b a.corners.c a.neighbours.a a.neighbours.b a.neighbours.c
    (ap (λ (i : ℕ). set a.ids.now i a.corners.a) (omega arith)) refl refl refl refl refl
