-- `swap_in` returns the definition's `swap_in`: the library's `swap`, of both arrays.
use mathlib.Core.Path.{refl}
use native.Mathlib.Omega.{arith}
use Rattle.simplex.specs.Simplex.{nowhere, swap_in}
use Rattle.simplex.proofs.Vertices.{swapped}
use Rattle.simplex.proofs.steps.swap_in.Goals as goal

pub returns : goal.returns
unfolding swap_in
returns c =
    rw (c.swap.ensures.after, c.swap-2.ensures.after, swapped nowhere c.args.s.vertices c.args.i1 c.args.i2 (omega arith) (omega arith), swapped 0 c.args.s.prev_vertices c.args.i1 c.args.i2 (omega arith) (omega arith)) refl
