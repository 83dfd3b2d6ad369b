-- `max_sq_len` returns the definition's `max_sq_len`, of the vertices that there are.
use Prim.Native.Nat.{◌+◌}
use native.Mathlib.Omega.{arith}
use lib.Ieee.{binary32}
use Rattle.number.proofs.Told.{told}
use Rattle.simplex.specs.Operations.{max_sq_len}
use Rattle.simplex.proofs.Laws.{small}
use Rattle.simplex.proofs.Vertices.{fold-max}
use Rattle.simplex.proofs.voronoi_simplex.VoronoiSimplex.max_sq_len.Goals as goal

pub overflow_add-self : goal.overflow_add-self
overflow_add-self c = let h = small c.args.self (rw (← c.is_simplex.ensures) c.if-is_simplex.true) in omega (arith, h.dimension)

pub shared_ref_as_front-max_sq_len_in : goal.shared_ref_as_front-max_sq_len_in
shared_ref_as_front-max_sq_len_in c = let h = small c.args.self (rw (← c.is_simplex.ensures) c.if-is_simplex.true) in omega (arith, h.dimension)

pub returns-then-is_simplex-clause-answer : goal.returns-then-is_simplex-clause-answer
unfolding max_sq_len
returns-then-is_simplex-clause-answer c =
    let h = small c.args.self (rw (← c.is_simplex.ensures) c.if-is_simplex.true) in
    simp (← c.is_simplex.ensures, c.if-is_simplex.true, c.max_sq_len_in.ensures, fold-max c.args.self binary32 (c.args.self.dim + 1) (omega (arith, h.dimension)))

pub returns-then-is_simplex-clause-told : goal.returns-then-is_simplex-clause-told
returns-then-is_simplex-clause-told c = told (returns-then-is_simplex-clause-answer c)
