-- `contains_point` returns the definition's `contains_point`, of the vertices that there are.
use Prim.Native.Nat.{◌+◌}
use native.Mathlib.Omega.{arith}
use Rattle.number.proofs.Told.{told}
use Rattle.simplex.specs.Operations.{contains_point}
use Rattle.simplex.proofs.Laws.{small}
use Rattle.simplex.proofs.Vertices.{any-has}
use Rattle.simplex.proofs.voronoi_simplex.VoronoiSimplex.contains_point.Goals as goal

pub overflow_add-self : goal.overflow_add-self
overflow_add-self c = let h = small c.args.self (rw (← c.is_simplex.ensures) c.if-is_simplex.true) in omega (arith, h.dimension)

pub shared_ref_as_front-has_point : goal.shared_ref_as_front-has_point
shared_ref_as_front-has_point c = let h = small c.args.self (rw (← c.is_simplex.ensures) c.if-is_simplex.true) in omega (arith, h.dimension)

pub returns-then-is_simplex-clause-answer : goal.returns-then-is_simplex-clause-answer
unfolding contains_point
returns-then-is_simplex-clause-answer c =
    let h = small c.args.self (rw (← c.is_simplex.ensures) c.if-is_simplex.true) in
    simp (← c.is_simplex.ensures, c.if-is_simplex.true, c.has_point.ensures, any-has c.args.self c.args.pt (c.args.self.dim + 1) (omega (arith, h.dimension)))

pub returns-then-is_simplex-clause-told : goal.returns-then-is_simplex-clause-told
returns-then-is_simplex-clause-told c = told (returns-then-is_simplex-clause-answer c)
