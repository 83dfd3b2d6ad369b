-- A simplex has the vertices up to its dimension.
use native.Mathlib.Omega.{arith}
use Rattle.simplex.proofs.Laws.{small}
use Rattle.simplex.proofs.voronoi_simplex.VoronoiSimplex.point.Goals as goal

pub offset_bounds-self-i : goal.offset_bounds-self-i
offset_bounds-self-i c = let h = small c.args.self (rw (← c.is_simplex.ensures) c.if-is_simplex.true) in omega (arith, h.dimension)

pub bounds-self-i : goal.bounds-self-i
bounds-self-i c = let h = small c.args.self (rw (← c.is_simplex.ensures) c.if-is_simplex.true) in omega (arith, h.dimension)
