-- A simplex has the vertices at its previous places.
use native.Mathlib.Omega.{arith}
use Rattle.simplex.proofs.Laws.{small}
use Rattle.simplex.proofs.voronoi_simplex.VoronoiSimplex.prev_point.Goals as goal

pub offset_bounds-self-i : goal.offset_bounds-self-i
offset_bounds-self-i c = let h = small c.args.self (rw (← c.is_simplex.ensures) c.if-is_simplex.true) in omega (arith, h.previous)

pub bounds-self-i : goal.bounds-self-i
bounds-self-i c = let h = small c.args.self (rw (← c.is_simplex.ensures) c.if-is_simplex.true) in omega (arith, h.previous)

pub offset_bounds-self-place : goal.offset_bounds-self-place
offset_bounds-self-place c = let h = small c.args.self (rw (← c.is_simplex.ensures) c.if-is_simplex.true) in omega (arith, h.place c.args.i (omega (arith, h.previous)))

pub bounds-self-place : goal.bounds-self-place
bounds-self-place c = let h = small c.args.self (rw (← c.is_simplex.ensures) c.if-is_simplex.true) in omega (arith, h.place c.args.i (omega (arith, h.previous)))
