-- A simplex has no more than four vertices.
use Rattle.simplex.proofs.Laws.{small}
use Rattle.simplex.proofs.voronoi_simplex.VoronoiSimplex.modify_pnts.Goals as goal

pub translated_in-simplex-requires : goal.translated_in-simplex-requires
translated_in-simplex-requires c = (small c.args.self (rw (← c.is_simplex.ensures) c.if-is_simplex.true)).dimension
