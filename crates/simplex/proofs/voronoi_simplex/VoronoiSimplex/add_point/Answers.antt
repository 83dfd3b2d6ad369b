-- What is saved of a simplex has its dimension.
use mathlib.Core.Path.{sym, subst}
use Prim.Native.Nat.{◌<◌}
use native.Mathlib.Omega.{arith}
use Rattle.simplex.specs.declared.voronoi_simplex.VoronoiSimplex.{VoronoiSimplex}
use Rattle.simplex.specs.Simplex.{saved_in}
use Rattle.simplex.proofs.voronoi_simplex.VoronoiSimplex.add_point.Goals as goal

pub grown_in-simplex-requires : goal.grown_in-simplex-requires
unfolding saved_in
grown_in-simplex-requires c = subst (λ (s : VoronoiSimplex). s.dim < 3) (sym c.saved_in-saved.ensures) (omega arith)
