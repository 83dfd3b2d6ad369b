-- `VoronoiSimplex::new` returns `new_simplex`.
use mathlib.Core.Path.{refl}
use lib.Ieee.{of_bits}
use Rattle.vector.specs.Vector.{zero_v}
use Rattle.shape.specs.Vertex.{vertex_with_point, zero_vertex}
use Rattle.simplex.specs.Simplex.{new_simplex}
use Rattle.simplex.proofs.voronoi_simplex.VoronoiSimplex.new.Goals as goal

pub returns : goal.returns
unfolding new_simplex zero_vertex vertex_with_point zero_v of_bits
returns c = refl
