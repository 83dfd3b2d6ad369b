-- `bootstrap` does what the run's `bootstrap` does: the search finds no second vertex, or the one that is pushed. Assumes nothing.
use lib.Ieee.{of_bits}
use Rattle.vector.specs.Vector.{y_v}
use Rattle.epa_polytope.proofs.Starting.{none-far, far-pushed}
use Rattle.epa_start.proofs.vertices.bootstrap.Goals as goal

pub returns-in_default-clause-leaves : goal.returns-in_default-clause-leaves
unfolding y_v of_bits
returns-in_default-clause-leaves c = none-far _ _ _ c.vertex_at-v.ensures c.second_vertex.ensures c.in_default.is

pub returns-clause-leaves : goal.returns-clause-leaves
returns-clause-leaves c =
    far-pushed _ _ _ c.vertex_at-v.ensures c.second_vertex.ensures c.in-Some.is c.push_vertex.ensures.leaves
