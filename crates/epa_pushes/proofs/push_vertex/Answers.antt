-- `push_vertex` does what the run's `push_vertex` does: it is refused, or the vertex is written. Assumes nothing.
use Rattle.epa_polytope.proofs.Pushing.{vertex-refused, vertex-written}
use Rattle.epa_pushes.proofs.push_vertex.Goals as goal

pub returns-then-stores-n-clause-leaves : goal.returns-then-stores-n-clause-leaves
returns-then-stores-n-clause-leaves c = vertex-refused _ _ _ c.if-stores-n.true

pub returns-clause-leaves : goal.returns-clause-leaves
returns-clause-leaves c = vertex-written _ _ _ c.if-stores-n.false c.put_vertex.ensures
