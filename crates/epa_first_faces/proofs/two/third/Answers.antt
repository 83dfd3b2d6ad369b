-- `third` does what the run's `third` does: the two vertices span no direction, or a vertex across it is pushed. Assumes nothing.
use mathlib.Core.Path.{sym, ◌∙◌}
use lib.Ieee.{of_bits}
use Rattle.vector.specs.Vector.{zero_v}
use Rattle.simplex.proofs.Vertices.{equal_parts}
use Rattle.epa_polytope.proofs.StartingTwo.{spans-none, third-pushed}
use Rattle.epa_first_faces.proofs.two.third.Goals as goal

pub returns-then-eq-clause-leaves : goal.returns-then-eq-clause-leaves
unfolding zero_v of_bits
returns-then-eq-clause-leaves c =
    spans-none _ _ _ c.vertex_at.ensures c.vertex_at-2.ensures c.sub-dpt.ensures
    c.normalize_or_zero-v.ensures (c.eq.ensures ∙ sym (equal_parts _ _)) c.if-eq.true

pub returns-clause-leaves : goal.returns-clause-leaves
unfolding zero_v of_bits
returns-clause-leaves c =
    third-pushed _ _ _ c.vertex_at.ensures c.vertex_at-2.ensures c.sub-dpt.ensures
    c.normalize_or_zero-v.ensures (c.eq.ensures ∙ sym (equal_parts _ _)) c.if-eq.false
    c.across_of.ensures c.support_point-pt.ensures c.push_vertex.ensures.leaves
