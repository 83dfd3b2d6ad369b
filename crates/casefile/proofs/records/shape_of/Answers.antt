-- A shape by its kind; from kind 3 on it is a triangle. Assumes nothing.
use Rattle.casefile.proofs.Parts.{ball-of, cuboid-of, capsule-of, triangle-of}
use Rattle.casefile.proofs.records.shape_of.Goals as goal

pub returns-then-kind-eq0 : goal.returns-then-kind-eq0
returns-then-kind-eq0 c = ball-of _ _ _ _ c.if-kind-eq0.true c.float_of.ensures

pub returns-then-kind-eq1 : goal.returns-then-kind-eq1
returns-then-kind-eq1 c = cuboid-of _ _ _ _ c.if-kind-eq1.true c.vector_of-a.ensures

pub returns-then-kind-eq2 : goal.returns-then-kind-eq2
returns-then-kind-eq2 c = capsule-of _ _ _ _ _ _ c.if-kind-eq2.true c.vector_of-a.ensures c.vector_of-b.ensures c.float_of-then-kind-eq2.ensures

pub returns : goal.returns
returns c =
    triangle-of
    _
    _
    _
    _
    _
    _
    c.if-kind-eq0.false
    c.if-kind-eq1.false
    c.if-kind-eq2.false
    c.vector_of-a.ensures
    c.vector_of-b.ensures
    c.vector_of-c.ensures
