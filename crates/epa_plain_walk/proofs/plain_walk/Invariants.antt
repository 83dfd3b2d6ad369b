-- What the loop of `plain_walk` keeps, and the number that falls at each turn.
use Rattle.epa_polytope.specs.Stores.{Lists, with_vertices, with_face_ids, with_face_floats}
use Rattle.epa_polytope.specs.Expansion.{mesh_of}
use Rattle.epa_polytope.specs.Promises.{single}
use Rattle.epa_polytope.proofs.PlainWalks.{potential}
use Rattle.epa_polytope.proofs.PlainLoop.{WalkLoop, going}
use Rattle.epa_plain_walk.proofs.plain_walk.Given as goal

abbrev pub invariant-loop-held : goal.invariant-loop-held
invariant-loop-held l =
    WalkLoop (λ (k : Lists). mesh_of single (with_vertices l.vertices (with_face_ids l.ids (with_face_floats l.floats k))) l.point)
    (going l.initial.deleted l.initial.edges l.initial.pending l.initial.count l.initial.missed l.initial.held)
    (going l.deleted l.edges l.pending l.count l.missed l.held)

abbrev pub decreases-loop-held : goal.decreases-loop-held
decreases-loop-held l = potential (going l.deleted l.edges l.pending l.count l.missed l.held)
