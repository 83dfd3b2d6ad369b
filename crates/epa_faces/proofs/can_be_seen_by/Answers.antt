-- What `can_be_seen_by` returns, by the two arms of its test: the corners after the first are not asked for where it holds. Assumes nothing.
use Rattle.epa_polytope.specs.Expansion.{can_be_seen_by}
use Rattle.epa_polytope.proofs.Lists.{next_one, next-two}
use Rattle.epa_faces.proofs.can_be_seen_by.Goals as goal

pub returns-then-away-eps_tol : goal.returns-then-away-eps_tol
unfolding can_be_seen_by
returns-then-away-eps_tol c k =
    simp (
      ← c.vertex_at.ensures,
      ← c.corner_at.ensures,
      ← c.vertex_at-2.ensures,
      ← c.sub.ensures,
      ← c.normal_of.ensures,
      ← c.dot-away.ensures,
      ← c.eps_tol.ensures,
      c.if-away-eps_tol.true,
    )

pub returns : goal.returns
unfolding can_be_seen_by
returns c k =
    let corner = c.args.question.corner in
    simp (
      ← next_one corner,
      ← next-two corner,
      ← c.vertex_at.ensures,
      ← c.corner_at.ensures,
      ← c.vertex_at-2.ensures,
      ← c.sub.ensures,
      ← c.normal_of.ensures,
      ← c.dot-away.ensures,
      ← c.eps_tol.ensures,
      c.if-away-eps_tol.false,
      ← c.corner_at-2.ensures,
      ← c.vertex_at-3.ensures,
      ← c.corner_at-3.ensures,
      ← c.vertex_at-4.ensures,
      ← c.is_affinely_dependent.ensures,
    )
