-- What `facing_at` returns, its calls folded back in the order of the code. Assumes nothing.
use mathlib.Core.Path.{◌∙◌}
use Rattle.epa_polytope.specs.Silhouette.{facing, with_missed}
use Rattle.epa_faces.proofs.Lookups.{corner-or-0, missed-one}
use Rattle.epa_faces.proofs.facing_at.Goals as goal

pub returns : goal.returns
unfolding facing with_missed
returns c =
    let found = c.next_ccw_pt_id-found.result in
    simp (
      ← c.neighbour_at-next.ensures,
      ← c.corner_at.ensures,
      ← c.next_ccw_pt_id-found.ensures,
      c.unwrap_or.ensures ∙ corner-or-0 found,
      c.from.ensures ∙ missed-one found c.is_none.result c.is_none.ensures,
    )
