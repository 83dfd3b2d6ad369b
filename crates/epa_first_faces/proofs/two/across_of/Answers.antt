-- `across_of` returns `across`. Assumes nothing.
use mathlib.Core.Path.{◌∙◌}
use Rattle.epa_first_faces.proofs.two.across_of.Goals as goal

pub returns : goal.returns
returns c = c.normalize.ensures ∙ c.across_unscaled.ensures
