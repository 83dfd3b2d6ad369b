-- `wind_outward` exchanges where the vertices wind inward, and else leaves them. Assumes nothing.
use mathlib.Core.Path.{sym, ◌∙◌}
use Rattle.epa_first_faces.proofs.four.wind_outward.Goals as goal

pub returns-then-winds_inward : goal.returns-then-winds_inward
returns-then-winds_inward c = c.exchange.ensures ∙ rw (sym c.winds_inward.ensures ∙ c.if-winds_inward.true)

pub returns-else-winds_inward : goal.returns-else-winds_inward
returns-else-winds_inward c = rw (sym c.winds_inward.ensures ∙ c.if-winds_inward.false)
