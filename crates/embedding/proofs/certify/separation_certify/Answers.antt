-- The number of the checker's answer. Assumes nothing.
use mathlib.Core.Path.{◌∙◌}
use Rattle.embedding.proofs.certify.separation_certify.Goals as goal

pub returns : goal.returns
returns c = c.certificate_number.ensures ∙ c.certify.ensures.number
