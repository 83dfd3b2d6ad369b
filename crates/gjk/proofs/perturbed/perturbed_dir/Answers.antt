-- `perturbed_dir` returns the definition's `perturbed_dir`: its offset is the nearest value to 0.01.
use lib.Ieee.{of_bits}
use Rattle.gjk.specs.Perturbed.{offset_f, perturbed_dir}
use Rattle.gjk.proofs.perturbed.perturbed_dir.Goals as goal

pub returns : goal.returns
unfolding perturbed_dir offset_f of_bits
returns c = simp (← c.axis_of-axis.ensures, ← c.sign_of-offset.ensures, ← c.component.ensures, ← c.with_component-res.ensures, ← c.try_normalize.ensures, ← c.unwrap_or.ensures)
