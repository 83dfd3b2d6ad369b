-- `translated_in` returns the definition's `translated_in`. The invariant: the first i vertices of `t` are translated.
use mathlib.Core.Path.{refl}
use native.Mathlib.Numerals.{add-one}
use Rattle.simplex.specs.Simplex.{translated_in}
use Rattle.simplex.proofs.steps.translated_in.Goals as goal

pub loop-i-init : goal.loop-i-init
unfolding translated_in
loop-i-init c = refl

pub loop-i-preserved : goal.loop-i-preserved
unfolding translated_in
loop-i-preserved c = simp (add-one, ← c.loop-i.invariant, ← c.translate.ensures)
