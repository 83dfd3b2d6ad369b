-- `roots::root_of` meets its contract, by what `number::sqrt` ensures. Assumes nothing.
use mathlib.Core.Path.{ap, sym, subst}
use mathlib.Core.Bool.{not}
use lib.Dec.{T}
use lib.Ieee.{Float, binary32, is_nan, to_bits}
use Rattle.roots.proofs.root_of.Goals as goal

pub float_to_bits-result : goal.float_to_bits-result
float_to_bits-result c = subst (λ (v : Float). T (not (is_nan v))) (sym c.sqrt.ensures.value) c.requires.1

pub returns : goal.returns
returns c = ap (to_bits binary32) c.sqrt.ensures.value
