-- What `scale_of` returns. The invariant: the root of `greatest` is the scale of the first i vertices. Assumes nothing.
use native.Mathlib.Omega.{arith}
use mathlib.Core.Path.{ap, ◌∙◌}
use lib.Ieee.{binary32, of_bits}
use Rattle.epa_polytope.specs.Start.{scale_of}
use Rattle.epa_polytope.proofs.Starting.{scale-start, scale-grown}
use Rattle.epa_start.proofs.vertices.scale_of.Goals as goal

pub loop-i-init : goal.loop-i-init
unfolding of_bits
loop-i-init c = scale-start binary32 _

pub loop-i-preserved : goal.loop-i-preserved
loop-i-preserved c = scale-grown _ _ _ c.vertex_at.ensures c.length_squared-square.ensures c.loop-i.invariant c.max-greatest.ensures

pub returns : goal.returns
returns c = c.sqrt.ensures.value ∙ c.loop-i.invariant.scale ∙ ap (scale_of binary32 _) (omega (arith, c.loop-i-test.false))
