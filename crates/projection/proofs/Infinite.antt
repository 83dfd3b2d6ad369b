-- `x.is_infinite()` of std is the definition's test. Assumes nothing.
use mathlib.Core.Path.{◌≡◌, refl}
use mathlib.Core.Bool.{true, false}
use lib.Ieee.{Float, nan, inf, fin, eq}
use Rattle.std.specs.Float.{float_is_infinite}
use Rattle.projection.specs.Relative.{is_infinite}

pub infinite : (x : Float) → float_is_infinite x ≡ is_infinite x
unfolding float_is_infinite is_infinite eq
infinite nan = refl
infinite (inf true) = refl
infinite (inf false) = refl
infinite (fin s m e) = refl
