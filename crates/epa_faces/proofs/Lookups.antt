-- A lookup's corner and whether it missed, as the code reads them off the Option. Assumes nothing.
use mathlib.Core.Path.{◌≡◌, refl, sym}
use mathlib.Core.Bool.{Bool, true, false, not}
use Prim.Native.Nat.{ℕ}
use native.Mathlib.Omega.{arith}
use mir.Val.{bool_byte}
use Rattle.std.specs.Prelude.{Option, Some, None, is_some}
use Rattle.std.specs.Option.{unwrap_or}
use Rattle.epa_polytope.specs.Silhouette.{corner_or0, misses}

pub corner-or-0 : (o : Option ℕ) → unwrap_or o 0 ≡ corner_or0 o
corner-or-0 None = refl
corner-or-0 (Some k) = refl

unlike : ◌≡◌ {A = Bool} false true → ⊥
unlike e = let z : ◌≡◌ {A = ℕ} 0 1 = cc in omega arith

pub missed-one : (o : Option ℕ) (b : Bool) → is_some o ≡ not b → bool_byte b ≡ misses o
missed-one None true e = refl
missed-one (Some k) false e = refl
missed-one None false e = let z : ◌≡◌ {A = Bool} false true = e in absurd (unlike z)
missed-one (Some k) true e = let z : ◌≡◌ {A = Bool} true false = e in absurd (unlike (sym z))
