-- `relative_eq` of the Rust's crate `approx`, of any format f, one rounding each. Definitions only.
use Rattle.std.specs.Prelude.{Bool, true, false, cond, ◌||◌, Float}
use Rattle.std.specs.Float.{Format, inf}
use Rattle.std.specs.Float.Ieee.{le, eq}
use Rattle.number.specs.Small.{gt, absolute}
use Rattle.vector.specs.Vector.{◌⊖◌, ◌⊗◌}

-- `x.is_infinite()`
unfoldable pub is_infinite : Float → Bool
is_infinite x = eq x (inf false) || eq x (inf true)

-- `if abs_y > abs_x { abs_y } else { abs_x }`
unfoldable pub larger_size : Float → Float → Float
larger_size abs_x abs_y = cond (gt abs_y abs_x) abs_y abs_x

-- `relative_eq!(x, y, epsilon, max_relative)`
unfoldable pub relative_eq : Format → Float → Float → Float → Float → Bool
relative_eq f x y epsilon max_relative =
    let abs_diff = absolute (◌⊖◌ f x y) in
    cond (eq x y) true
    (cond (is_infinite x || is_infinite y) false
    (cond (le abs_diff epsilon) true
    (le abs_diff (◌⊗◌ f (larger_size (absolute x) (absolute y)) max_relative))))
