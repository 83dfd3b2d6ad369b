-- The tests of a sign that the regions of triangle and tetrahedron are made of, in src/query/point/point_triangle.rs and point_tetrahedron.rs; a NaN passes neither. Definitions only.
use Rattle.std.specs.Prelude.{Bool, Float}
use Rattle.std.specs.Float.Ieee.{le}
use Rattle.number.specs.Small.{ge}
use Rattle.vector.specs.Vector.{zero_f}

-- `x >= 0.0`
abbrev pub at_least_zero : Float → Bool
at_least_zero x = ge x zero_f

-- `x <= 0.0`
abbrev pub at_most_zero : Float → Bool
at_most_zero x = le x zero_f
