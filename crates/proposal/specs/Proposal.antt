-- The proposer of ticket 12: a direction in floats, scaled so that its largest number is an end of the grid, each number without its fraction. Any format. Definitions only.
use Rattle.std.specs.Prelude.{true, false, cond, ℤ, pos, Float}
use Rattle.std.specs.Float.{Format, fin}
use Rattle.std.specs.Float.Ieee.{le, lt, to_signed}
use Rattle.number.specs.Small.{absolute, larger}
use Rattle.vector.specs.Vector.{◌⊗◌, ◌⊘◌}
use Rattle.vector.specs.declared.vec3.Vec3.{Vec3}
use Rattle.certificate.specs.declared.GridVector.{GridVector}
use Rattle.certificate.specs.Certificate.{on_grid}

-- x without its fraction; 0 where x is not from -2^63 to below 2^63, and for a NaN
unfoldable pub whole_part : Float → ℤ
whole_part x = cond (le (fin true 1 (pos 63)) x) (cond (lt x (fin false 1 (pos 63))) (to_signed 63 x) (pos 0)) (pos 0)

-- n, or 0 where it is no number of the grid
unfoldable pub kept : ℤ → ℤ
kept n = cond (on_grid n) n (pos 0)

-- a share of the grid's reach, 2^20, as a number of the grid; 0 where it is none
unfoldable pub grid_number : Format → Float → ℤ
grid_number f share = kept (whole_part (◌⊗◌ f share (fin false 1 (pos 20))))

-- the largest of the three in size
unfoldable pub reach : Vec3 → Float
reach v = larger (larger (absolute v.x) (absolute v.y)) (absolute v.z)

-- each number divided by it, as a share
unfoldable pub proposed : Format → Vec3 → GridVector
proposed f v = record { x = grid_number f (◌⊘◌ f v.x (reach v)); y = grid_number f (◌⊘◌ f v.y (reach v)); z = grid_number f (◌⊘◌ f v.z (reach v)) }
