-- What the laws on the answers say, in words of the ticket and without tests: right lengths, right ranges, hulls apart along the direction, and a pair of corners that is not.
-- `List.Memᴰ x l` says that x stands in the list l. Definitions only.
use Rattle.std.specs.Prelude.{ℕ, ◌*◌, ◌≤◌, ◌≡◌, ℤ, nat_abs, length, ◌≤ℤ◌, ◌<ℤ◌}
use mathlib.Core.List.{List, Memᴰ}
use Rattle.certificate.specs.declared.GridVector.{GridVector}
use Rattle.certificate.specs.Certificate.{product}

-- n numbers are 1 to 64 corners
pub record CornersIn (n : ℕ) : Type 0 where
  pub count : ℕ
  pub three_each : n ≡ count * 3
  pub at_least : 1 ≤ count
  pub at_most : count ≤ 64

pub record Lengths (first second : List ℤ) : Type 0 where
  pub of_first : CornersIn (length first)
  pub of_second : CornersIn (length second)

-- from -1,048,576 to 1,048,576
abbrev pub InRange : ℤ → Type 0
InRange n = nat_abs n ≤ 1_048_576

pub record Ranges (first second : List ℤ) (d : GridVector) : Type 0 where
  pub of_first : (n : ℤ) → Memᴰ n first → InRange n
  pub of_second : (n : ℤ) → Memᴰ n second → InRange n
  pub of_direction : InRange d.x × InRange d.y × InRange d.z

-- every corner of the first has a strictly smaller product with the direction than every corner of the second
abbrev pub Apart : GridVector → List GridVector → List GridVector → Type 0
Apart d first second = (a b : GridVector) → Memᴰ a first → Memᴰ b second → product d a <ℤ product d b

-- a corner of each whose products are not so
pub record Meeting (d : GridVector) (first second : List GridVector) : Type 0 where
  pub a : GridVector
  pub b : GridVector
  pub of_first : Memᴰ a first
  pub of_second : Memᴰ b second
  pub not_smaller : product d b ≤ℤ product d a
