-- Vectors of three numbers, of any format f: each operation in the order of the Rust's vector library, one rounding each, nothing fused. Definitions only.
-- Carries glam's `Vec3` in its scalar form. Its text is not published with the crate's: docs/DECISIONS.md says what stands in for it.
use Rattle.std.specs.Prelude.{Option, Some, None, Bool, false, cond, ◌&&◌, pos, Float}
use Rattle.std.specs.Float.Ieee as Ieee
use Rattle.std.specs.Float.{Format, fin}
use Rattle.std.specs.Float.Ieee.{eq}
use Rattle.std.specs.Float.Ieee.Scale.{finite}
use Rattle.number.specs.Root.{root}
use Rattle.number.specs.Small.{gt}
use Rattle.vector.specs.declared.vec3.Vec3.{Vec3}
use Rattle.vector.specs.declared.vec3.Axis.{Axis}
use Rattle.vector.specs.declared.vec3.Axis.TheVariants.{X, Y, Z}
use Rattle.vector.specs.declared.vec3.UnitAndLength.{UnitAndLength}

-- The literals 0.0, 1.0 and 2.0, which are the same values in every format
abbrev pub zero_f : Float
zero_f = fin false 0 (pos 0)

abbrev pub one_f : Float
one_f = fin false 1 (pos 0)

abbrev pub two_f : Float
two_f = fin false 1 (pos 1)

abbrev pub vec3 : Float → Float → Float → Vec3
vec3 a b c = record { x = a; y = b; z = c }

-- `Vec3::ZERO`, `Vec3::X`, `Vec3::Y`, `Vec3::Z`
unfoldable pub zero_v : Vec3
zero_v = vec3 zero_f zero_f zero_f

unfoldable pub x_v : Vec3
x_v = vec3 one_f zero_f zero_f

unfoldable pub y_v : Vec3
y_v = vec3 zero_f one_f zero_f

unfoldable pub z_v : Vec3
z_v = vec3 zero_f zero_f one_f

-- ---- what rounds nothing

-- `-a`
unfoldable pub neg_v : Vec3 → Vec3
neg_v a = vec3 (Ieee.neg a.x) (Ieee.neg a.y) (Ieee.neg a.z)

-- `a == b`
unfoldable pub equal_v : Vec3 → Vec3 → Bool
equal_v a b = eq a.x b.x && eq a.y b.y && eq a.z b.z

-- `a[i]`
unfoldable pub component_v : Vec3 → Axis → Float
component_v a X = a.x
component_v a Y = a.y
component_v a Z = a.z

-- a after `a[i] = n`
unfoldable pub with_component_v : Vec3 → Axis → Float → Vec3
with_component_v a X n = vec3 n a.y a.z
with_component_v a Y n = vec3 a.x n a.z
with_component_v a Z n = vec3 a.x a.y n

-- The test of glam's `try_normalize` and its kin, on `1 / length`
unfoldable pub usable : Float → Bool
usable r = finite r && gt r zero_f

-- ---- what rounds, to the format f; first + - * / of numbers
module _ (f : Format) where
  infixl 60 ◌⊕◌ ◌⊖◌
  infixl 70 ◌⊗◌ ◌⊘◌
  abbrev pub ◌⊕◌ : Float → Float → Float
  ◌⊕◌ a b = Ieee.add f a b

  abbrev pub ◌⊖◌ : Float → Float → Float
  ◌⊖◌ a b = Ieee.sub f a b

  abbrev pub ◌⊗◌ : Float → Float → Float
  ◌⊗◌ a b = Ieee.mul f a b

  abbrev pub ◌⊘◌ : Float → Float → Float
  ◌⊘◌ a b = Ieee.div f a b

  -- `a + b`
  unfoldable pub add_v : Vec3 → Vec3 → Vec3
  add_v a b = vec3 (a.x ⊕ b.x) (a.y ⊕ b.y) (a.z ⊕ b.z)

  -- `a - b`
  unfoldable pub sub_v : Vec3 → Vec3 → Vec3
  sub_v a b = vec3 (a.x ⊖ b.x) (a.y ⊖ b.y) (a.z ⊖ b.z)

  -- `a * n`
  unfoldable pub scale_v : Vec3 → Float → Vec3
  scale_v a n = vec3 (a.x ⊗ n) (a.y ⊗ n) (a.z ⊗ n)

  -- `a / n`
  unfoldable pub div_v : Vec3 → Float → Vec3
  div_v a n = vec3 (a.x ⊘ n) (a.y ⊘ n) (a.z ⊘ n)

  -- `a.dot(b)`
  unfoldable pub dot_v : Vec3 → Vec3 → Float
  dot_v a b = a.x ⊗ b.x ⊕ a.y ⊗ b.y ⊕ a.z ⊗ b.z

  -- `a.cross(b)`
  unfoldable pub cross_v : Vec3 → Vec3 → Vec3
  cross_v a b = vec3 (a.y ⊗ b.z ⊖ b.y ⊗ a.z) (a.z ⊗ b.x ⊖ b.z ⊗ a.x) (a.x ⊗ b.y ⊖ b.x ⊗ a.y)

  -- `a.length_squared()`
  unfoldable pub length_squared_v : Vec3 → Float
  length_squared_v a = dot_v a a

  -- `a.length()`
  unfoldable pub length_v : Vec3 → Float
  length_v a = root f (length_squared_v a)

  -- `a.length_recip()`
  unfoldable pub length_recip_v : Vec3 → Float
  length_recip_v a = one_f ⊘ length_v a

  -- `a.normalize()`: no test
  unfoldable pub normalize_v : Vec3 → Vec3
  normalize_v a = scale_v a (length_recip_v a)

  -- `a.try_normalize()`
  unfoldable pub try_normalize_v : Vec3 → Option Vec3
  try_normalize_v a = let r = length_recip_v a in cond (usable r) (Some (scale_v a r)) None

  -- `a.normalize_or(d)`
  unfoldable pub normalize_or_v : Vec3 → Vec3 → Vec3
  normalize_or_v a d = let r = length_recip_v a in cond (usable r) (scale_v a r) d

  -- `a.normalize_or_zero()`
  unfoldable pub normalize_or_zero_v : Vec3 → Vec3
  normalize_or_zero_v a = normalize_or_v a zero_v

  -- `a.normalize_and_length()`
  unfoldable pub normalize_and_length_v : Vec3 → UnitAndLength
  normalize_and_length_v a =
      let l = length_v a in
      let r = one_f ⊘ l in
      cond (usable r) (record { normalized = scale_v a r; length = l }) (record { normalized = x_v; length = zero_f })
