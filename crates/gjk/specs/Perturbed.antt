-- `perturbed_dir` of src/query/gjk/gjk.rs. Definitions only.
use Rattle.std.specs.Prelude.{ℕ, ◌-◌, ◌/◌, ◌%◌, cond, eqb, Float}
use Rattle.std.proofs.Math.Bool.{false}
use Rattle.std.specs.Option.{unwrap_or}
use Rattle.std.specs.Float.Ieee as Ieee
use Rattle.std.specs.Float.{Format}
use Rattle.std.specs.Float.Ieee.{round}
use Rattle.vector.specs.declared.vec3.Vec3.{Vec3}
use Rattle.vector.specs.declared.vec3.Axis.{Axis}
use Rattle.vector.specs.declared.vec3.Axis.TheVariants.{X, Y, Z}
use Rattle.vector.specs.Vector.{one_f, component_v, with_component_v, try_normalize_v, ◌⊕◌, ◌⊗◌}

-- `(seed - 1) % DIM`, where n is `seed - 1`
unfoldable pub axis_of : ℕ → Axis
axis_of n = cond (eqb (n % 3) 0) X (cond (eqb (n % 3) 1) Y Z)

-- `if ((seed - 1) / DIM).is_multiple_of(2) { 1.0 } else { -1.0 }`, where n is `seed - 1`
unfoldable pub sign_of : ℕ → Float
sign_of n = cond (eqb (n / 3 % 2) 0) one_f (Ieee.neg one_f)

module _ (f : Format) where
  -- `OFFSET`: 0.01, the nearest value
  unfoldable pub offset_f : Float
  unfolding round
  offset_f = round f false 1 100

  unfoldable pub perturbed_dir : Vec3 → ℕ → Vec3
  perturbed_dir dir seed =
      let n = seed - 1 in
      let axis = axis_of n in
      let res = with_component_v dir axis (◌⊕◌ f (component_v dir axis) (◌⊗◌ f (sign_of n) offset_f)) in
      unwrap_or (try_normalize_v f res) dir
