-- The search for a vertex that lies far enough, direction by direction: for any world. Assumes nothing.
use mathlib.Core.Path.{◌≡◌}
use mathlib.Core.Bool.{Bool, true, false}
use Prim.Native.Nat.{ℕ, suc, ◌+◌, ◌-◌, ◌<◌, ◌≤◌}
use native.Mathlib.Omega.{arith}
use Rattle.vector.specs.declared.vec3.Vec3.{Vec3}
use Rattle.shape.specs.declared.vertex.Vertex.{Vertex}
use Rattle.epa_polytope.specs.Start.{World, format_of, direction, far_from, first_far}
use Rattle.std.specs.Prelude.{Some, None}

-- of all directions those from the i-th on find what all do
pub record SearchLoop (w : World) (p : Vec3) (all i : ℕ) : Type 0 where
  pub within : i ≤ all
  pub goes_on : first_far w p (all - i) i ≡ first_far w p all 0

pub search-starts : (w : World) (p : Vec3) (all : ℕ) → SearchLoop w p all 0
search-starts w p all = record { within = omega arith; goes_on = let e : all - 0 ≡ all = omega arith in rw e }

module _ {w : World} {p : Vec3} {all i : ℕ} (h : SearchLoop w p all i) where
  -- no direction is left
  pub none_left : all ≤ i → None ≡ first_far w p all 0
  unfolding first_far
  none_left z =
      let e : all - i ≡ 0 = omega arith in
      rw e at h.goes_on

  -- the direction i is d, its vertex v, and `far` says whether that is far enough
  module _ {d : Vec3} {v : Vertex} {far : Bool} (more : i < all) (is_direction : d ≡ direction i) (is : v ≡ w.supp d) (is_far : far ≡ far_from (format_of w) p v) where
    -- it is
    pub found : far ≡ true → Some v ≡ first_far w p all 0
    unfolding first_far
    found t =
        let e : all - i ≡ suc (all - (i + 1)) = omega arith in
        rw (← h.goes_on, e, ← is_direction, ← is, ← is_far, t)

    -- it is not
    pub passed-by : far ≡ false → SearchLoop w p all (i + 1)
    unfolding first_far
    passed-by t =
        let e : all - i ≡ suc (all - (i + 1)) = omega arith in
        record { within = omega arith; goes_on = rw (← h.goes_on, e, ← is_direction, ← is, ← is_far, t) }
