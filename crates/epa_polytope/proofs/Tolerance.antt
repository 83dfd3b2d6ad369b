-- The tolerance of the keys is at least `eps_tol`, and so above zero, whatever the vertices hold, NaN and infinities too, in every format: a key of zero is never refused (`zero-key-taken`).
-- A product grows with its factor, and the factor is 1 or more. Assumes nothing.
use mathlib.Core.Path.{◌≡◌, refl, sym}
use mathlib.Core.Bool.{Bool, true, false, cond, ◌&&◌, ◌||◌, true≢false}
use mathlib.Core.List.{List}
use Prim.Native.Nat.{ℕ, ◌*◌, ◌<◌}
use native.Mathlib.Nat.{mul-pos}
use native.Mathlib.Omega.{arith}
use lib.Dec.{T, ltb, eqb, ltb→lt}
use borrow.Author.Tests.{eqb-false, ltb-false, lt-ltb, le-ltb}
use lib.Ieee.{Float, nan, inf, fin, Format, binary32, binary64, up, down, mul, lt, le, eq, is_nan}
use lib.Ieee.Fits.{up_pos}
use lib.Ieee.Positive.{positive, above, above_of_le, mul_mono}
use Rattle.number.specs.Constants.{epsilon, eps_tol}
use Rattle.number.specs.Small.{larger}
use Rattle.vector.specs.Vector.{zero_f, one_f}
use Rattle.epa_polytope.specs.Stores.{State}
use Rattle.epa_polytope.specs.Steps.{Lost, ◌>>◌, stop_if, enqueue, queue_face}
use Rattle.epa_polytope.specs.Start.{scale_of, dist_tol}

-- ---- the larger of a number and 1

not-less : (a b : ℕ) → ltb a b ≡ false → T (ltb b a || (eqb b a && true))
not-less a b e = by (ltb b a) (eqb b a) refl refl
  where
    by : (p q : Bool) → ltb b a ≡ p → eqb b a ≡ q → T (p || (q && true))
    by true q x y = tt
    by false true x y = tt
    by false false x y = absurd (let l = ltb-false a b e in let m = ltb-false b a x in eqb-false b a y (omega arith))

at_least_one : (x : Float) → T (le one_f (larger x one_f))
unfolding larger is_nan le lt eq
at_least_one nan = tt
at_least_one (inf true) = tt
at_least_one (inf false) = tt
at_least_one (fin s m e) = by s (lt (fin s m e) one_f) (lt one_f (fin s m e)) refl refl
  where
    by : (s : Bool) (p q : Bool) → lt (fin s m e) one_f ≡ p → lt one_f (fin s m e) ≡ q → T (le one_f (cond p one_f (cond q (fin s m e) (cond s one_f (fin s m e)))))
    by s true q x y = tt
    by true false true x y = absurd (true≢false (sym y))
    by false false true x y = rw y tt
    by true false false x y = tt
    by false false false x y = not-less (m * up e * 1) (1 * 1 * down e) x

-- ---- the tolerance

-- what is computed of `eps_tol`, in each format
pub record Computed (f : Format) : Type 0 where
  pub is_positive : T (positive (eps_tol f))
  pub itself : T (le (eps_tol f) (eps_tol f))
  pub by_one : mul f (eps_tol f) one_f ≡ eps_tol f
  pub by_infinity : T (le (eps_tol f) (mul f (eps_tol f) (inf false)))

computed : (f : Format) → Computed f
unfolding eps_tol epsilon mul le lt eq
computed binary32 = record { is_positive = tt; itself = tt; by_one = refl; by_infinity = tt }
computed binary64 = record { is_positive = tt; itself = tt; by_one = refl; by_infinity = tt }

-- `eps_tol` times 1 or more
grows : (f : Format) (y : Float) → T (le one_f y) → T (above y) → T (le (eps_tol f) (mul f (eps_tol f) y))
grows f nan h a = absurd a
grows f (inf true) h a = absurd a
grows f (inf false) h a = (computed f).by_infinity
grows f (fin true m e) h a = absurd a
grows f (fin false m e) h a =
    let c = computed f in
    rw c.by_one at (mul_mono f (eps_tol f) (eps_tol f) one_f (fin false m e) c.is_positive c.is_positive tt a c.itself h)

module _ (f : Format) (l : List Float) (n : ℕ) where
  -- THE TOLERANCE IS AT LEAST `eps_tol`
  pub at-least-eps-tol : T (le (eps_tol f) (dist_tol f l n))
  unfolding dist_tol
  at-least-eps-tol = let h = at_least_one (scale_of f l n) in grows f _ h (above_of_le one_f _ tt h)

  -- and so above zero
  above_zero : (z : Float) → T (above z) → (lt zero_f z ≡ true) × (lt z zero_f ≡ false)
  unfolding lt
  above_zero nan a = absurd a
  above_zero (inf true) a = absurd a
  above_zero (inf false) a = (refl, refl)
  above_zero (fin true m e) a = absurd a
  above_zero (fin false m e) a =
      let some : 0 < m * up e = mul-pos (ltb→lt 0 m a) (up_pos e) in
      let none : 0 * down e ≡ 0 = omega arith in
      (lt-ltb (0 * 1 * down e) (m * up e * 1) (omega arith), le-ltb (m * up e * 1) (0 * 1 * down e) (omega arith))

  pub tolerance-above-zero : (lt zero_f (dist_tol f l n) ≡ true) × (lt (dist_tol f l n) zero_f ≡ false)
  tolerance-above-zero = above_zero (dist_tol f l n) (above_of_le (eps_tol f) (dist_tol f l n) (computed f).is_positive at-least-eps-tol)

  -- A KEY OF ZERO IS NEVER REFUSED: with the test or without, the face is queued
  pub zero-key-taken : (why : Lost) (i : ℕ) (s : State) → queue_face why (dist_tol f l n) i zero_f s ≡ enqueue i zero_f s
  unfolding queue_face ◌>>◌ stop_if
  zero-key-taken why i s = rw tolerance-above-zero.1
