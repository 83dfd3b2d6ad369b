-- The rounds that are left are the Rust's count read from the other end: a loop that counts `niter` up and ends at 100, as the Rust writes it, with turns n for fuel, is `run_of`
-- with 100 - niter rounds (`counted`). This holds for any n that is no smaller, so no fuel cuts the loop off. Of any format, support function, simplex and round.
use Prim.Native.Nat.{ℕ, zero, suc, ◌+◌, ◌-◌, ◌≤◌, ◌<◌}
use mathlib.Core.Path.{◌≡◌, refl, ap, ◌∙◌}
use mathlib.Core.Bool.{Bool, true, false, cond}
use native.Mathlib.Omega.{arith}
use borrow.Author.Tests.{eqb-true, eqb-false}
use lib.Dec.{eqb}
use lib.Ieee.{Format}
use Rattle.std.specs.Prelude.{None, Ok, Err}
use Rattle.std.specs.declared.ops.ControlFlow.{ControlFlow}
use Rattle.std.specs.declared.ops.ControlFlow.TheVariants.{Continue, Break}
use Rattle.refusal.specs.Refusal.{would_panic}
use Rattle.simplex.specs.declared.voronoi_simplex.VoronoiSimplex.{VoronoiSimplex}
use Rattle.cast.specs.declared.rounds.Round.{Round}
use Rattle.cast.specs.Cast.{Cast, Search, turn_of, after, run_of}

module _ (f : Format) (k : Search) where
  -- `loop { .. niter += 1; if niter == 100 { return None; } }`; fuel that is spent would show as a refusal
  pub counting : ℕ → ℕ → VoronoiSimplex → Round → Cast
  counting zero niter s r = Err would_panic
  counting (suc n) niter s r =
      let t = turn_of f k s r in
      after (λ s₁ r₁. cond (eqb (niter + 1) 100) (Ok None) (counting n (niter + 1) s₁ r₁)) t.simplex t.next

  pub counted : (n niter : ℕ) (s : VoronoiSimplex) (r : Round) → niter < 100 → 100 - niter ≤ n → counting n niter s r ≡ run_of f k (100 - niter) s r
  unfolding counting run_of after
  counted zero niter s r h l = absurd (omega arith)
  counted (suc n) niter s r h l =
      let t = turn_of f k s r in
      go (λ s₁ r₁ m. counted n (niter + 1) s₁ r₁ m (omega arith)) t.simplex t.next ∙ ap (λ (m : ℕ). run_of f k m s r) (left niter h)
    where
      left : (i : ℕ) → i < 100 → suc (100 - (i + 1)) ≡ 100 - i
      left i h = omega arith

      -- the next rounds, if there are any
      Rest : Type 0
      Rest = (s₁ : VoronoiSimplex) (r₁ : Round) → niter + 1 < 100 → counting n (niter + 1) s₁ r₁ ≡ run_of f k (100 - (niter + 1)) s₁ r₁

      next : Rest → (b : Bool) (s₁ : VoronoiSimplex) (r₁ : Round) → eqb (niter + 1) 100 ≡ b → cond b (Ok None) (counting n (niter + 1) s₁ r₁) ≡ run_of f k (100 - (niter + 1)) s₁ r₁
      next rest true s₁ r₁ e = let z : 100 - (niter + 1) ≡ 0 = omega (arith, eqb-true (niter + 1) 100 e) in rw z
      next rest false s₁ r₁ e = rest s₁ r₁ (omega (arith, eqb-false (niter + 1) 100 e))

      go : Rest → (s₁ : VoronoiSimplex) (x : ControlFlow Cast Round) → after (λ s₂ r₂. cond (eqb (niter + 1) 100) (Ok None) (counting n (niter + 1) s₂ r₂)) s₁ x ≡ after (run_of f k (100 - (niter + 1))) s₁ x
      go rest s₁ (Continue r₁) = next rest (eqb (niter + 1) 100) s₁ r₁ refl
      go rest s₁ (Break x) = refl
