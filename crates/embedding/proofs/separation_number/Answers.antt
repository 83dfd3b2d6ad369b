-- `separation_number` returns `number_of`, letter by letter. Assumes nothing.
use mathlib.Core.Path.{◌≡◌}
use Prim.Native.Nat.{ℕ}
use mathlib.Core.Logic.{◌⊎◌, inl, inr}
use borrow.Author.Tests.{ne_eqb}
use native.Mathlib.Omega.{arith}
use Rattle.answers.specs.Answers.{number_of}
use Rattle.embedding.proofs.separation_number.Goals as goal

-- the first arm's letters, D M P S
abbrev Answers : ℕ → Type 0
Answers x = (x ≡ 68) ⊎ ((x ≡ 77) ⊎ ((x ≡ 80) ⊎ (x ≡ 83)))

of-answers : (x : ℕ) → Answers x → 0 ≡ number_of x
unfolding number_of
of-answers x (inl e) = rw e
of-answers x (inr (inl e)) = rw e
of-answers x (inr (inr (inl e))) = rw e
of-answers x (inr (inr (inr e))) = rw e

of_others : (x : ℕ) → (x ≡ 68 → ⊥) → (x ≡ 77 → ⊥) → (x ≡ 80 → ⊥) → (x ≡ 83 → ⊥) → (x ≡ 78 → ⊥) → (x ≡ 88 → ⊥) → (x ≡ 82 → ⊥) → (x ≡ 66 → ⊥) → 5 ≡ number_of x
unfolding number_of
of_others x d m p s n x' r b = simp (ne_eqb x 68 d, ne_eqb x 77 m, ne_eqb x 80 p, ne_eqb x 83 s, ne_eqb x 78 n, ne_eqb x 88 x', ne_eqb x 82 r, ne_eqb x 66 b)

pub returns-in-68 : goal.returns-in-68
returns-in-68 c = of-answers _ c.in-68.is

pub returns-in-78 : goal.returns-in-78
unfolding number_of
returns-in-78 c = rw c.in-78.is

pub returns-in-88 : goal.returns-in-88
unfolding number_of
returns-in-88 c = rw c.in-88.is

pub returns-in-82 : goal.returns-in-82
unfolding number_of
returns-in-82 c = rw c.in-82.is

pub returns-in-66 : goal.returns-in-66
unfolding number_of
returns-in-66 c = rw c.in-66.is

pub returns-in_default : goal.returns-in_default
returns-in_default c =
    of_others c.args.outcome (λ e. grind arith) (λ e. grind arith) (λ e. grind arith) (λ e. grind arith) (λ e. omega arith) (λ e. omega arith) (λ e. omega arith) (λ e. omega arith)
