-- `shape_of` returns the definition's `shape_of`, kind by kind. Assumes nothing.
use mathlib.Core.Path.{◌≡◌}
use borrow.Author.Tests.{ne_eqb}
use native.Mathlib.Omega.{arith}
use Rattle.std.specs.Prelude.{None}
use Rattle.answers.specs.declared.ShapeRecord.{ShapeRecord}
use Rattle.answers.specs.Answers.{shape_of}
use Rattle.answers.proofs.shape_of.Goals as goal

pub returns-in-0 : goal.returns-in-0
unfolding shape_of
returns-in-0 c = rw c.in-0.is

pub returns-in-1 : goal.returns-in-1
unfolding shape_of
returns-in-1 c = rw c.in-1.is

pub returns-in-2 : goal.returns-in-2
unfolding shape_of
returns-in-2 c = rw c.in-2.is

pub returns-in-3 : goal.returns-in-3
unfolding shape_of
returns-in-3 c = rw c.in-3.is

of_others : (g : ShapeRecord) → (g.kind ≡ 0 → ⊥) → (g.kind ≡ 1 → ⊥) → (g.kind ≡ 2 → ⊥) → (g.kind ≡ 3 → ⊥) → None ≡ shape_of g
unfolding shape_of
of_others g a b c d = simp (ne_eqb g.kind 0 a, ne_eqb g.kind 1 b, ne_eqb g.kind 2 c, ne_eqb g.kind 3 d)

pub returns-in_default : goal.returns-in_default
returns-in_default c = of_others c.args.g (λ e. omega arith) (λ e. omega arith) (λ e. omega arith) (λ e. omega arith)
