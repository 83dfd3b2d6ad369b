-- The contracts of the writers leave no choice: what meets one is one content of the slice and one answer (`after-only`). Assumes nothing.
use mathlib.Core.Path.{◌≡◌, sym, ap, ◌∙◌}
use mathlib.Core.List.{List}
use Prim.Native.Nat.{ℕ}
use Rattle.std.specs.Prelude.{Result}
use Rattle.refusal.specs.declared.NoRoom.{NoRoom}
use Rattle.lines.specs.Text.{After, after}

pub after-only : {o p : List ℕ} {a b : Result ℕ NoRoom} (x : After) → after o a ≡ x → after p b ≡ x → (o ≡ p) × (a ≡ b)
after-only x g h = let e = g ∙ sym h in (ap (λ (y : After). y.bytes) e, ap (λ (y : After). y.answer) e)
