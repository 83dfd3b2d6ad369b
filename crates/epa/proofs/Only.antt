-- The contract of a whole call leaves no choice: what meets it is one answer and one content of each list (`ends-only`). Assumes nothing.
use mathlib.Core.Path.{◌≡◌, sym, ap, ◌∙◌}
use Rattle.epa_polytope.specs.Stores.{Lists}
use Rattle.epa.specs.Final.{Final, final}

pub ends-only : {A : Type 0} {x y : A} {l k : Lists} (f : Final A) → final x l ≡ f → final y k ≡ f → (x ≡ y) × (l ≡ k)
ends-only {A} f g h = let e = g ∙ sym h in (ap (λ (z : Final A). z.answer) e, ap (λ (z : Final A). z.lists) e)
