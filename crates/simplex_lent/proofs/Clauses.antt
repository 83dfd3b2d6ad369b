-- The two clauses of a contract in a walk by hand: both are shown where the walk ends, and of a callee's two the first is heard. Assumes nothing.
use mathlib.Core.List.{List}
use seplogic.Ra.Ura.{Ura}
use base.Logic.{SProp, ent, sep, emp, via, comm∗, mono∗, mono_l, fst∗, snd∗, emp∗}
use types.Logic.{Logic}
use contract.Monad.{fact, fact_i}
use types.Kit.{Item, prop, Step, step}

-- a goal P ∗ (⌜φ⌝ ∗ ⌜ψ⌝): both are shown, and P is left
pub says_both : {M : Type 1} {𝓤 : Ura M} {𝓛 : Logic 𝓤} {K : Type 0} {Γ : List (Item 𝓤)} → K → {φ ψ : Type 0} {P : SProp 𝓤} → φ → ψ
    → Step K 𝓛 Γ (prop P) Γ (prop (sep 𝓤 P (sep 𝓤 (fact 𝓤 φ) (fact 𝓤 ψ))))
says_both {𝓤 = 𝓤} t {φ} {ψ} {P} x y =
    let facts = sep 𝓤 (fact 𝓤 φ) (fact 𝓤 ψ) in
    let shown = via 𝓤 (sep 𝓤 (emp 𝓤) (emp 𝓤)) (emp∗ 𝓤 (emp 𝓤)) (mono∗ 𝓤 (fact_i 𝓤 φ (emp 𝓤) x) (fact_i 𝓤 ψ (emp 𝓤) y)) in
    step (λ s. record { prf = via 𝓤 P s.prf (via 𝓤 (sep 𝓤 (emp 𝓤) P) (emp∗ 𝓤 P) (via 𝓤 (sep 𝓤 facts P) (mono_l 𝓤 P shown) (comm∗ 𝓤 facts P))) })

-- the first of two clauses, whatever is said of last values beside them
pub hears-first : {M : Type 1} (𝓤 : Ura M) (L : SProp 𝓤) (φ ψ : Type 0) → ent 𝓤 (sep 𝓤 L (sep 𝓤 (fact 𝓤 φ) (fact 𝓤 ψ))) (fact 𝓤 φ)
hears-first 𝓤 L φ ψ = let facts = sep 𝓤 (fact 𝓤 φ) (fact 𝓤 ψ) in via 𝓤 facts (snd∗ 𝓤 L facts) (fst∗ 𝓤 (fact 𝓤 φ) (fact 𝓤 ψ))
