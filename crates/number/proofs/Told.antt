-- What is the definition's answer has its number and its values, whatever they are. Assumes nothing.
use Prim.Native.Nat.{ℕ}
use mathlib.Core.Path.{◌≡◌, ap}
use Rattle.number.specs.Told.{Told}

pub told : {A W : Type 0} {number_of : A → ℕ} {values_of : A → W} {r d : A} → r ≡ d → Told number_of values_of r d
told {number_of = n} {values_of = v} e = record { number = ap n e; values = ap v e }

-- of a result that is the answer: both clauses of a contract from the first
pub both : {A W : Type 0} {number_of : A → ℕ} {values_of : A → W} {r d : A} → r ≡ d → (r ≡ d) × Told number_of values_of r d
both e = (e, told e)

-- of a result that carries the answer beside something else
pub both_of : {A B W : Type 0} {number_of : B → ℕ} {values_of : B → W} (answer : A → B) {r d : A} → r ≡ d → (r ≡ d) × Told number_of values_of (answer r) (answer d)
both_of answer e = (e, told (ap answer e))
