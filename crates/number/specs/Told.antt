-- How a promise speaks of an answer by document 01's numbers. Definitions only.
-- Beside each enum that is an answer stand two definitions: the number of each of its cases, 0 or that of the refusal, and its values, zeros where it is refused.
-- A contract says first which case the answer is; then, named `told`, it says by these two what number and values the answer has. Every crate that answers so is built on this one.
use Prim.{Unit, tt}
use Rattle.std.specs.Prelude.{ℕ, ◌≡◌}

-- the answer r has the number and the values of d
pub record Told {A W : Type 0} (number_of : A → ℕ) (values_of : A → W) (r d : A) : Type 0 where
  pub number : number_of r ≡ number_of d
  pub values : values_of r ≡ values_of d

-- the values of an answer that is a number only
abbrev pub no_values : {A : Type 0} → A → Unit {0}
no_values a = tt
