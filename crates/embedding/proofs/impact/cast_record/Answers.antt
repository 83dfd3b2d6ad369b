-- `cast_record` returns the definition's `cast_record`, case by case.
use mathlib.Core.Path.{◌≡◌, sym, ap, ◌∙◌}
use lib.Ieee.{of_bits}
use Rattle.std.specs.Prelude.{Option, Some, None, Ok}
use Rattle.vector.specs.Vector.{zero_v}
use Rattle.cast.specs.declared.rounds.Impact.{Impact}
use Rattle.cast.specs.Cast.{Cast, cast_number, cast_values}
use Rattle.embedding.specs.Impact.{cast_record}
use Rattle.embedding.proofs.impact.cast_record.Goals as goal

-- of an answer that is x
of-answer : {r : Cast} {y : Option Impact} (x : Option Impact) → r ≡ Ok y → y ≡ x → cast_record (Ok x) ≡ cast_record r
of-answer x is told = ap (λ (z : Option Impact). cast_record (Ok z)) (sym told) ∙ ap cast_record (sym is)

pub returns-in-Ok-Some : goal.returns-in-Ok-Some
unfolding cast_record cast_number cast_values zero_v of_bits
returns-in-Ok-Some c = of-answer (Some c.in-Ok-Some.impact) c.in-Ok-Some.is (rw c.in-Ok-Some.is at c.in-Ok-Some.field-0-is)

pub returns-in-Ok-None : goal.returns-in-Ok-None
unfolding cast_record cast_number cast_values zero_v of_bits
returns-in-Ok-None c = of-answer None c.in-Ok-None.is (rw c.in-Ok-None.is at c.in-Ok-None.field-0-is)

pub returns-in-Err : goal.returns-in-Err
unfolding cast_record cast_number cast_values zero_v of_bits
returns-in-Err c = simp c.in-Err.is
