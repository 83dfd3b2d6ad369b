-- Each answer goes over as its number. Assumes nothing.
use mathlib.Core.Path.{◌≡◌, sym, ap, ◌∙◌}
use Rattle.std.specs.Prelude.{Result, Err}
use Rattle.certificate.specs.declared.Declined.{Declined}
use Rattle.certificate.specs.declared.Declined.TheVariants.{BadLength, OutOfRange, NotSeparated}
use Rattle.certificate.specs.Certificate.{certificate_number}
use Rattle.embedding.proofs.certify.certificate_number.Goals as goal

-- of a refusal that is x
of-declined : {r : Result (Unit {0}) Declined} {y : Declined} (x : Declined) → r ≡ Err y → y ≡ x → certificate_number (Err x) ≡ certificate_number r
of-declined x is told = ap (λ (z : Declined). certificate_number (Err z)) (sym told) ∙ ap certificate_number (sym is)

pub returns-in-Ok : goal.returns-in-Ok
unfolding certificate_number
returns-in-Ok c = simp c.in-Ok.is

pub returns-in-Err-BadLength : goal.returns-in-Err-BadLength
unfolding certificate_number
returns-in-Err-BadLength c = of-declined BadLength c.in-Err-BadLength.is (rw c.in-Err-BadLength.is at c.in-Err-BadLength.field-0-is)

pub returns-in-Err-OutOfRange : goal.returns-in-Err-OutOfRange
unfolding certificate_number
returns-in-Err-OutOfRange c = of-declined OutOfRange c.in-Err-OutOfRange.is (rw c.in-Err-OutOfRange.is at c.in-Err-OutOfRange.field-0-is)

pub returns-in-Err-NotSeparated : goal.returns-in-Err-NotSeparated
unfolding certificate_number
returns-in-Err-NotSeparated c = of-declined NotSeparated c.in-Err-NotSeparated.is (rw c.in-Err-NotSeparated.is at c.in-Err-NotSeparated.field-0-is)
