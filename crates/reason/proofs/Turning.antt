-- The line of a record's reason, placed or not, or no line: what a turn makes of a record. Assumes nothing.
use mathlib.Core.Path.{◌≡◌, ap, ◌∙◌}
use mathlib.Core.List.{List}
use Prim.Native.Nat.{ℕ}
use lib.Ieee.{Format}
use Rattle.casefile.specs.declared.records.Case.{Case}
use Rattle.std.specs.Prelude.{Result}
use Rattle.refusal.specs.declared.NoRoom.{NoRoom}
use Rattle.lines.specs.Text.{After, after}
use Rattle.epa_polytope.specs.Stores.{Lists}
use Rattle.epa.specs.Final.{final, answered}
use Rattle.std.specs.Prelude.{Option}
use Rattle.reason.specs.declared.reasons.Reason.{Reason}
use Rattle.reason.specs.Words.{reason_placed}
use Rattle.reason.specs.Turns.{case_reason, line_for}

pub lined : (f : Format) (number place : ℕ) (o : List ℕ) (c : Case) (l : Lists) {x : Option Reason} {l1 : Lists} → final x l1 ≡ case_reason f c l
    → {o1 : List ℕ} {p : Result ℕ NoRoom} → after o1 p ≡ reason_placed o place number x → final (after o1 p) l1 ≡ line_for f number place o c l
lined f number place o c l {x} {l1} e written = ap (λ (t : After). final t l1) written ∙ ap (answered (reason_placed o place number)) e
