-- DOCUMENT 02, TICKET 5, of a whole record up to the last: where GJK finds that the shapes meet, the line that goes out has the words of the branch by which the polytope's run ended
-- (`the-line`); where it does not, none goes out and nothing is altered (`no_line`). And a turn on a window is the turn on the whole file (`reason-window`). Any format. Assumes nothing.
use Prim.Native.Nat.{ℕ, ◌+◌, ◌≤◌}
use mathlib.Core.Path.{◌≡◌, refl}
use mathlib.Core.List.{List, ◌++◌}
use lib.Ieee.{Format}
use lib.ListN.{length}
use borrow.Author.Tests.{le-ltb}
use Rattle.gjk.specs.declared.rounds.GJKResult.{GJKResult}
use Rattle.gjk.specs.declared.rounds.GJKResult.TheVariants.{Intersection, ClosestPoints, Proximity, NoIntersection}
use Rattle.gjk.specs.declared.rounds.Gjk.{Gjk}
use Rattle.epa_polytope.specs.Stores.{Lists}
use Rattle.epa_polytope.specs.declared.types.Walk.TheVariants.{Plain as plain}
use Rattle.epa.specs.declared.types.Answer.{Answer}
use Rattle.epa.specs.Final.{Final, final, answered, penetration}
use Rattle.casefile.specs.declared.records.Case.{Case}
use Rattle.casefile.specs.Numbers.{got}
use Rattle.casefile.specs.Records.{read_case}
use Rattle.channel.specs.Channel.{distance}
use Rattle.lines.specs.Text.{place_of}
use Rattle.window.specs.declared.Turn.TheVariants as Turn
use Rattle.stream.specs.Reading.{told, line_told, most_records, read_next}
use Rattle.stream.proofs.Windows.{Holds, moved_told, window-turn}
use Rattle.std.specs.Prelude.{Option, Result, Ok, Err}
use Rattle.refusal.specs.declared.WouldPanic.{WouldPanic}
use Rattle.reason.specs.declared.reasons.Reason.{Reason}
use Rattle.reason.specs.Reasons.{reason_of}
use Rattle.reason.specs.Words.{reason_line}
use Rattle.reason.specs.Turns.{by_result, reason_for, line_for, reason_turn}

-- GJK's run of a record, and the polytope's from the simplex that it left
abbrev pub gjk_run : Format → Case → Gjk
gjk_run f c = distance f c.pos12 c.g1 c.g2 c.dir c.max_dist c.exact

abbrev pub polytope_run : Format → Case → Lists → Final Answer
polytope_run f c l = penetration plain f c.pos12 c.g1 c.g2 (gjk_run f c).simplex l

kept_by : (q : Result GJKResult WouldPanic) → (q ≡ Ok Intersection → ⊥) → (meeting kept : Final (Option Reason)) → by_result q meeting kept ≡ kept
kept_by (Ok Intersection) h meeting kept = absurd (h refl)
kept_by (Ok (ClosestPoints a b d)) h meeting kept = refl
kept_by (Ok (Proximity d)) h meeting kept = refl
kept_by (Ok (NoIntersection d)) h meeting kept = refl
kept_by (Err e) h meeting kept = refl

module _ (f : Format) (s : List ℕ) (at base number : ℕ) (o : List ℕ) (place : ℕ) (l : Lists) (c : Case) (next : ℕ) (few : number ≤ most_records) (read : read_case f s at ≡ Ok (got c next)) where
  pub the-line : (gjk_run f c).result ≡ Ok Intersection
      → reason_turn f s at base number o place l
      ≡ answered (λ (x : Answer). line_told next (place_of o place (reason_line number (reason_of x.end)))) (polytope_run f c l)
  unfolding reason_turn read_next reason_for
  the-line meet = rw (le-ltb most_records number few, read, meet)

  pub no_line : ((gjk_run f c).result ≡ Ok Intersection → ⊥) → reason_turn f s at base number o place l ≡ final (told (Turn.Line next place) o) l
  unfolding reason_turn read_next reason_for
  no_line apart = rw (le-ltb most_records number few, read, kept_by (gjk_run f c).result apart)

pub reason-window : (f : Format) (front s behind : List ℕ) (at number : ℕ) (o : List ℕ) (place : ℕ) (l : Lists) → Holds f front s behind at number o place
    → reason_turn f (front ++ (s ++ behind)) (length front + at) 0 number o place l ≡ answered (moved_told (length front)) (reason_turn f s at (length front) number o place l)
unfolding reason_turn
reason-window f front s behind at number o place l h = window-turn f front s behind at number o place (line_for f number place) l h
