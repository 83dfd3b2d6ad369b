-- How long the words and the lines are at most: a line has room wherever the program asks for it. Assumes nothing.
use Prim.Native.Nat.{ℕ, ◌+◌, ◌≤◌}
use mathlib.Core.Path.{◌≡◌}
use mathlib.Core.List.{List}
use native.Mathlib.Omega.{arith}
use lib.ListN.{length, length-append}
use borrow.Author.Tests.{le-leb}
use Rattle.std.specs.Prelude.{Ok}
use Rattle.lines.specs.Text.{place_of}
use Rattle.std.proofs.Common.{append_assoc}
use Rattle.lines.proofs.Lengths.{number-length}
use Rattle.reason.specs.declared.reasons.Reason.{Reason}
use Rattle.reason.specs.declared.reasons.Reason.TheVariants as Why
use Rattle.reason.specs.Words.{words_of, reason_line}

pub words-length : (r : Reason) → length (words_of r) ≤ 39
unfolding words_of
words-length Why.PanicSite = omega arith
words-length Why.NoRoom = omega arith
words-length Why.Converged = omega arith
words-length Why.Stuck = omega arith
words-length Why.NearerFace = omega arith
words-length Why.EnoughExpansions = omega arith
words-length Why.HeapEmpty = omega arith
words-length Why.DegenerateStart = omega arith
words-length Why.KeyAtStart = omega arith
words-length Why.NoneHolds = omega arith
words-length Why.NoSilhouette = omega arith
words-length Why.AllDeleted = omega arith
words-length Why.KeyLater = omega arith

pub line-length : (n : ℕ) (r : Reason) → length (reason_line n r) ≤ 61
unfolding reason_line
line-length n r = simp length-append (omega (arith, number-length n, words-length r))

-- the program sees to 209 bytes, as for the lines of `separation`
pub line-fits : (o : List ℕ) (at n : ℕ) (r : Reason) → at + 209 ≤ length o → (place_of o at (reason_line n r)).answer ≡ Ok (at + length (reason_line n r))
unfolding place_of
line-fits o at n r h = rw (le-leb (at + length (reason_line n r)) (length o) (omega (arith, line-length n r)))

-- what putting a line together needs: how long the parts are, and that parts are put one after the other
pub ruleset parts = (append_assoc, length-append, number-length, words-length)
