-- No two reasons have the same words (`words-differ`): a reason is found again by the length of its words and their first letter. Assumes nothing.
use Prim.Native.Nat.{ℕ, ◌+◌, ◌*◌}
use mathlib.Core.Path.{◌≡◌, refl, sym, ap, ◌∙◌}
use mathlib.Core.Bool.{cond}
use mathlib.Core.List.{List}
use lib.Dec.{eqb}
use lib.ListN.{length, get_or}
use Rattle.reason.specs.declared.reasons.Reason.{Reason}
use Rattle.reason.specs.declared.reasons.Reason.TheVariants as Why
use Rattle.reason.specs.Words.{words_of}

abbrev mark : List ℕ → ℕ
mark l = 256 * length l + get_or l 0 0

abbrev first : List ℕ → ℕ → Reason → Reason → Reason
first l n r other = cond (eqb (mark l) n) r other

abbrev again : List ℕ → Reason
again l =
    first l 2672 Why.PanicSite (
    first l 1902 Why.NoRoom (
    first l 2403 Why.Converged (
    first l 1395 Why.Stuck (
    first l 9825 Why.NearerFace (
    first l 3633 Why.EnoughExpansions (
    first l 2664 Why.HeapEmpty (
    first l 4196 Why.DegenerateStart (
    first l 6251 Why.KeyAtStart (
    first l 10094 Why.NoneHolds (
    first l 4197 Why.NoSilhouette (
    first l 7265 Why.AllDeleted (
    Why.KeyLater))))))))))))

found-again : (r : Reason) → again (words_of r) ≡ r
unfolding words_of
found-again Why.PanicSite = refl
found-again Why.NoRoom = refl
found-again Why.Converged = refl
found-again Why.Stuck = refl
found-again Why.NearerFace = refl
found-again Why.EnoughExpansions = refl
found-again Why.HeapEmpty = refl
found-again Why.DegenerateStart = refl
found-again Why.KeyAtStart = refl
found-again Why.NoneHolds = refl
found-again Why.NoSilhouette = refl
found-again Why.AllDeleted = refl
found-again Why.KeyLater = refl

pub words-differ : (a b : Reason) → words_of a ≡ words_of b → a ≡ b
words-differ a b e = sym (found-again a) ∙ ap again e ∙ found-again b
