-- Why a run of the polytope ended: the branch of its definition by which it did (document 02, ticket 5). Definitions only.
use Rattle.epa_polytope.specs.declared.types.End.{End}
use Rattle.epa_polytope.specs.declared.types.Found.{Found}
use Rattle.epa_polytope.specs.declared.types.Lost.{Lost}
use Rattle.reason.specs.declared.reasons.Reason.{Reason}

abbrev pub found_reason : Found → Reason
found_reason Found.SinglePoint = Reason.DegenerateStart
found_reason Found.Converged = Reason.Converged
found_reason Found.Stuck = Reason.Stuck
found_reason Found.NewFaceNearer = Reason.NearerFace
found_reason Found.EnoughExpansions = Reason.EnoughExpansions
found_reason Found.HeapEmpty = Reason.HeapEmpty

-- refusal 1
abbrev pub lost_reason : Lost → Reason
lost_reason Lost.KeyAtStart = Reason.KeyAtStart
lost_reason Lost.NoneHolds = Reason.NoneHolds
lost_reason Lost.NoSilhouette = Reason.NoSilhouette
lost_reason Lost.AllDeleted = Reason.AllDeleted
lost_reason Lost.KeyLater = Reason.KeyLater

abbrev pub reason_of : End → Reason
reason_of (End.Answers why p1 p2 n) = found_reason why
reason_of (End.Nothing why) = lost_reason why
reason_of (End.Panics site) = Reason.PanicSite
reason_of (End.NoRoom store) = Reason.NoRoom
