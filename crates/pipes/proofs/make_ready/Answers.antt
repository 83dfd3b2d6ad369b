-- Where the write failed that was to make room, nothing is read.
use Rattle.std.proofs.KnownBytes.{Keeps-refl}
use Rattle.pipes.proofs.Reading.{no-place, no-place-passed}
use Rattle.pipes.proofs.make_ready.Goals as goal

pub returns-in_default-clause-readied : goal.returns-in_default-clause-readied
returns-in_default-clause-readied g c = no-place _ c.in_ok-run.was c.with_room.ensures.roomy c.in_default.not-Ok

pub returns-in_default-clause-passed : goal.returns-in_default-clause-passed
returns-in_default-clause-passed g c = no-place-passed _ (Keeps-refl _) c.in_ok-run.was c.with_room.ensures.drained c.in_default.not-Ok
