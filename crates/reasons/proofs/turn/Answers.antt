-- `turn` is safe: the window's part of the input is within it. Assumes nothing.
use Rattle.std.proofs.Common.{refl, sym, length-take-le}
use Rattle.pipes.proofs.Reading.{answerable}
use Rattle.reasons.proofs.turn.Goals as goal

pub slice_bounds-reason_next-end : goal.slice_bounds-reason_next-end
slice_bounds-reason_next-end c = (answerable _ _ c.in_ok-run.ensures.readied refl).within

pub slice_bounds-reason_next-end-2 : goal.slice_bounds-reason_next-end-2
slice_bounds-reason_next-end-2 c = sym (length-take-le _ _ (answerable _ _ c.in_ok-run.ensures.readied refl).within)
