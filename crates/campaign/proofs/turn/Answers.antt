-- `turn` is safe: the window's part of the input is within it. Assumes nothing.
use Rattle.std.proofs.Common.{sym, length-take-le}
use Rattle.pipes.proofs.Reading.{answerable}
use Rattle.campaign.proofs.turn.Goals as goal

pub slice_bounds-figures_next-end : goal.slice_bounds-figures_next-end
slice_bounds-figures_next-end c = (answerable _ c.make_ready-ready.result c.make_ready-ready.ensures.readied c.in-Ok.is).within

pub slice_bounds-figures_next-end-in-Ok : goal.slice_bounds-figures_next-end-in-Ok
slice_bounds-figures_next-end-in-Ok c = sym (length-take-le _ _ (answerable _ c.make_ready-ready.result c.make_ready-ready.ensures.readied c.in-Ok.is).within)
