-- `read_enough` keeps what its loop keeps, one read on.
use Rattle.std.proofs.Common.{rules, sym}
use Rattle.pipes.proofs.Gone.{read-more, fewer-kept}
use Rattle.pipes.proofs.read_enough.Goals as goal

pub loop-preserved : goal.loop-preserved
loop-preserved g c =
    let before = c.loop.invariant in
    let one = c.in_ok-seen.ensures in
    (search rules, search rules, fewer-kept before.1.more before.2 one.kept, read-more before.3 (sym c.if-has_enough.ensures) one.kept one.taken)
