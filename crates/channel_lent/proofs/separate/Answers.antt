-- The channel on the numbers of the store's first records, left as records there, is the channel on the store's first records (`on-records`). Assumes nothing.
use Rattle.std.specs.Float.{binary32}
use Rattle.edges.proofs.Lent.{handed, back}
use Rattle.channel.specs.Channel.{separated}
use Rattle.epa_lent.proofs.Lent.{on-records}
use Rattle.channel_lent.proofs.separate.Goals as goal

pub returns : goal.returns
returns c =
    let es = c.args.edges.now in
    let row = c.row_of-n.result in
    let is = c.row_of-n.ensures in
    let ran = c.on_numbers-outcome in
    let leaves = back es row is ran.new.edges ran.auto.edges c.publish.ensures in
    on-records (separated binary32 c.args.pos12 c.args.g1 c.args.g2 c.args.dir c.args.max_dist c.args.exact) es (handed es row is) ran.auto.edges leaves ran.ensures
