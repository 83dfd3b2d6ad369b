-- The run on the numbers of the store's first records, left as records there, is the run on the store's first records (`on-records`). Assumes nothing.
use Rattle.std.specs.Float.{binary32}
use Rattle.epa_polytope.specs.declared.types.Walk.TheVariants.{Plain as plain}
use Rattle.edges.proofs.Lent.{handed, back}
use Rattle.epa.specs.Final.{penetration}
use Rattle.epa_lent.proofs.Lent.{on-records}
use Rattle.epa_lent.proofs.closest_points.Goals as goal

pub returns : goal.returns
returns c =
    let es = c.args.edges.now in
    let row = c.row_of-n.result in
    let is = c.row_of-n.ensures in
    let ran = c.closest_points_plain-answer in
    let leaves = back es row is ran.new.edges ran.auto.edges c.publish.ensures in
    on-records (penetration plain binary32 c.args.pos12 c.args.g1 c.args.g2 c.args.simplex) es (handed es row is) ran.auto.edges leaves ran.ensures.answer
