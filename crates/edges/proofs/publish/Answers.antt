-- A turn writes the row's next record over the store's; where the loop ends, the row or the store ends.
use Rattle.std.proofs.Common.{◌≡◌, ℕ, ◌+◌, ◌*◌, ◌<◌, List, ◌++◌, length, get_or, set, take, drop, length-take, arith, ap, sym, ◌∙◌}
use Rattle.edges.specs.Edges.{edge, over, records}
use Rattle.edges.specs.declared.Edge.{Edge}
use Rattle.edges.proofs.Over.{over_none, over-next, over-enough, over-front, over-some}
use Rattle.edges.proofs.Pairs.{length-records, record-at}
use Rattle.edges.proofs.publish.Goals as goal

pub loop-i-init : goal.loop-i-init
loop-i-init c = sym (over_none (take c.written-n.result c.args.edges.now))

pub loop-i-preserved : goal.loop-i-preserved
loop-i-preserved c =
    let i = c.loop-i.i in
    let ps = c.args.row.pairs in
    let es = take c.written-n.result c.args.edges.now in
    let full : length ps ≡ 412 = omega arith in
    let less : i < 206 = omega (arith, length-take c.written-n.result c.args.edges.now) in
    let many = length-records 206 ps full in
    ap (λ (first : List Edge). set first i (edge (get_or ps (i * 2) 0) (get_or ps (i * 2 + 1) 0))) c.loop-i.invariant
    ∙ ap (λ (e : Edge). set (over (take i (records ps)) es) i e) (sym (record-at i ps (omega arith)))
    ∙ over-next i (records ps) es (edge 0 0) (omega arith)

pub returns : goal.returns
returns c =
    let ps = c.args.row.pairs in
    let es = c.args.edges.now in
    let n = c.written-n.result in
    let full : length ps ≡ 412 = omega arith in
    ap (λ (first : List Edge). first ++ drop n es) (c.loop-i.invariant ∙ over-enough c.loop-i.i (records ps) (take n es) c.loop-i-test.false)
    ∙ over-front n (records ps) es
    ∙ ap (λ (k : ℕ). over (take k (records ps)) es) c.written-n.ensures
    ∙ over-some c.args.row.n 206 (records ps) es (length-records 206 ps full)
