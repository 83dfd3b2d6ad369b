-- A turn writes the two numbers of the store's next record.
use Rattle.std.proofs.Common.{◌≡◌, ℕ, ◌+◌, ◌*◌, min, List, length, get_or, set, take, replicate, arith, ap, sym, ◌∙◌}
use Rattle.std.proofs.lemmas.List.{length-replicate}
use Rattle.edges.specs.Edges.{edge, over, pairs_of}
use Rattle.edges.specs.declared.Edge.{Edge}
use Rattle.edges.specs.declared.Row.{Row}
use Rattle.edges.proofs.Over.{over_none, take_all}
use Rattle.edges.proofs.Pairs.{pairs_next, pairs-all}
use Rattle.edges.proofs.row_of.Goals as goal

pub loop-i-init : goal.loop-i-init
unfolding pairs_of
loop-i-init c = sym (over_none (replicate 412 0))

pub loop-i-preserved : goal.loop-i-preserved
loop-i-preserved c =
    let i = c.loop-i.i in
    let es = take c.written-n.result c.args.edges.now in
    ap (λ (ps : List ℕ). set (set ps (i * 2) (get_or es i (edge 0 0)).face) (i * 2 + 1) (get_or es i (edge 0 0)).corner) c.loop-i.invariant
    ∙ pairs_next i es (replicate 412 0) (omega arith)

abbrev row : List ℕ → ℕ → Row
row ps n = record { pairs = ps; n = n }

pub returns : goal.returns
returns c =
    let es = c.args.edges.now in
    let n = c.written-n.result in
    let all : n ≡ min (length es) 206 = omega arith in
    ap (λ (ps : List ℕ). row ps n)
    (c.loop-i.invariant
    ∙ ap (λ (fs : List Edge). over (pairs_of fs) (replicate 412 0)) (take_all c.loop-i.i (take n es) c.loop-i-test.false ∙ ap (λ (k : ℕ). take k es) all)
    ∙ pairs-all 206 es (replicate 412 0) (length-replicate {A = ℕ} 412 0))
    ∙ ap (row (over (pairs_of es) (replicate 412 0))) all
