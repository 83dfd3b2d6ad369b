-- What the row of a store is, and what publishing a row does to it. Assumes nothing.
--     numbers-handed       a row's numbers are those of the store's first records, at most 206.        row-whole        all of it is there
--     records-read         it holds those records.        published-back       publishing what was read leaves the store as it was
--     length-published, beyond-kept        the store is as long as it was, and the places beyond the records are as they were
--     numbers-back         where as many numbers come back as were read, they are the store's first, and what there was beyond follows them
use mathlib.Core.Path.{◌≡◌, sym, ap, ◌∙◌}
use Prim.Native.Nat.{ℕ, ◌*◌, ◌≤◌, min}
use native.Mathlib.Nat.{min-le_left, min-le_right}
use native.Mathlib.Omega.{arith}
use mathlib.Core.List.{List, ◌++◌}
use lib.ListN.{length, take, drop, replicate, length-take, length-replicate}
use Rattle.edges.specs.Edges.{over, pairs_of, records, Whole, row_of, records_of, numbers_of, published}
use Rattle.edges.specs.declared.Edge.{Edge}
use Rattle.edges.specs.declared.Row.{Row}
use Rattle.edges.proofs.Over.{take_short, drop-short, length_over, over-same, over-is, take-over, drop-over}
use Rattle.edges.proofs.Pairs.{length_pairs, pairs-take, records-take, records-of, pairs-over}

-- ---- what is read
pub row-whole : (es : List Edge) → Whole (row_of es)
row-whole es = (min-le_right (length es) 206, length_over (pairs_of es) (replicate 412 0) ∙ length-replicate {A = ℕ} 412 0)

pub numbers-handed : (es : List Edge) → numbers_of (row_of es) ≡ take 412 (pairs_of es)
numbers-handed es =
    take-over ((row_of es).n * 2) (pairs_of es) (replicate 412 0) (omega (arith, min-le_left (length es) 206, length_pairs es)) (omega (arith, (row-whole es).0, length-replicate {A = ℕ} 412 0))
    ∙ sym (pairs-take (row_of es).n es) ∙ ap pairs_of (take_short 206 es) ∙ pairs-take 206 es

pub records-read : (es : List Edge) → records_of (row_of es) ≡ take 206 es
records-read es = records-take (row_of es).n (row_of es).pairs ∙ ap records (numbers-handed es ∙ sym (pairs-take 206 es)) ∙ records-of (take 206 es)

-- ---- what is published
pub published-back : (es : List Edge) → published (row_of es) es ≡ es
published-back es = ap (λ (rs : List Edge). over rs es) (records-read es) ∙ over-same 206 es

pub length-published : (r : Row) (es : List Edge) → length (published r es) ≡ length es
length-published r es = length_over (records_of r) es

pub beyond-kept : (r : Row) (es : List Edge) (k : ℕ) → length (records_of r) ≤ k → drop k (published r es) ≡ drop k es
beyond-kept r es k short = drop-over k (records_of r) es short

-- ---- as many records come back as were read
numbers-told : (es : List Edge) → length (numbers_of (row_of es)) ≡ (row_of es).n * 2
numbers-told es = length-take ((row_of es).n * 2) (row_of es).pairs ∙ omega (arith, (row-whole es).0, (row-whole es).1)

pub numbers-back : (ps : List ℕ) (es : List Edge) → length ps ≡ length (numbers_of (row_of es)) → pairs_of (over (records ps) es) ≡ ps ++ drop 412 (pairs_of es)
numbers-back ps es same =
    let told : length ps ≡ (row_of es).n * 2 = same ∙ numbers-told es in
    let in-numbers : length ps ≡ min (length (pairs_of es)) 412 = omega (arith, length_pairs es) in
    pairs-over (row_of es).n ps es told ∙ over-is ps (pairs_of es) (omega arith) ∙ ap (λ (k : ℕ). ps ++ drop k (pairs_of es)) in-numbers
    ∙ ap (λ (rs : List ℕ). ps ++ rs) (drop-short 412 (pairs_of es))
