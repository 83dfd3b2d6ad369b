-- The checker answers what its definition says, with its number: the same tests in the same order; for the products it is enough to ask whether every corner of the second hull is above the greatest of the first. Assumes nothing.
use mathlib.Core.Path.{◌≡◌, ap, sym, ◌∙◌}
use mathlib.Core.Bool.{true, ◌&&◌}
use lib.IntN.{ℤ}
use lib.ListN.{length}
use Rattle.certificate.specs.Certificate.{every, above, corners, separated, is_hull, on_grid, vector_on_grid, certificate_number}
use Rattle.certificate.specs.Parts.{Bounds}
use Rattle.certificate.proofs.Tests.{split}
use Rattle.certificate.proofs.Sizes.{back-64}
use Rattle.certificate.proofs.Answers.{has-corner, bad-length, out_of_range, accepted, not-separated}
use Rattle.certificate.proofs.certify.Goals as goal
use Rattle.certificate.proofs.certify.Goals.{After-every_above, After-is_hull-2, After-vector_on_grid, Else-not-every_on_grid-vector_on_grid, Else-not-is_hull}

-- ---- what the calls tell of the lengths, of the ranges and of the products
lengths : (c : After-is_hull-2) → c.is_hull.result && c.is_hull-2.result ≡ is_hull (length c.args.first.now) && is_hull (length c.args.second.now)
lengths c = rw (← c.is_hull.ensures, ← c.is_hull-2.ensures)

lengths-hold : (c : Else-not-is_hull) → is_hull (length c.args.first.now) && is_hull (length c.args.second.now) ≡ true
lengths-hold c = sym (lengths c.before) ∙ c.if-not-is_hull.false

ranges : (c : After-vector_on_grid)
    → c.every_on_grid.result && c.every_on_grid-2.result && c.vector_on_grid.result ≡ every on_grid c.args.first.now && every on_grid c.args.second.now && vector_on_grid c.args.direction
ranges c = rw (← c.every_on_grid.ensures, ← c.every_on_grid-2.ensures, ← c.vector_on_grid.ensures)

ranges-hold : (c : Else-not-every_on_grid-vector_on_grid) → every on_grid c.args.first.now && every on_grid c.args.second.now && vector_on_grid c.args.direction ≡ true
ranges-hold c = sym (ranges c.before) ∙ c.if-not-every_on_grid-vector_on_grid.false

products : (c : After-every_above) → c.every_above.result ≡ separated c.args.direction (corners c.args.first.now) (corners c.args.second.now)
unfolding Bounds
products c =
    c.every_above.ensures
    ∙ ap (λ (n : ℤ). every (above c.args.direction n) (corners c.args.second.now)) (back-64 c.greatest.result c.greatest.type_inv)
    ∙ c.greatest.ensures (corners c.args.second.now)

-- ---- the answers
pub returns-then-not-is_hull-clause-answer : goal.returns-then-not-is_hull-clause-answer
returns-then-not-is_hull-clause-answer c =
    sym (bad-length c.args.first.now c.args.second.now c.args.direction (sym (lengths (goal.at.returns-then-not-is_hull-clause-answer c).After-is_hull-2) ∙ c.if-not-is_hull.true))

pub returns-then-not-is_hull-clause-number : goal.returns-then-not-is_hull-clause-number
returns-then-not-is_hull-clause-number c = ap certificate_number (returns-then-not-is_hull-clause-answer c)

pub greatest-requires : goal.greatest-requires
greatest-requires c =
    let first = length c.args.first.now in
    let second = length c.args.second.now in
    has-corner first (split (is_hull first) (is_hull second) (lengths-hold (goal.at.greatest-requires c).Else-not-is_hull)).0

pub returns-then-not-every_on_grid-vector_on_grid-clause-answer : goal.returns-then-not-every_on_grid-vector_on_grid-clause-answer
returns-then-not-every_on_grid-vector_on_grid-clause-answer c =
    let at = goal.at.returns-then-not-every_on_grid-vector_on_grid-clause-answer c in
    sym (out_of_range c.args.first.now c.args.second.now c.args.direction (lengths-hold at.Else-not-is_hull) (sym (ranges at.After-vector_on_grid) ∙ c.if-not-every_on_grid-vector_on_grid.true))

pub returns-then-not-every_on_grid-vector_on_grid-clause-number : goal.returns-then-not-every_on_grid-vector_on_grid-clause-number
returns-then-not-every_on_grid-vector_on_grid-clause-number c = ap certificate_number (returns-then-not-every_on_grid-vector_on_grid-clause-answer c)

pub returns-then-every_above-clause-answer : goal.returns-then-every_above-clause-answer
returns-then-every_above-clause-answer c =
    let at = goal.at.returns-then-every_above-clause-answer c in
    sym (accepted c.args.first.now c.args.second.now c.args.direction (lengths-hold at.Else-not-is_hull) (ranges-hold at.Else-not-every_on_grid-vector_on_grid) (sym (products at.After-every_above) ∙ c.if-every_above.true))

pub returns-then-every_above-clause-number : goal.returns-then-every_above-clause-number
returns-then-every_above-clause-number c = ap certificate_number (returns-then-every_above-clause-answer c)

pub returns-else-every_above-clause-answer : goal.returns-else-every_above-clause-answer
returns-else-every_above-clause-answer c =
    let at = goal.at.returns-else-every_above-clause-answer c in
    sym (not-separated c.args.first.now c.args.second.now c.args.direction (lengths-hold at.Else-not-is_hull) (ranges-hold at.Else-not-every_on_grid-vector_on_grid) (sym (products at.After-every_above) ∙ c.if-every_above.false))

pub returns-else-every_above-clause-number : goal.returns-else-every_above-clause-number
returns-else-every_above-clause-number c = ap certificate_number (returns-else-every_above-clause-answer c)
