-- The whole part is kept where it is on the grid, by the checker's own test. Assumes nothing.
use Rattle.std.proofs.Common.{◌≡◌, true, sym, ap, ◌∙◌, to_z-of_z, w64, to_z, of_z}
use lib.Ieee.{of_bits}
use Rattle.certificate.specs.Certificate.{on_grid}
use Rattle.certificate.proofs.Sizes.{back-64, range-tested, grid-fits}
use Rattle.proposal.specs.Proposal.{grid_number, kept}
use Rattle.proposal.proofs.Kept.{kept_there, kept-not}
use Rattle.proposal.proofs.grid_number.Goals as goal
use Rattle.proposal.proofs.grid_number.Goals.{Then-n}

-- the whole part, as the code holds it, and that it is on the grid
there : (c : Then-n) → on_grid (to_z w64 (of_z w64 c.before.whole_part-n.result)) ≡ true
there c = sym (range-tested (to_z w64 (of_z w64 c.before.whole_part-n.result))) ∙ c.if-n.true

pub overflow_cast-result : goal.overflow_cast-result
overflow_cast-result c = grid-fits (to_z w64 (of_z w64 c.whole_part-n.result)) (there c)

pub returns-then-n : goal.returns-then-n
unfolding grid_number of_bits
returns-then-n c =
    let n = to_z w64 (of_z w64 c.whole_part-n.result) in
    to_z-of_z (grid-fits n (there c)) ∙ kept_there n (there c) ∙ ap kept (back-64 c.whole_part-n.result c.whole_part-n.type_inv ∙ c.whole_part-n.ensures)

pub returns-else-n : goal.returns-else-n
unfolding grid_number of_bits
returns-else-n c =
    let n = to_z w64 (of_z w64 c.whole_part-n.result) in
    kept-not n (sym (range-tested n) ∙ c.if-n.false) ∙ ap kept (back-64 c.whole_part-n.result c.whole_part-n.type_inv ∙ c.whole_part-n.ensures)
