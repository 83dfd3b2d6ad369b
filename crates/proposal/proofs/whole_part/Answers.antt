-- The whole part is asked for where an `i64` has it, which the two tests say, and is 0 elsewhere. Assumes nothing.
use Rattle.std.proofs.Common.{T, sym, ◌∙◌, subst}
use lib.Ieee.{of_bits, neg}
use Rattle.proposal.specs.Proposal.{whole_part}
use Rattle.certificate.proofs.Sizes.{back-64}
use Rattle.proposal.proofs.whole_part.Goals as goal

pub truncating_f32_to_i64-requires-clause-lower_bound : goal.truncating_f32_to_i64-requires-clause-lower_bound
unfolding of_bits neg
truncating_f32_to_i64-requires-clause-lower_bound c = subst T (sym c.if-x.true) tt

pub truncating_f32_to_i64-requires-clause-upper_bound : goal.truncating_f32_to_i64-requires-clause-upper_bound
unfolding of_bits neg
truncating_f32_to_i64-requires-clause-upper_bound c = subst T (sym c.if-x-2.true) tt

pub returns-then-x-2 : goal.returns-then-x-2
unfolding whole_part of_bits neg
returns-then-x-2 c =
    back-64 c.truncating_f32_to_i64.result c.truncating_f32_to_i64.type_inv ∙ c.truncating_f32_to_i64.ensures ∙ simp (c.if-x.true, c.if-x-2.true)

pub returns-else-x-2 : goal.returns-else-x-2
unfolding whole_part of_bits neg
returns-else-x-2 c = simp (c.if-x.true, c.if-x-2.false)

pub returns-else-x : goal.returns-else-x
unfolding whole_part of_bits neg
returns-else-x c = simp c.if-x.false
