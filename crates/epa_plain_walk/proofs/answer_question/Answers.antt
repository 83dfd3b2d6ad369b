-- A question is answered as its definition has it, by what the code tests. Assumes nothing.
use mathlib.Core.Path.{sym, ◌∙◌}
use Rattle.epa_polytope.proofs.PlainLoop.{answer-dead, answer-edge, answer-seen}
use Rattle.epa_plain_walk.proofs.answer_question.Goals as goal

pub returns-then-deleted_at-ne0 : goal.returns-then-deleted_at-ne0
returns-then-deleted_at-ne0 c k = answer-dead _ _ _ _ (λ z. c.if-deleted_at-ne0.true (c.deleted_at.ensures ∙ z))

pub returns-then-can_be_seen_by : goal.returns-then-can_be_seen_by
returns-then-can_be_seen_by c k =
    answer-seen _ _ _ _ (sym c.deleted_at.ensures ∙ c.if-deleted_at-ne0.false) _ _ _ (sym (c.can_be_seen_by.ensures k) ∙ c.if-can_be_seen_by.true) c.set_deleted.ensures
    c.facing_at-first.ensures c.facing_at-second.ensures _ _
    c.put_in-one.ensures c.put_in.ensures

pub returns : goal.returns
returns c k =
    answer-edge _ _ _ _ (sym c.deleted_at.ensures ∙ c.if-deleted_at-ne0.false)
    (sym (c.can_be_seen_by.ensures k) ∙ c.if-can_be_seen_by.false) _ c.note-noted.ensures
