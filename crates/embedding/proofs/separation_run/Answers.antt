-- A kind above 3 leaves the lists as they are, the first records and the others; of two shapes the channel's answer is told. Assumes nothing.
use mathlib.Core.Path.{◌≡◌, sym, ap, ◌∙◌}
use mathlib.Core.List.{List}
use Prim.Native.Nat.{ℕ}
use Rattle.std.proofs.lemmas.List.{take-append-drop}
use Rattle.lines.specs.declared.line.Outcome.{Outcome}
use Rattle.epa_polytope.specs.Stores.{Lists, with_edges}
use Rattle.epa.specs.Final.{Final, final, answered}
use Rattle.epa_lent.specs.Lent.{on_first}
use Rattle.vote.specs.declared.Answer.{Answer}
use Rattle.answers.specs.Answers.{answer_of, malformed}
use Rattle.embedding.proofs.separation_run.Goals as goal

-- what keeps the lists keeps a store's
kept : (x : Answer) (l : Lists) → final x l ≡ on_first (λ k. final x k) l
kept x l = ap (λ (es : List ℕ). final x (with_edges es l)) (sym (take-append-drop 412 l.edges))

pub returns-in_default : goal.returns-in_default
returns-in_default c = rw (sym c.shape_of.ensures ∙ c.in_default.is, c.malformed_answer.ensures) (kept malformed _)

pub returns-in_default-shape_of : goal.returns-in_default-shape_of
returns-in_default-shape_of c =
    rw (
      sym c.shape_of.ensures ∙ c.in-Some.is,
      sym c.shape_of-2.ensures ∙ c.in_default-shape_of.is,
      c.malformed_answer-in_default-shape_of.ensures,
    )
    (kept malformed _)

pub returns : goal.returns
returns c =
    rw (sym c.shape_of.ensures ∙ c.in-Some.is, sym c.shape_of-2.ensures ∙ c.in-Some-shape_of.is, c.answer_of.ensures)
    (ap (λ (x : Final Outcome). answered answer_of x) c.separate.ensures)
