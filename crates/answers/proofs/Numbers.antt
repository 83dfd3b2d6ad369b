-- Document 01's number of an answer, read off its letter, is that of the outcome that it tells (`number-told`); of a malformed record it is 4 (`number-malformed`), and of the zeros that a vote gives where
-- no two agree it is that of the verdict (`number-of-none`). So no answer of a channel, and no malformed one, is those zeros (`never-none`, `malformed-never-none`). By the cases of each. Assumes nothing.
use mathlib.Core.Path.{◌≡◌, refl, ap}
use native.Mathlib.Omega.{arith}
use Rattle.lines.specs.declared.line.Outcome.{Outcome}
use Rattle.lines.specs.declared.line.Outcome.TheVariants.{ClosestPoints, Proximity, NoIntersection, Penetration, NoAnswer, Panic, NoPlace}
use Rattle.lines.specs.Lines.{outcome_number}
use Rattle.vote.specs.declared.Answer.{Answer}
use Rattle.std.specs.Prelude.{Err}
use Rattle.vote.specs.Vote.{no_answer, no_agreement, verdict_number}
use Rattle.answers.specs.Answers.{answer_of, malformed, number_of}

pub number-told : (o : Outcome) → number_of (answer_of o).outcome ≡ outcome_number o
unfolding answer_of number_of
number-told (ClosestPoints a b n) = refl
number-told (Proximity n) = refl
number-told (NoIntersection n) = refl
number-told (Penetration a b n c) = refl
number-told (NoAnswer c) = refl
number-told Panic = refl
number-told (NoPlace c) = refl

pub number-malformed : number_of malformed.outcome ≡ 4
unfolding malformed number_of
number-malformed = refl

pub number-of-none : number_of no_answer.outcome ≡ verdict_number (Err no_agreement)
unfolding no_answer number_of
number-of-none = refl

same_outcome : {a b : Answer} → a ≡ b → a.outcome ≡ b.outcome
same_outcome = ap (λ (x : Answer). x.outcome)

letter-not-none : (o : Outcome) → (answer_of o).outcome ≡ 0 → ⊥
unfolding answer_of
letter-not-none (ClosestPoints a b n) e = omega arith
letter-not-none (Proximity n) e = omega arith
letter-not-none (NoIntersection n) e = omega arith
letter-not-none (Penetration a b n c) e = omega arith
letter-not-none (NoAnswer c) e = omega arith
letter-not-none Panic e = omega arith
letter-not-none (NoPlace c) e = omega arith

pub never-none : (o : Outcome) → answer_of o ≡ no_answer → ⊥
unfolding no_answer
never-none o e = letter-not-none o (same_outcome e)

pub malformed-never-none : malformed ≡ no_answer → ⊥
unfolding malformed no_answer
malformed-never-none e = let h = same_outcome e in omega (arith, h)
