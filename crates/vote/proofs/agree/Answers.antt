-- Two answers agree where the definition says so: the same tests, with what `same_vectors` and the counts' `==` return. Assumes nothing.
use mathlib.Core.Path.{◌≡◌, ◌∙◌}
use mathlib.Core.Bool.{and_assoc, and-true}
use Rattle.vote.specs.Vote.{agree, same_counts}
use Rattle.vote.proofs.agree.Goals as goal
use Rattle.vote.proofs.agree.Goals.{After-eq}

told : (c : After-eq) → c.eq.result ≡ same_counts c.args.a.counts c.args.b.counts
unfolding same_counts
told c = c.eq.ensures ∙ simp (and_assoc, and-true)

pub returns : goal.returns
unfolding agree
returns c = simp (← c.same_vectors.ensures, ← c.same_vectors-2.ensures, ← c.same_vectors-3.ensures, ← told (goal.at.returns c).After-eq)
