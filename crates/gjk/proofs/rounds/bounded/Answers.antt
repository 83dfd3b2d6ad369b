-- `bounded` returns what is seen by `bounded` of the definition and what follows it, test by test.
use mathlib.Core.Path.{◌≡◌}
use mathlib.Core.Bool.{false, not, ◌&&◌}
use lib.Ieee.{le, of_bits}
use Rattle.number.specs.Small.{gt}
use Rattle.vector.specs.Vector.{zero_f}
use Rattle.gjk.specs.declared.rounds.Query.{Query}
use Rattle.gjk.specs.declared.rounds.Sight.{Sight}
use Rattle.gjk.specs.Gjk.{bounded}
use Rattle.gjk.specs.Carried.{result_by, seen_by}
use Rattle.gjk.proofs.rounds.bounded.Goals as goal
use Rattle.gjk.proofs.rounds.bounded.Goals.{else-not-q-via-then-not-q+then-min_bound+else-r-q, else-not-q-via-then-not-q+else-min_bound, else-not-q-via-else-not-q}

-- the joined test fails
abbrev NotNear : Query → Sight → Type 0
NotNear q t = (not q.exact_dist && gt t.min_bound zero_f && le t.round.max_bound q.max_dist) ≡ false

pub returns-then-r-min_bound : goal.returns-then-r-min_bound
unfolding bounded seen_by of_bits
returns-then-r-min_bound c =
    let far : NotNear c.args.q c.args.sight =
    elim c.else-not-q.branch [
      | else-not-q-via-then-not-q+then-min_bound+else-r-q w ↦ simp (w.if-not-q.true, w.if-min_bound.true, w.if-r-q.false)
      | else-not-q-via-then-not-q+else-min_bound w ↦ simp (w.if-not-q.true, w.if-min_bound.false)
      | else-not-q-via-else-not-q w ↦ simp w.if-not-q.false
    ] in
    λ s. simp (c.apart_by.ensures s, c.if-r-min_bound.true, far, c.if-min_bound-q.false)

pub returns : goal.returns
unfolding bounded seen_by of_bits
returns c =
    let far : NotNear c.args.q c.args.sight =
    elim c.else-not-q.branch [
      | else-not-q-via-then-not-q+then-min_bound+else-r-q w ↦ simp (w.if-not-q.true, w.if-min_bound.true, w.if-r-q.false)
      | else-not-q-via-then-not-q+else-min_bound w ↦ simp (w.if-not-q.true, w.if-min_bound.false)
      | else-not-q-via-else-not-q w ↦ simp w.if-not-q.false
    ] in
    λ s. simp (c.if-r-min_bound.false, far, c.if-min_bound-q.false)

pub returns-then-r-q : goal.returns-then-r-q
unfolding bounded result_by seen_by of_bits
returns-then-r-q c = λ s. simp (c.if-r-q.true, c.if-min_bound.true, c.if-not-q.true, c.if-min_bound-q.false)
