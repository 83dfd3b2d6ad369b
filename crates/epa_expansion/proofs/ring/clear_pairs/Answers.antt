-- `clear_pairs` leaves what `blank` says: at each turn the pairs passed are zero. Assumes nothing.
use native.Mathlib.Omega.{arith}
use mathlib.Core.Path.{◌≡◌, refl, sym, ap, ◌∙◌}
use Prim.Native.Nat.{ℕ}
use Rattle.epa_polytope.specs.Expansion.{blank}
use Rattle.epa_polytope.proofs.Lists.{blank-next}
use Rattle.epa_expansion.proofs.ring.clear_pairs.Goals as goal

pub loop-i-init : goal.loop-i-init
unfolding blank
loop-i-init c = refl

pub loop-i-preserved : goal.loop-i-preserved
loop-i-preserved c = c.put_question.ensures ∙ rw c.loop-i.invariant (sym (blank-next c.loop-i.i c.args.l.now))

pub returns : goal.returns
returns c = c.loop-i.invariant ∙ ap (λ (k : ℕ). blank k c.args.l.now) (omega arith)
