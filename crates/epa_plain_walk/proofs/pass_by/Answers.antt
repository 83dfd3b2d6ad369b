-- A pass by either walk. Assumes nothing.
use Rattle.std.proofs.Common.{Bool, not, ap, eq-eqb, ne_eqb}
use Rattle.epa_polytope.specs.Promises.{walk_of}
use Rattle.epa_polytope.proofs.PlainLoop.{recursively, plainly}
use Rattle.epa_plain_walk.proofs.pass_by.Goals as goal

pub returns-then-this-ne0 : goal.returns-then-this-ne0
returns-then-this-ne0 g c k =
    plainly _ _ _ _ _ (ap (λ (b : Bool). walk_of (not b)) (ne_eqb g.row.PLAIN 0 c.if-this-ne0.true)) (c.plain_pass.ensures k)

pub returns : goal.returns
returns g c k =
    recursively _ _ _ _ _ (ap (λ (b : Bool). walk_of (not b)) (eq-eqb g.row.PLAIN 0 c.if-this-ne0.false)) (c.pass-walked.ensures k)
