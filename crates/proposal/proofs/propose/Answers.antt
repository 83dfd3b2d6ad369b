-- Each number of the proposal is its share of the reach. Assumes nothing.
use Rattle.std.proofs.Common.{◌≡◌, ℤ, ap, ◌∙◌}
use lib.Ieee.{Float, binary32}
use Rattle.vector.specs.Vector.{◌⊘◌}
use Rattle.certificate.specs.declared.GridVector.{GridVector}
use Rattle.certificate.proofs.Sizes.{back-32}
use Rattle.proposal.specs.Proposal.{grid_number, proposed}
use Rattle.proposal.proofs.propose.Goals as goal

same-vector : {x y z u v w : ℤ} → x ≡ u → y ≡ v → z ≡ w → ◌≡◌ {A = GridVector} record { x = x; y = y; z = z } record { x = u; y = v; z = w }
same-vector p q r = rw (p, q, r)

pub returns : goal.returns
unfolding proposed
returns c =
    let start = c in
    let first = c.grid_number in
    let second = c.grid_number-2 in
    let third = c.grid_number-3 in
    let scale = c.reach-scale.ensures in
    same-vector
    (back-32 first.result first.type_inv ∙ first.ensures ∙ ap (λ (s : Float). grid_number binary32 (◌⊘◌ binary32 start.args.dir.x s)) scale)
    (back-32 second.result second.type_inv ∙ second.ensures ∙ ap (λ (s : Float). grid_number binary32 (◌⊘◌ binary32 start.args.dir.y s)) scale)
    (back-32 third.result third.type_inv ∙ third.ensures ∙ ap (λ (s : Float). grid_number binary32 (◌⊘◌ binary32 start.args.dir.z s)) scale)
