-- `check_edges` returns the definition's at the third test and past it: there the check finds it only near its limits, or not.
use mathlib.Core.Path.{◌≡◌, refl}
use mathlib.Core.Bool.{◌&&◌, false}
use lib.Ieee.{of_bits, binary32, lt, neg, sub}
use Rattle.vector.specs.Vector.{zero_f}
use Rattle.projection.specs.Signs.{at_least_zero, at_most_zero}
use Rattle.projection.specs.Triangle.{check_edges}
use Rattle.projection.proofs.triangle.Differences.check_edges.Goals as goal
use Rattle.projection.proofs.triangle.Differences.check_edges.Goals.{else-vc-via-then-vc+then-k+else-k-2, else-vc-via-then-vc+else-k, else-vc-via-else-vc, else-vb-via-then-vb+then-k-3+else-k-4, else-vb-via-then-vb+else-k-3, else-vb-via-else-vb, else-va-via-then-va+then-k-5+else-k-6, else-va-via-then-va+else-k-5, else-va-via-else-va}

pub returns-then-k-6 : goal.returns-then-k-6
unfolding check_edges of_bits
returns-then-k-6 c =
    let k = c.args.k in
    let past_ab : (lt c.dot-vc.result zero_f && at_least_zero k.ab_ap && at_most_zero k.ab_bp) ≡ false =
    elim c.else-vc.branch [
      | else-vc-via-then-vc+then-k+else-k-2 w ↦ simp (w.if-vc.true, w.if-k.true, w.if-k-2.false)
      | else-vc-via-then-vc+else-k w ↦ simp (w.if-vc.true, w.if-k.false)
      | else-vc-via-else-vc w ↦ simp w.if-vc.false
    ] in
    let past_ac : (lt (neg c.dot-vb.result) zero_f && at_least_zero k.ac_ap && at_most_zero k.ac_cp) ≡ false =
    elim c.else-vb.branch [
      | else-vb-via-then-vb+then-k-3+else-k-4 w ↦ simp (w.if-vb.true, w.if-k-3.true, w.if-k-4.false)
      | else-vb-via-then-vb+else-k-3 w ↦ simp (w.if-vb.true, w.if-k-3.false)
      | else-vb-via-else-vb w ↦ simp w.if-vb.false
    ] in
    simp (← c.cross-n.ensures, ← c.cross.ensures, ← c.dot-vc.ensures, ← c.cross-2.ensures, ← c.dot-vb.ensures, ← c.cross-3.ensures, ← c.dot-va.ensures, past_ab, past_ac, c.if-va.true, c.if-k-5.true, c.if-k-6.true)

pub returns : goal.returns
unfolding check_edges of_bits
returns c =
    let k = c.args.k in
    let past_ab : (lt c.dot-vc.result zero_f && at_least_zero k.ab_ap && at_most_zero k.ab_bp) ≡ false =
    elim c.else-vc.branch [
      | else-vc-via-then-vc+then-k+else-k-2 w ↦ simp (w.if-vc.true, w.if-k.true, w.if-k-2.false)
      | else-vc-via-then-vc+else-k w ↦ simp (w.if-vc.true, w.if-k.false)
      | else-vc-via-else-vc w ↦ simp w.if-vc.false
    ] in
    let past_ac : (lt (neg c.dot-vb.result) zero_f && at_least_zero k.ac_ap && at_most_zero k.ac_cp) ≡ false =
    elim c.else-vb.branch [
      | else-vb-via-then-vb+then-k-3+else-k-4 w ↦ simp (w.if-vb.true, w.if-k-3.true, w.if-k-4.false)
      | else-vb-via-then-vb+else-k-3 w ↦ simp (w.if-vb.true, w.if-k-3.false)
      | else-vb-via-else-vb w ↦ simp w.if-vb.false
    ] in
    let past_bc : (lt c.dot-va.result zero_f && at_least_zero (sub binary32 k.ac_bp k.ab_bp) && at_least_zero (sub binary32 k.ab_cp k.ac_cp)) ≡ false =
    elim c.else-va.branch [
      | else-va-via-then-va+then-k-5+else-k-6 w ↦ simp (w.if-va.true, w.if-k-5.true, w.if-k-6.false)
      | else-va-via-then-va+else-k-5 w ↦ simp (w.if-va.true, w.if-k-5.false)
      | else-va-via-else-va w ↦ simp w.if-va.false
    ] in
    simp (← c.cross-n.ensures, ← c.cross.ensures, ← c.dot-vc.ensures, ← c.cross-2.ensures, ← c.dot-vb.ensures, ← c.cross-3.ensures, ← c.dot-va.ensures, ← c.dot.ensures, ← c.face_side.ensures, past_ab, past_ac, past_bc)
