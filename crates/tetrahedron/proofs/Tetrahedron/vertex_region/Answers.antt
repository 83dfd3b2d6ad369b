-- `vertex_region` returns the definition's where none of the four tests holds: test by test, since the check finds the whole only near its limits.
use mathlib.Core.Path.{◌≡◌, refl}
use mathlib.Core.Bool.{◌&&◌, false}
use lib.Ieee.{of_bits}
use Rattle.projection.specs.Signs.{at_least_zero, at_most_zero}
use Rattle.tetrahedron.specs.Tetrahedron.{vertex_region}
use Rattle.tetrahedron.proofs.Tetrahedron.vertex_region.Goals as goal
use Rattle.tetrahedron.proofs.Tetrahedron.vertex_region.Goals.{else-k-via-then-k+then-k-2+else-k-3, else-k-via-then-k+else-k-2, else-k-via-else-k, else-k-4-via-then-k-4+then-k-5+else-k-6, else-k-4-via-then-k-4+else-k-5, else-k-4-via-else-k-4, else-k-7-via-then-k-7+then-k-8+else-k-9, else-k-7-via-then-k-7+else-k-8, else-k-7-via-else-k-7, else-k-10-via-then-k-10+then-k-11+else-k-12, else-k-10-via-then-k-10+else-k-11, else-k-10-via-else-k-10}

pub returns : goal.returns
unfolding vertex_region of_bits
returns c =
    let k = c.args.k in
    let out_of_a : (at_most_zero k.ap_ab && at_most_zero k.ap_ac && at_most_zero k.ap_ad) ≡ false =
    elim c.else-k.branch [
      | else-k-via-then-k+then-k-2+else-k-3 w ↦ simp (w.if-k.true, w.if-k-2.true, w.if-k-3.false)
      | else-k-via-then-k+else-k-2 w ↦ simp (w.if-k.true, w.if-k-2.false)
      | else-k-via-else-k w ↦ simp w.if-k.false
    ] in
    let out_of_b : (at_most_zero k.bp_bc && at_most_zero k.bp_bd && at_least_zero k.bp_ab) ≡ false =
    elim c.else-k-4.branch [
      | else-k-4-via-then-k-4+then-k-5+else-k-6 w ↦ simp (w.if-k-4.true, w.if-k-5.true, w.if-k-6.false)
      | else-k-4-via-then-k-4+else-k-5 w ↦ simp (w.if-k-4.true, w.if-k-5.false)
      | else-k-4-via-else-k-4 w ↦ simp w.if-k-4.false
    ] in
    let out_of_c : (at_most_zero k.cp_cd && at_least_zero k.cp_bc && at_least_zero k.cp_ac) ≡ false =
    elim c.else-k-7.branch [
      | else-k-7-via-then-k-7+then-k-8+else-k-9 w ↦ simp (w.if-k-7.true, w.if-k-8.true, w.if-k-9.false)
      | else-k-7-via-then-k-7+else-k-8 w ↦ simp (w.if-k-7.true, w.if-k-8.false)
      | else-k-7-via-else-k-7 w ↦ simp w.if-k-7.false
    ] in
    let out_of_d : (at_least_zero k.dp_ad && at_least_zero k.dp_bd && at_least_zero k.dp_cd) ≡ false =
    elim c.else-k-10.branch [
      | else-k-10-via-then-k-10+then-k-11+else-k-12 w ↦ simp (w.if-k-10.true, w.if-k-11.true, w.if-k-12.false)
      | else-k-10-via-then-k-10+else-k-11 w ↦ simp (w.if-k-10.true, w.if-k-11.false)
      | else-k-10-via-else-k-10 w ↦ simp w.if-k-10.false
    ] in
    rw (out_of_a, out_of_b, out_of_c, out_of_d) refl
