-- What `weigh` returns: each test of the code is its region's, so each return is what the region gives. Assumes nothing.
use Rattle.std.proofs.Common.{◌≡◌, false, ◌&&◌, sym, ◌∙◌}
use lib.Ieee as Ieee
use lib.Ieee.{binary32, of_bits, lt, le}
use Rattle.vector.specs.declared.vec3.Vec3.{Vec3}
use Rattle.vector.specs.Vector.{zero_f, zero_v, ◌⊖◌}
use Rattle.projection.specs.declared.triangle.Triangle.{Triangle}
use Rattle.projection.specs.Signs.{at_least_zero, at_most_zero}
use Rattle.projection.specs.Triangle.{differences, dots}
use Rattle.epa_faces.proofs.Regions.{in_a, in_b, in_c, in_ab, in_ac, in_bc, OffCorners, in-a, in-b, in-c, in-ab, in-ac, in-bc, in-the-middle}
use Rattle.epa_faces.proofs.face.weigh.Goals as goal
use Rattle.epa_faces.proofs.face.weigh.Goals.{After-dot-ac_ap, After-dot-ac_bp, After-dot-ac_cp, After-dot-va, After-dot-vb, After-dot-vc, Else-ab_ap-ac_ap, Else-ab_bp-ac_bp, Else-ac_cp-ab_cp, Else-va-ac_bp, Else-vb-ac_ap, Else-vc-ab_ap}

abbrev triangle : Vec3 → Vec3 → Vec3 → Triangle
triangle a b c = record { a = a; b = b; c = c }

-- ---- the tests
test-a : (c : After-dot-ac_ap) → in_a binary32 (triangle c.args.a c.args.b c.args.c) ≡ (at_most_zero c.dot-ab_ap.result && at_most_zero c.dot-ac_ap.result)
unfolding dots differences zero_v of_bits
test-a c = simp (← c.requires.0, ← c.requires.1, ← c.sub-ap.ensures, ← c.dot-ab_ap.ensures, ← c.dot-ac_ap.ensures)

test-b : (c : After-dot-ac_bp) → in_b binary32 (triangle c.args.a c.args.b c.args.c) ≡ (at_least_zero c.dot-ab_bp.result && le c.dot-ac_bp.result c.dot-ab_bp.result)
unfolding dots differences zero_v of_bits
test-b c = simp (← c.requires.0, ← c.requires.1, ← c.sub-bp.ensures, ← c.dot-ab_bp.ensures, ← c.dot-ac_bp.ensures)

test-c : (c : After-dot-ac_cp) → in_c binary32 (triangle c.args.a c.args.b c.args.c) ≡ (at_least_zero c.dot-ac_cp.result && le c.dot-ab_cp.result c.dot-ac_cp.result)
unfolding dots differences zero_v of_bits
test-c c = simp (← c.requires.0, ← c.requires.1, ← c.sub-cp.ensures, ← c.dot-ab_cp.ensures, ← c.dot-ac_cp.ensures)

test-ab : (c : After-dot-vc)
    → in_ab binary32 (triangle c.args.a c.args.b c.args.c) ≡ (lt c.dot-vc.result zero_f && at_least_zero c.dot-ab_ap.result && at_most_zero c.dot-ab_bp.result)
unfolding dots differences zero_v of_bits
test-ab c =
    simp (
      ← c.requires.0,
      ← c.requires.1,
      ← c.requires.2,
      ← c.sub-ap.ensures,
      ← c.dot-ab_ap.ensures,
      ← c.sub-bp.ensures,
      ← c.dot-ab_bp.ensures,
      ← c.cross.ensures,
      ← c.dot-vc.ensures,
    )

test-ac : (c : After-dot-vb)
    → in_ac binary32 (triangle c.args.a c.args.b c.args.c) ≡ (lt (Ieee.neg c.dot-vb.result) zero_f && at_least_zero c.dot-ac_ap.result && at_most_zero c.dot-ac_cp.result)
unfolding dots differences zero_v of_bits
test-ac c =
    simp (
      ← c.requires.0,
      ← c.requires.1,
      ← c.requires.2,
      ← c.sub-ap.ensures,
      ← c.dot-ac_ap.ensures,
      ← c.sub-cp.ensures,
      ← c.dot-ac_cp.ensures,
      ← c.cross-2.ensures,
      ← c.dot-vb.ensures,
    )

test-bc : (c : After-dot-va)
    → in_bc binary32 (triangle c.args.a c.args.b c.args.c)
    ≡ (lt c.dot-va.result zero_f
    && at_least_zero (◌⊖◌ binary32 c.dot-ac_bp.result c.dot-ab_bp.result)
    && at_least_zero (◌⊖◌ binary32 c.dot-ab_cp.result c.dot-ac_cp.result))
unfolding dots differences zero_v of_bits
test-bc c =
    simp (
      ← c.requires.0,
      ← c.requires.1,
      ← c.requires.2,
      ← c.sub-bp.ensures,
      ← c.dot-ab_bp.ensures,
      ← c.dot-ac_bp.ensures,
      ← c.sub-cp.ensures,
      ← c.dot-ab_cp.ensures,
      ← c.dot-ac_cp.ensures,
      ← c.sub-bc.ensures,
      ← c.cross-3.ensures,
      ← c.dot-va.ensures,
    )

-- ---- where they fail
not_a : (c : Else-ab_ap-ac_ap) → in_a binary32 (triangle c.args.a c.args.b c.args.c) ≡ false
unfolding of_bits
not_a c = test-a c.before ∙ c.if-ab_ap-ac_ap.false

not-b : (c : Else-ab_bp-ac_bp) → in_b binary32 (triangle c.args.a c.args.b c.args.c) ≡ false
unfolding of_bits
not-b c = test-b c.before ∙ c.if-ab_bp-ac_bp.false

-- from a test to where the one before it failed
abbrev else-a : After-dot-ac_bp → Else-ab_ap-ac_ap
else-a c = c.before.before.before

abbrev else-b : After-dot-ac_cp → Else-ab_bp-ac_bp
else-b c = c.before.before.before

abbrev else-c : After-dot-vc → Else-ac_cp-ab_cp
else-c c = c.before.before

abbrev else-ab : After-dot-vb → Else-vc-ab_ap
else-ab c = c.before.before

abbrev else-ac : After-dot-va → Else-vb-ac_ap
else-ac c = c.before.before.before

off-corners : (c : Else-ac_cp-ab_cp) → OffCorners binary32 (triangle c.args.a c.args.b c.args.c)
unfolding of_bits
off-corners c =
    let b = else-b c.before in
    record { not_a = not_a (else-a b.before); not-b = not-b b; not-c = test-c c.before ∙ c.if-ac_cp-ab_cp.false }

not-ab : (c : Else-vc-ab_ap) → in_ab binary32 (triangle c.args.a c.args.b c.args.c) ≡ false
unfolding of_bits
not-ab c = test-ab c.before ∙ c.if-vc-ab_ap.false

not-ac : (c : Else-vb-ac_ap) → in_ac binary32 (triangle c.args.a c.args.b c.args.c) ≡ false
unfolding of_bits
not-ac c = test-ac c.before ∙ c.if-vb-ac_ap.false

not-bc : (c : Else-va-ac_bp) → in_bc binary32 (triangle c.args.a c.args.b c.args.c) ≡ false
unfolding of_bits
not-bc c = test-bc c.before ∙ c.if-va-ac_bp.false

-- ---- the regions
pub returns-then-ab_ap-ac_ap : goal.returns-then-ab_ap-ac_ap
unfolding of_bits
returns-then-ab_ap-ac_ap c =
    let test = (goal.at.returns-then-ab_ap-ac_ap c).After-dot-ac_ap in
    c.on_border.ensures ∙ sym (in-a binary32 (triangle c.args.a c.args.b c.args.c) (test-a test ∙ c.if-ab_ap-ac_ap.true))

pub returns-then-ab_bp-ac_bp : goal.returns-then-ab_bp-ac_bp
unfolding of_bits
returns-then-ab_bp-ac_bp c =
    let test = (goal.at.returns-then-ab_bp-ac_bp c).After-dot-ac_bp in
    c.on_border-then-ab_bp-ac_bp.ensures ∙ sym (in-b binary32 (triangle c.args.a c.args.b c.args.c) (not_a (else-a test)) (test-b test ∙ c.if-ab_bp-ac_bp.true))

pub returns-then-ac_cp-ab_cp : goal.returns-then-ac_cp-ab_cp
unfolding of_bits
returns-then-ac_cp-ab_cp c =
    let test = (goal.at.returns-then-ac_cp-ab_cp c).After-dot-ac_cp in
    let b = else-b test in
    c.on_border-then-ac_cp-ab_cp.ensures
    ∙ sym (in-c binary32 (triangle c.args.a c.args.b c.args.c) (not_a (else-a b.before)) (not-b b) (test-c test ∙ c.if-ac_cp-ab_cp.true))

pub returns-then-vc-ab_ap : goal.returns-then-vc-ab_ap
unfolding dots differences zero_v of_bits
returns-then-vc-ab_ap c =
    let test = (goal.at.returns-then-vc-ab_ap c).After-dot-vc in
    c.on_border-then-vc-ab_ap.ensures
    ∙ sym (
    simp (
      ← c.requires.0,
      ← c.sub-ap.ensures,
      ← c.dot-ab_ap.ensures,
      ← c.length_squared.ensures,
      ← c.mul.ensures,
      ← c.add.ensures,
    ) at (in-ab binary32 (triangle c.args.a c.args.b c.args.c) (off-corners (else-c test)) (test-ab test ∙ c.if-vc-ab_ap.true))
    )

pub returns-then-vb-ac_ap : goal.returns-then-vb-ac_ap
unfolding dots differences zero_v of_bits
returns-then-vb-ac_ap c =
    let test = (goal.at.returns-then-vb-ac_ap c).After-dot-vb in
    let ab = else-ab test in
    c.on_border-then-vb-ac_ap.ensures
    ∙ sym (
    simp (
      ← c.requires.1,
      ← c.sub-ap.ensures,
      ← c.dot-ac_ap.ensures,
      ← c.length_squared-then-vb-ac_ap.ensures,
      ← c.mul-then-vb-ac_ap.ensures,
      ← c.add-then-vb-ac_ap.ensures,
    ) at (in-ac binary32 (triangle c.args.a c.args.b c.args.c) (off-corners (else-c ab.before)) (not-ab ab) (test-ac test ∙ c.if-vb-ac_ap.true))
    )

pub returns-then-va-ac_bp : goal.returns-then-va-ac_bp
unfolding dots differences zero_v of_bits
returns-then-va-ac_bp c =
    let test = (goal.at.returns-then-va-ac_bp c).After-dot-va in
    let ac = else-ac test in
    let ab = else-ab ac.before in
    c.on_border-then-va-ac_bp.ensures
    ∙ sym (
    simp (
      ← c.sub-bp.ensures,
      ← c.sub-bc.ensures,
      ← c.dot.ensures,
      ← c.length_squared-then-va-ac_bp.ensures,
      ← c.mul-then-va-ac_bp.ensures,
      ← c.add-then-va-ac_bp.ensures,
    ) at (in-bc binary32 (triangle c.args.a c.args.b c.args.c) (off-corners (else-c ab.before)) (not-ab ab) (not-ac ac) (test-bc test ∙ c.if-va-ac_bp.true))
    )

pub returns : goal.returns
unfolding dots differences zero_v of_bits
returns c =
    let bc = (goal.at.returns c).Else-va-ac_bp in
    let ac = else-ac bc.before in
    let ab = else-ab ac.before in
    c.on_face.ensures _ _ _ _ _
    ∙ sym (
    simp (
      ← c.requires.0,
      ← c.requires.1,
      ← c.requires.2,
      ← c.sub-ap.ensures,
      ← c.sub-bp.ensures,
      ← c.sub-cp.ensures,
      ← c.cross.ensures,
      ← c.dot-vc.ensures,
      ← c.cross-2.ensures,
      ← c.dot-vb.ensures,
      ← c.sub-bc.ensures,
      ← c.cross-3.ensures,
      ← c.dot-va.ensures,
    ) at (in-the-middle binary32 (triangle c.args.a c.args.b c.args.c) (off-corners (else-c ab.before)) (not-ab ab) (not-ac ac) (not-bc bc))
    )
