-- The projection of a point on a tetrahedron, taken as solid, of any format f: src/query/point/point_tetrahedron.rs, with the tests in its order, the first that holds answers,
-- one rounding each. Definitions only.
use Rattle.std.specs.Prelude.{ℕ, cond, ◌&&◌, Float, Option, Some, None, Result, Ok, Err}
use Rattle.std.specs.Float.{Format}
use Rattle.std.specs.Float.Ieee.{lt, le, ne, eq}
use Rattle.vector.specs.declared.vec3.Vec3.{Vec3}
use Rattle.vector.specs.Vector.{zero_f, one_f, zero_v, neg_v, add_v, sub_v, scale_v, dot_v, cross_v, try_normalize_v, ◌⊕◌, ◌⊖◌, ◌⊗◌, ◌⊘◌}
use Rattle.projection.specs.Signs.{at_least_zero, at_most_zero}
use Rattle.projection.specs.Values.{Values}
use Rattle.tetrahedron.specs.declared.Tetrahedron.{Tetrahedron}
use Rattle.tetrahedron.specs.declared.TetrahedronPointLocation.{TetrahedronPointLocation}
use Rattle.tetrahedron.specs.declared.TetrahedronPointLocation.TheVariants.{OnVertex, OnEdge, OnFace, OnSolid}
use Rattle.projection.specs.declared.point_query.Projection.{Projection}
use Rattle.refusal.specs.declared.WouldPanic.{WouldPanic}
use Rattle.refusal.specs.Refusal.{would_panic, number_or_panic}
use Rattle.tetrahedron.specs.declared.locals.Differences.{Differences}
use Rattle.tetrahedron.specs.declared.locals.Dots.{Dots}
use Rattle.tetrahedron.specs.declared.locals.Normals.{Normals}
use Rattle.tetrahedron.specs.declared.locals.EdgeCheck.{EdgeCheck}
use Rattle.tetrahedron.specs.declared.locals.Edges.{Edges}
use Rattle.tetrahedron.specs.declared.locals.Sides.{Sides}

-- a point of a tetrahedron, and where on it the point lies
abbrev pub TetrahedronProjection : Type 0
TetrahedronProjection = Projection TetrahedronPointLocation

-- `if let Some(res) = res { return res; }`, and what follows
infixl 50 ◌or_else◌
abbrev pub ◌or_else◌ : {P : Type 0} → Option P → Option P → Option P
Some found or_else other = Some found
None or_else other = other

-- the same of a search that may be refused, which ends it too
infixl 50 ◌or_next◌
abbrev pub ◌or_next◌ : {P : Type 0} → Result (Option P) WouldPanic → Result (Option P) WouldPanic → Result (Option P) WouldPanic
Ok (Some found) or_next other = Ok (Some found)
Ok None or_next other = other
Err e or_next other = Err e

-- ---- the Voronoi regions of the corners
unfoldable pub on_vertex : ℕ → Vec3 → TetrahedronProjection
on_vertex i corner = record { point = corner; location = OnVertex i }

unfoldable pub vertex_region : Tetrahedron → Dots → Option TetrahedronProjection
vertex_region t k =
    cond (at_most_zero k.ap_ab && at_most_zero k.ap_ac && at_most_zero k.ap_ad) (Some (on_vertex 0 t.a))
    (cond (at_most_zero k.bp_bc && at_most_zero k.bp_bd && at_least_zero k.bp_ab) (Some (on_vertex 1 t.b))
    (cond (at_most_zero k.cp_cd && at_least_zero k.cp_bc && at_least_zero k.cp_ac) (Some (on_vertex 2 t.c))
    (cond (at_least_zero k.dp_ad && at_least_zero k.dp_bd && at_least_zero k.dp_cd) (Some (on_vertex 3 t.d)) None)))

-- ---- what the six calls of `check_edge` give: the first that finds something, and the numbers, under the Rust's names
unfoldable pub first_edge : Edges → Option TetrahedronProjection
first_edge e = e.ab.res or_else e.ac.res or_else e.ad.res or_else e.bc.res or_else e.bd.res or_else e.cd.res

unfoldable pub sides : Edges → Sides
sides e =
    record {
      dabc = e.ab.dabc;
      dabd = e.ab.dabd;
      dacd = e.ac.dabc;
      dacb = e.ac.dabd;
      dadb = e.ad.dabc;
      dadc = e.ad.dabd;
      dbca = e.bc.dabc;
      dbcd = e.bc.dabd;
      dbdc = e.bd.dabc;
      dbda = e.bd.dabd;
      dcda = e.cd.dabc;
      dcdb = e.cd.dabd;
    }

-- what a search finds with this projection
abbrev pub found : Result TetrahedronProjection WouldPanic → Result (Option TetrahedronProjection) WouldPanic
found (Ok p) = Ok (Some p)
found (Err e) = Err e

-- what was found, or else solid: the point itself
unfoldable pub or_solid : Result (Option TetrahedronProjection) WouldPanic → Vec3 → Result TetrahedronProjection WouldPanic
or_solid (Ok (Some found)) pt = Ok found
or_solid (Ok None) pt = Ok (record { point = pt; location = OnSolid })
or_solid (Err e) pt = Err e

module _ (f : Format) where
  -- ---- the Rust's locals
  unfoldable pub differences : Tetrahedron → Vec3 → Differences
  differences t pt =
      record {
        ab = sub_v f t.b t.a;
        ac = sub_v f t.c t.a;
        ad = sub_v f t.d t.a;
        ap = sub_v f pt t.a;
        bc = sub_v f t.c t.b;
        bd = sub_v f t.d t.b;
        bp = sub_v f pt t.b;
        cd = sub_v f t.d t.c;
        cp = sub_v f pt t.c;
        dp = sub_v f pt t.d;
      }

  unfoldable pub dots : Differences → Dots
  dots v =
      record {
        ap_ab = dot_v f v.ap v.ab;
        ap_ac = dot_v f v.ap v.ac;
        ap_ad = dot_v f v.ap v.ad;
        bp_bc = dot_v f v.bp v.bc;
        bp_bd = dot_v f v.bp v.bd;
        bp_ab = dot_v f v.bp v.ab;
        cp_ac = dot_v f v.cp v.ac;
        cp_bc = dot_v f v.cp v.bc;
        cp_cd = dot_v f v.cp v.cd;
        dp_cd = dot_v f v.dp v.cd;
        dp_bd = dot_v f v.dp v.bd;
        dp_ad = dot_v f v.dp v.ad;
      }

  unfoldable pub normals : Differences → Normals
  normals v =
      record {
        abc = cross_v f v.ab v.ac;
        abd = cross_v f v.ab v.ad;
        acd = cross_v f v.ac v.ad;
        bcd = cross_v f v.bc v.bd;
      }

  -- ---- `check_edge`
  unfoldable pub on_edge : ℕ → Vec3 → Vec3 → Float → TetrahedronProjection
  on_edge i a ab u = record { point = add_v f a (scale_v f ab u); location = OnEdge i (◌⊖◌ f one_f u) u }

  -- the Rust's third parameter, the edge's other end, is read by nothing and left out
  unfoldable pub check_edge : ℕ → Vec3 → Vec3 → Vec3 → Vec3 → Vec3 → Float → Float → EdgeCheck
  check_edge i a nabc nabd ap ab ap_ab bp_ab =
      let ab_ab = ◌⊖◌ f ap_ab bp_ab in
      let ap_x_ab = cross_v f ap ab in
      let dabc = dot_v f ap_x_ab nabc in
      let dabd = dot_v f ap_x_ab nabd in
      cond (ne ab_ab zero_f && at_least_zero dabc && at_least_zero dabd && at_least_zero ap_ab && le ap_ab ab_ab)
      (record { dabc = dabc; dabd = dabd; res = Some (on_edge i a ab (◌⊘◌ f ap_ab ab_ab)) })
      (record { dabc = dabc; dabd = dabd; res = None })

  -- its six calls
  unfoldable pub check_edges : Tetrahedron → Differences → Dots → Edges
  check_edges t v k =
      let n = normals v in
      record {
        ab = check_edge 0 t.a n.abc n.abd v.ap v.ab k.ap_ab k.bp_ab;
        ac = check_edge 1 t.a n.acd (neg_v n.abc) v.ap v.ac k.ap_ac k.cp_ac;
        ad = check_edge 2 t.a (neg_v n.abd) (neg_v n.acd) v.ap v.ad k.ap_ad k.dp_ad;
        bc = check_edge 3 t.b n.abc n.bcd v.bp v.bc k.bp_bc k.cp_bc;
        bd = check_edge 4 t.b (neg_v n.bcd) n.abd v.bp v.bd k.bp_bd k.dp_bd;
        cd = check_edge 5 t.c n.acd n.bcd v.cp v.cd k.cp_cd k.dp_cd;
      }

  -- ---- `check_face`
  -- from `let denom` on; `assert!(denom != 0.0)` is the refusal
  unfoldable pub on_face : ℕ → Vec3 → Vec3 → Vec3 → Float → Float → Float → Result TetrahedronProjection WouldPanic
  on_face i a b c va vb vc =
      let denom = ◌⊕◌ f (◌⊕◌ f va vb) vc in
      let inv_denom = ◌⊘◌ f one_f denom in
      let b0 = ◌⊗◌ f va inv_denom in
      let b1 = ◌⊗◌ f vb inv_denom in
      let b2 = ◌⊗◌ f vc inv_denom in
      cond (eq denom zero_f) (Err would_panic)
      (Ok (record { point = add_v f (add_v f (scale_v f a b0) (scale_v f b b1)) (scale_v f c b2); location = OnFace i b0 b1 b2 }))

  -- past `n.try_normalize()?`
  unfoldable pub by_normal : ℕ → Vec3 → Vec3 → Vec3 → Vec3 → Vec3 → Vec3 → Option Vec3 → Result (Option TetrahedronProjection) WouldPanic
  by_normal i a b c ap bp cp (Some normal) =
      let vc = dot_v f normal (cross_v f ap bp) in
      let va = dot_v f normal (cross_v f bp cp) in
      let vb = dot_v f normal (cross_v f cp ap) in
      found (on_face i a b c va vb vc)
  by_normal i a b c ap bp cp None = Ok None

  unfoldable pub check_face : ℕ → Vec3 → Vec3 → Vec3 → Vec3 → Vec3 → Vec3 → Vec3 → Vec3 → Vec3 → Float → Float → Float → Result (Option TetrahedronProjection) WouldPanic
  check_face i a b c ap bp cp ab ac ad dabc dbca dacb =
      let n = cross_v f ab ac in
      cond (lt dabc zero_f && lt dbca zero_f && lt dacb zero_f)
      (cond (lt (◌⊗◌ f (dot_v f n ad) (dot_v f n ap)) zero_f) (by_normal i a b c ap bp cp (try_normalize_v f n)) (Ok None)) (Ok None)

  -- its four calls
  unfoldable pub face_abc : Tetrahedron → Differences → Sides → Result (Option TetrahedronProjection) WouldPanic
  face_abc t v s = check_face 0 t.a t.b t.c v.ap v.bp v.cp v.ab v.ac v.ad s.dabc s.dbca s.dacb

  unfoldable pub face_abd : Tetrahedron → Differences → Sides → Result (Option TetrahedronProjection) WouldPanic
  face_abd t v s = check_face 1 t.a t.b t.d v.ap v.bp v.dp v.ab v.ad v.ac s.dadb s.dabd s.dbda

  unfoldable pub face_acd : Tetrahedron → Differences → Sides → Result (Option TetrahedronProjection) WouldPanic
  face_acd t v s = check_face 2 t.a t.c t.d v.ap v.cp v.dp v.ac v.ad v.ab s.dacd s.dcda s.dadc

  unfoldable pub face_bcd : Tetrahedron → Differences → Sides → Result (Option TetrahedronProjection) WouldPanic
  face_bcd t v s = check_face 3 t.b t.c t.d v.bp v.cp v.dp v.bc v.bd (neg_v v.ab) s.dbcd s.dcdb s.dbdc

  unfoldable pub check_faces : Tetrahedron → Differences → Sides → Result (Option TetrahedronProjection) WouldPanic
  check_faces t v s = face_abc t v s or_next face_abd t v s or_next face_acd t v s or_next face_bcd t v s

  -- ---- `project_local_point_and_get_location`
  unfoldable pub project_tetrahedron : Tetrahedron → Vec3 → Result TetrahedronProjection WouldPanic
  project_tetrahedron t pt =
      let v = differences t pt in
      let k = dots v in
      let e = check_edges t v k in
      or_solid (Ok (vertex_region t k or_else first_edge e) or_next check_faces t v (sides e)) pt

-- ---- document 01's number of a projection, 0 or refusal 2, and its values: point and location, and zeros for the refusal, the corner 0 being the location of zeros
unfoldable pub tetrahedron_number : Result TetrahedronProjection WouldPanic → ℕ
tetrahedron_number r = number_or_panic r

unfoldable pub tetrahedron_values : Result TetrahedronProjection WouldPanic → Values TetrahedronPointLocation
tetrahedron_values (Ok p) = record { point = p.point; location = p.location }
tetrahedron_values (Err e) = record { point = zero_v; location = OnVertex 0 }
