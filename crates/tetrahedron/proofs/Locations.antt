-- The projection gives only locations that there are: corners, edges and faces by numbers that a tetrahedron has (`tetrahedron-fits`), in any format. Shown at each way out,
-- where the numbers are literals. Assumes nothing.
use mathlib.Core.Bool.{◌&&◌}
use Prim.Native.Nat.{ℕ, ◌≤◌}
use Rattle.std.proofs.Common.{Option, Some, None, Result, Ok, Err}
use native.Mathlib.Omega.{arith}
use lib.Ieee.{Float, Format, lt, le, eq, ne}
use Rattle.vector.specs.declared.vec3.Vec3.{Vec3}
use Rattle.vector.specs.Vector.{zero_f, dot_v, cross_v, try_normalize_v, ◌⊕◌, ◌⊖◌, ◌⊗◌}
use Rattle.projection.proofs.Choice.{either}
use Rattle.tetrahedron.specs.declared.Tetrahedron.{Tetrahedron}
use Rattle.tetrahedron.specs.declared.TetrahedronPointLocation.{TetrahedronPointLocation}
use Rattle.tetrahedron.specs.declared.TetrahedronPointLocation.TheVariants as Location
use Rattle.tetrahedron.specs.declared.locals.Differences.{Differences}
use Rattle.tetrahedron.specs.declared.locals.Dots.{Dots}
use Rattle.tetrahedron.specs.declared.locals.EdgeCheck.{EdgeCheck}
use Rattle.tetrahedron.specs.declared.locals.Sides.{Sides}
use Rattle.tetrahedron.specs.Tetrahedron as Tet
use Rattle.tetrahedron.specs.Tetrahedron.{TetrahedronProjection}
use Rattle.refusal.specs.declared.WouldPanic.{WouldPanic}
use Rattle.refusal.specs.Refusal.{would_panic}

-- the locations that there are, by their numbers
pub data TetrahedronHas : TetrahedronPointLocation → Type 0 where
  vertex : (i : ℕ) → i ≤ 3 → TetrahedronHas (Location.OnVertex i)
  edge : (i : ℕ) (u v : Float) → i ≤ 5 → TetrahedronHas (Location.OnEdge i u v)
  face : (i : ℕ) (u v w : Float) → i ≤ 3 → TetrahedronHas (Location.OnFace i u v w)
  solid : TetrahedronHas Location.OnSolid

pub data TetrahedronFits : Result TetrahedronProjection WouldPanic → Type 0 where
  at : (p : TetrahedronProjection) → TetrahedronHas p.location → TetrahedronFits (Ok p)
  refused : (e : WouldPanic) → TetrahedronFits (Err e)

-- what corners and edges give
data Found : Option TetrahedronProjection → Type 0 where
  some : (p : TetrahedronProjection) → TetrahedronHas p.location → Found (Some p)
  none : Found None

-- and the faces, which may be refused
data TetFits : Result (Option TetrahedronProjection) WouldPanic → Type 0 where
  found : (m : Option TetrahedronProjection) → Found m → TetFits (Ok m)
  refused : (e : WouldPanic) → TetFits (Err e)

found-else : (m n : Option TetrahedronProjection) → Found m → Found n → Found (Tet.◌or_else◌ m n)
found-else _ n (Found.some p h) k = Found.some p h
found-else _ n Found.none k = k

tet-next : (m n : Result (Option TetrahedronProjection) WouldPanic) → TetFits m → TetFits n → TetFits (Tet.◌or_next◌ m n)
tet-next _ n (TetFits.found _ (Found.some p h)) k = TetFits.found _ (Found.some p h)
tet-next _ n (TetFits.found _ Found.none) k = k
tet-next _ n (TetFits.refused e) k = TetFits.refused e

tet-region : (t : Tetrahedron) (k : Dots) → Found (Tet.vertex_region t k)
unfolding Tet.vertex_region Tet.on_vertex
tet-region t k =
    either Found (le k.ap_ab zero_f && le k.ap_ac zero_f && le k.ap_ad zero_f) _ _ (corner 0 t.a (omega arith))
    (either Found (le k.bp_bc zero_f && le k.bp_bd zero_f && le zero_f k.bp_ab) _ _ (corner 1 t.b (omega arith))
    (either Found (le k.cp_cd zero_f && le zero_f k.cp_bc && le zero_f k.cp_ac) _ _ (corner 2 t.c (omega arith))
    (either Found (le zero_f k.dp_ad && le zero_f k.dp_bd && le zero_f k.dp_cd) _ _ (corner 3 t.d (omega arith)) Found.none)))
  where
    corner : (i : ℕ) (p : Vec3) → i ≤ 3 → Found (Some (Tet.on_vertex i p))
    corner i p h = Found.some _ (TetrahedronHas.vertex i h)

module _ (f : Format) where
  tet-edge : (i : ℕ) (a nabc nabd ap ab : Vec3) (x y : Float) → i ≤ 5 → Found (Tet.check_edge f i a nabc nabd ap ab x y).res
  unfolding Tet.check_edge Tet.on_edge
  tet-edge i a nabc nabd ap ab x y h =
      let n = ◌⊖◌ f x y in
      let d1 = dot_v f (cross_v f ap ab) nabc in
      let d2 = dot_v f (cross_v f ap ab) nabd in
      either (λ (c : EdgeCheck). Found c.res) (ne n zero_f && le zero_f d1 && le zero_f d2 && le zero_f x && le x n) _ (record { dabc = d1; dabd = d2; res = None })
      (Found.some _ (TetrahedronHas.edge i _ _ h)) Found.none

  tet-edges : (t : Tetrahedron) (v : Differences) (k : Dots) → Found (Tet.first_edge (Tet.check_edges f t v k))
  unfolding Tet.first_edge Tet.check_edges
  tet-edges t v k =
      found-else _ _
      (found-else _ _
      (found-else _ _
      (found-else _ _
      (found-else _ _ (tet-edge 0 _ _ _ _ _ _ _ (omega arith)) (tet-edge 1 _ _ _ _ _ _ _ (omega arith)))
      (tet-edge 2 _ _ _ _ _ _ _ (omega arith)))
      (tet-edge 3 _ _ _ _ _ _ _ (omega arith)))
      (tet-edge 4 _ _ _ _ _ _ _ (omega arith)))
      (tet-edge 5 _ _ _ _ _ _ _ (omega arith))

  tet-on_face : (i : ℕ) (a b c : Vec3) (va vb vc : Float) → i ≤ 3 → TetrahedronFits (Tet.on_face f i a b c va vb vc)
  unfolding Tet.on_face
  tet-on_face i a b c va vb vc h =
      either TetrahedronFits (eq (◌⊕◌ f (◌⊕◌ f va vb) vc) zero_f) _ _ (TetrahedronFits.refused would_panic) (TetrahedronFits.at _ (TetrahedronHas.face i _ _ _ h))

  tet-found : (r : Result TetrahedronProjection WouldPanic) → TetrahedronFits r → TetFits (Tet.found r)
  tet-found _ (TetrahedronFits.at p h) = TetFits.found _ (Found.some p h)
  tet-found _ (TetrahedronFits.refused e) = TetFits.refused e

  tet-normal : (i : ℕ) (a b c ap bp cp : Vec3) (m : Option Vec3) → i ≤ 3 → TetFits (Tet.by_normal f i a b c ap bp cp m)
  unfolding Tet.by_normal
  tet-normal i a b c ap bp cp (Some n) h = tet-found _ (tet-on_face i a b c _ _ _ h)
  tet-normal i a b c ap bp cp None h = TetFits.found _ Found.none

  tet-face : (i : ℕ) (a b c ap bp cp ab ac ad : Vec3) (x y z : Float) → i ≤ 3 → TetFits (Tet.check_face f i a b c ap bp cp ab ac ad x y z)
  unfolding Tet.check_face
  tet-face i a b c ap bp cp ab ac ad x y z h =
      let n = cross_v f ab ac in
      either TetFits (lt x zero_f && lt y zero_f && lt z zero_f) _ _
      (either TetFits (lt (◌⊗◌ f (dot_v f n ad) (dot_v f n ap)) zero_f) _ _ (tet-normal i a b c ap bp cp (try_normalize_v f n) h) (TetFits.found _ Found.none))
      (TetFits.found _ Found.none)

  tet-faces : (t : Tetrahedron) (v : Differences) (s : Sides) → TetFits (Tet.check_faces f t v s)
  unfolding Tet.check_faces Tet.face_abc Tet.face_abd Tet.face_acd Tet.face_bcd
  tet-faces t v s =
      tet-next _ _
      (tet-next _ _
      (tet-next _ _ (tet-face 0 _ _ _ _ _ _ _ _ _ _ _ _ (omega arith)) (tet-face 1 _ _ _ _ _ _ _ _ _ _ _ _ (omega arith)))
      (tet-face 2 _ _ _ _ _ _ _ _ _ _ _ _ (omega arith)))
      (tet-face 3 _ _ _ _ _ _ _ _ _ _ _ _ (omega arith))

tet-solid : (m : Result (Option TetrahedronProjection) WouldPanic) (pt : Vec3) → TetFits m → TetrahedronFits (Tet.or_solid m pt)
unfolding Tet.or_solid
tet-solid _ pt (TetFits.found _ (Found.some p h)) = TetrahedronFits.at p h
tet-solid _ pt (TetFits.found _ Found.none) = TetrahedronFits.at _ TetrahedronHas.solid
tet-solid _ pt (TetFits.refused e) = TetrahedronFits.refused e

pub tetrahedron-fits : (f : Format) (t : Tetrahedron) (pt : Vec3) → TetrahedronFits (Tet.project_tetrahedron f t pt)
unfolding Tet.project_tetrahedron
tetrahedron-fits f t pt =
    let v = Tet.differences f t pt in
    let k = Tet.dots f v in
    let e = Tet.check_edges f t v k in
    let first = found-else _ _ (tet-region t k) (tet-edges f t v k) in
    tet-solid _ pt (tet-next _ _ (TetFits.found _ first) (tet-faces f t v (Tet.sides e)))
