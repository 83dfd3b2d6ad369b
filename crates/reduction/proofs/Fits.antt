-- The location where the origin projects on a simplex is one that the simplex has (`location-fits`). So a location that `project_origin` gave for a simplex is always taken by
-- `apply_location` (`found-is-taken`), the two in turn are `project_origin_and_reduce` (`both-in-turn`), and this is refused only where the projection is (`reduced-projection`).
-- Of any format. Assumes nothing.
use mathlib.Core.Path.{◌≡◌, refl, sym, ap, subst}
use mathlib.Core.Bool.{Bool, true, false, cond}
use Prim.Native.Nat.{ℕ, zero, suc, ◌≤◌, ◌<◌}
use native.Mathlib.Omega.{arith}
use lib.Dec.{eqb}
use lib.Ieee.{Format}
use Rattle.std.proofs.Common.{Result, Ok, Err}
use Rattle.refusal.specs.declared.WouldPanic.{WouldPanic}
use Rattle.refusal.specs.Refusal.{would_panic}
use borrow.Author.Tests.{lt-ltb, le-leb}
use Rattle.vector.specs.declared.vec3.Vec3.{Vec3}
use Rattle.vector.specs.Vector.{zero_v}
use Rattle.projection.specs.declared.segment.SegmentPointLocation.{SegmentPointLocation}
use Rattle.projection.specs.declared.triangle.TrianglePointLocation.{TrianglePointLocation}
use Rattle.tetrahedron.specs.declared.TetrahedronPointLocation.{TetrahedronPointLocation}
use Rattle.projection.specs.Segment.{SegmentProjection}
use Rattle.tetrahedron.specs.Tetrahedron.{TetrahedronProjection}
use Rattle.projection.proofs.Locations.{SegmentHas, TriangleHas, SegmentFits, segment-fits, triangle-fits}
use Rattle.tetrahedron.proofs.Locations.{TetrahedronHas, TetrahedronFits, tetrahedron-fits}
use Rattle.simplex.specs.declared.voronoi_simplex.VoronoiSimplex.{VoronoiSimplex}
use Rattle.simplex.specs.Simplex.{is_simplex}
use Rattle.simplex.proofs.Laws.{small}
use Rattle.reduction.specs.declared.applying.Applied.{Applied}
use Rattle.reduction.specs.Reduction.{Projected, segment_location, triangle_location, tetrahedron_location, segment_projected, tetrahedron_projected}
use Rattle.reduction.specs.Reduction.{locate_segment, locate_triangle, locate_tetrahedron, find_location, project_origin}
use Rattle.reduction.specs.Reduction.{has_location, taken_with, reduce_to, apply_location, Reduced, reduced_at, project_origin_and_reduce, in_turn}

-- ---- what is found is a location that the simplex has

-- a projection's location is one that a simplex of dimension d has
abbrev pub Fits : ℕ → Result Projected WouldPanic → Type 0
Fits d (Ok p) = has_location d p.location ≡ true
Fits d (Err e) = Unit {0}

segment-has : (l : SegmentPointLocation) → SegmentHas l → has_location 1 (segment_location l) ≡ true
unfolding has_location segment_location
segment-has _ (SegmentHas.vertex i h) = le-leb i 1 h
segment-has _ (SegmentHas.edge u v) = refl

triangle-has : (l : TrianglePointLocation) → TriangleHas l → has_location 2 (triangle_location l) ≡ true
unfolding has_location triangle_location
triangle-has _ (TriangleHas.vertex i h) = le-leb i 2 h
triangle-has _ (TriangleHas.edge i u v h) = let l : i < 3 = omega arith in rw (lt-ltb i 3 l)
triangle-has _ (TriangleHas.face i u v w h) = refl
triangle-has _ TriangleHas.solid = refl

tetrahedron-has : (l : TetrahedronPointLocation) → TetrahedronHas l → has_location 3 (tetrahedron_location l) ≡ true
unfolding has_location tetrahedron_location
tetrahedron-has _ (TetrahedronHas.vertex i h) = le-leb i 3 h
tetrahedron-has _ (TetrahedronHas.edge i u v h) = let l : i < 6 = omega arith in rw (lt-ltb i 6 l)
tetrahedron-has _ (TetrahedronHas.face i u v w h) = let l : i < 4 = omega arith in rw (lt-ltb i 4 l)
tetrahedron-has _ TetrahedronHas.solid = refl

segment-found : (x : Result SegmentProjection WouldPanic) → SegmentFits x → Fits 1 (segment_projected x)
segment-found _ (SegmentFits.at p h) = segment-has p.location h
segment-found _ SegmentFits.refused = tt

tetrahedron-found : (x : Result TetrahedronProjection WouldPanic) → TetrahedronFits x → Fits 3 (tetrahedron_projected x)
tetrahedron-found _ (TetrahedronFits.at p h) = tetrahedron-has p.location h
tetrahedron-found _ (TetrahedronFits.refused e) = tt

module _ (f : Format) (a b : Vec3) where
  on-segment : Fits 1 (locate_segment f a b)
  unfolding locate_segment
  on-segment = segment-found _ (segment-fits f _ zero_v)

  on-triangle : (c : Vec3) → Fits 2 (Ok (locate_triangle f a b c))
  unfolding locate_triangle
  on-triangle c = triangle-has _ (triangle-fits f _ zero_v)

  on-tetrahedron : (c d : Vec3) → Fits 3 (locate_tetrahedron f a b c d)
  unfolding locate_tetrahedron
  on-tetrahedron c d = tetrahedron-found _ (tetrahedron-fits f _ zero_v)

-- by the dimension d
by-dimension : (d : ℕ) (a b c e : Result Projected WouldPanic) → d ≤ 3 → Fits 0 a → Fits 1 b → Fits 2 c → Fits 3 e
    → Fits d (cond (eqb d 0) a (cond (eqb d 1) b (cond (eqb d 2) c e)))
by-dimension zero a b c e l ha hb hc he = ha
by-dimension (suc zero) a b c e l ha hb hc he = hb
by-dimension (suc (suc zero)) a b c e l ha hb hc he = hc
by-dimension (suc (suc (suc zero))) a b c e l ha hb hc he = he
by-dimension (suc (suc (suc (suc d)))) a b c e l ha hb hc he = absurd (omega arith)

-- the location that is found is one that the simplex has
pub location-fits : (f : Format) (s : VoronoiSimplex) → s.dim ≤ 3 → Fits s.dim (find_location f s)
unfolding find_location has_location
location-fits f s h = by-dimension s.dim _ _ _ _ h refl (on-segment f _ _) (on-triangle f _ _ _) (on-tetrahedron f _ _ _ _)

-- ---- so it is taken

-- a value for which a location was found is a simplex that has it
pub found-has : (f : Format) (s : VoronoiSimplex) (p : Projected) → project_origin f s ≡ Ok p → (is_simplex s ≡ true) × (has_location s.dim p.location ≡ true)
unfolding project_origin
found-has f s p e = by (is_simplex s) refl e
  where
    by : (b : Bool) → is_simplex s ≡ b → cond b (find_location f s) (Err would_panic) ≡ Ok p → (is_simplex s ≡ true) × (has_location s.dim p.location ≡ true)
    by true h e = (h, subst (Fits s.dim) e (location-fits f s (small s h).dimension))
    by false h e = let none : ◌≡◌ {A = ℕ} 0 1 = cc in absurd (omega arith)

-- a location that was found for a simplex is taken, and the simplex is reduced to it
pub found-is-taken : (f : Format) (s : VoronoiSimplex) (p : Projected) → project_origin f s ≡ Ok p → apply_location s p.location ≡ taken_with (reduce_to s p.location)
unfolding apply_location
found-is-taken f s p e = let has = found-has f s p e in rw (has.0, has.1)

-- ---- both

-- the two operations in turn are `project_origin_and_reduce`
pub both-in-turn : (f : Format) (s : VoronoiSimplex) → project_origin_and_reduce f s ≡ in_turn s (project_origin f s)
unfolding project_origin_and_reduce
both-in-turn f s = by (project_origin f s) (found-is-taken f s)
  where
    by : (x : Result Projected WouldPanic) → ((p : Projected) → x ≡ Ok p → apply_location s p.location ≡ taken_with (reduce_to s p.location)) → reduced_at s x ≡ in_turn s x
    by (Ok p) taken = ap (λ (t : Applied). in_turn_with t.simplex p) (sym (taken p refl))
      where
        in_turn_with : VoronoiSimplex → Projected → Reduced
        in_turn_with t p = record { simplex = t; projection = Ok p }
    by (Err e) taken = refl

-- the reduction gives the projection, and is refused only where the projection is
pub reduced-projection : (f : Format) (s : VoronoiSimplex) → (project_origin_and_reduce f s).projection ≡ project_origin f s
unfolding project_origin_and_reduce
reduced-projection f s = by (project_origin f s)
  where
    by : (x : Result Projected WouldPanic) → (reduced_at s x).projection ≡ x
    by (Ok p) = refl
    by (Err e) = refl
