-- EACH LIVE VERTEX AFTER A REDUCTION IS A COPY OF ONE THAT WAS LIVE BEFORE IT, from distinct places, AND THE DIMENSION DID NOT GROW: of any simplex and any location that is taken
-- (`taken-copies`), and of the whole reduction, whatever it finds (`reduced-copies`). What is refused is left as it came in (`refused-copies`). The places are those of specs/Kept.antt. Assumes
-- nothing.
use mathlib.Core.Path.{◌≡◌, refl, sym, ◌∙◌}
use mathlib.Core.Bool.{Bool, true, false, cond, ◌||◌}
use mathlib.Core.List.{List, [], ◌∷◌}
use mathlib.Core.Logic.{◌≢◌}
use Prim.Native.Nat.{ℕ, zero, suc, ◌≤◌}
use native.Mathlib.Omega.{arith}
use lib.Dec.{eqb}
use lib.ListN.{get_or}
use lib.Ieee.{Float, Format}
use borrow.Author.Tests.{leb-true, eqb-true, eqb-false}
use Rattle.shape.specs.declared.vertex.Vertex.{Vertex}
use Rattle.simplex.specs.declared.voronoi_simplex.VoronoiSimplex.{VoronoiSimplex}
use Rattle.simplex.specs.Simplex.{is_simplex, nowhere, exchanged, swap_in}
use Rattle.simplex.proofs.Laws.{small}
use Rattle.reduction.specs.declared.location.Location.{Location}
use Rattle.reduction.specs.declared.location.Location.TheVariants.{OnVertex, OnEdge, OnFace, OnSolid}
use Rattle.std.proofs.Common.{Result, Ok, Err}
use Rattle.refusal.specs.declared.WouldPanic.{WouldPanic}
use Rattle.reduction.specs.declared.applying.ApplyError.TheVariants.{NoSuchLocation, NoSimplex}
use Rattle.reduction.specs.Reduction.{Projected, project_origin, place_in, to_first, to_vertex, to_edge, reduce_segment, triangle_edge, reduce_triangle}
use Rattle.reduction.specs.Reduction.{edge_first, tetrahedron_edge, reduce_tetrahedron, reduce_to}
use Rattle.reduction.specs.Reduction.{has_location, taken_with, refused_with, apply_location, reduced_at, project_origin_and_reduce}
use Rattle.reduction.specs.Kept.{Copied, kept_of_segment, kept_of_triangle, kept_of_tetrahedron, kept_places, among}
use Rattle.reduction.proofs.Fits.{found-has}
use Rattle.reduction.proofs.Faces.{low-place, other_place, to-first-place, one_kept, two-kept, three-kept, face-kept}

-- a simplex that is left as it is
pub left-copies : (s : VoronoiSimplex) → Copied s s (λ i. i)
left-copies s = record { not_grown = omega arith; from_live = λ i l. l; copies = λ i l. refl; distinct = λ i j li lj e. e }

-- two maps that agree on the live places
same-places : {s t : VoronoiSimplex} {from : ℕ → ℕ} (to : ℕ → ℕ) → ((i : ℕ) → i ≤ t.dim → to i ≡ from i) → Copied s t from → Copied s t to
same-places {s} {t} {from} to e c = record {
  not_grown = c.not_grown;
  from_live = λ i l. rw (e i l) (c.from_live i l);
  copies = λ i l. rw (e i l) (c.copies i l);
  distinct = λ i j li lj q. c.distinct i j li lj (sym (e i li) ∙ q ∙ e j lj);
}

-- ---- by the dimension and the location

module _ (s : VoronoiSimplex) where
  -- one vertex, from the place i
  vertex-kept : (i : ℕ) → i ≤ s.dim → Copied s (to_vertex s i) (among (i ∷ []))
  unfolding to_vertex to_first place_in swap_in
  vertex-kept i l = one_kept s (to_vertex s i) i refl l (to-first-place s.vertices i)

  first-kept : Copied s (to_first s) (among (0 ∷ []))
  unfolding to_first place_in
  first-kept = one_kept s (to_first s) 0 refl (omega arith) refl

  segment-kept : (l : Location) → s.dim ≡ 1 → has_location 1 l ≡ true → Copied s (reduce_segment s l) (among (kept_of_segment l))
  unfolding reduce_segment kept_of_segment has_location to_edge place_in
  segment-kept (OnVertex i) d h = by (eqb i 0) refl
    where
      by : (b : Bool) → eqb i 0 ≡ b → Copied s (cond b (to_first s) (to_vertex s 1)) (among (i ∷ []))
      by true e = let z : i ≡ 0 = eqb-true i 0 e in rw z first-kept
      by false e = let z : i ≡ 1 = omega (arith, leb-true i 1 h, eqb-false i 0 e) in rw z (vertex-kept 1 (omega arith))
  segment-kept (OnEdge i u v) d h = two-kept s _ 0 1 d (omega arith) (omega arith) (omega arith) (λ e. omega arith) refl refl
  segment-kept (OnFace i u v w) d h = two-kept s s 0 1 d (omega arith) (omega arith) (omega arith) (λ e. omega arith) refl refl
  segment-kept OnSolid d h = two-kept s s 0 1 d (omega arith) (omega arith) (omega arith) (λ e. omega arith) refl refl

  triangle-kept : (l : Location) → s.dim ≡ 2 → has_location 2 l ≡ true → Copied s (reduce_triangle s l) (among (kept_of_triangle l))
  unfolding reduce_triangle kept_of_triangle has_location triangle_edge to_edge place_in swap_in
  triangle-kept (OnVertex i) d h = vertex-kept i (omega (arith, leb-true i 2 h))
  triangle-kept (OnEdge i u v) d h = by (eqb i 0) (eqb i 1)
    where
      vs : List Vertex
      vs = s.vertices

      by : (a b : Bool) → Copied s (cond a (to_edge s u v 1) (cond b (to_edge (swap_in s 0 2) v u 1) (to_edge (swap_in s 1 2) u v 1))) (among (cond a (0 ∷ 1 ∷ []) (cond b (2 ∷ 1 ∷ []) (0 ∷ 2 ∷ []))))
      by true b = two-kept s _ 0 1 refl (omega arith) (omega arith) (omega arith) (λ e. omega arith) refl refl
      by false true =
          two-kept s (to_edge (swap_in s 0 2) v u 1) 2 1 refl (omega arith) (omega arith) (omega arith) (λ e. omega arith)
          (low-place vs 0 2 (omega arith)) (other_place vs 0 2 1 (λ e. omega arith) (λ e. omega arith))
      by false false =
          two-kept s (to_edge (swap_in s 1 2) u v 1) 0 2 refl (omega arith) (omega arith) (omega arith) (λ e. omega arith)
          (other_place vs 1 2 0 (λ e. omega arith) (λ e. omega arith)) (low-place vs 1 2 (omega arith))
  triangle-kept (OnFace i u v w) d h =
      three-kept s _ 0 1 2 d (omega arith) (omega arith) (omega arith) (omega arith) (λ e. omega arith) (λ e. omega arith) (λ e. omega arith) refl refl refl
  triangle-kept OnSolid d h =
      three-kept s s 0 1 2 d (omega arith) (omega arith) (omega arith) (omega arith) (λ e. omega arith) (λ e. omega arith) (λ e. omega arith) refl refl refl

  -- the two places of an edge of the tetrahedron
  edge_kept : (i : ℕ) (u v : Float) → s.dim ≡ 3 → Copied s (tetrahedron_edge s i u v) (among (kept_of_tetrahedron (OnEdge i u v)))
  unfolding tetrahedron_edge kept_of_tetrahedron edge_first to_edge place_in swap_in
  edge_kept i u v d = by (eqb i 0) (eqb i 1) (eqb i 2) (eqb i 3) (eqb i 4)
    where
      vs : List Vertex
      vs = s.vertices

      -- whatever the weights
      weighted : (t : VoronoiSimplex) (b : Bool) (places : List ℕ) → Copied s (to_edge t u v 1) (among places) → Copied s (to_edge t v u 1) (among places)
          → Copied s (cond b (to_edge t v u 1) (to_edge t u v 1)) (among places)
      weighted t true places p q = q
      weighted t false places p q = p

      pair : (t : VoronoiSimplex) (o : Bool) (a b : ℕ) → a ≤ 3 → b ≤ 3 → a ≢ b → get_or t.vertices 0 nowhere ≡ get_or vs a nowhere → get_or t.vertices 1 nowhere ≡ get_or vs b nowhere
          → Copied s (cond o (to_edge t v u 1) (to_edge t u v 1)) (among (a ∷ b ∷ []))
      pair t o a b la lb n p q =
          weighted t o (a ∷ b ∷ [])
          (two-kept s (to_edge t u v 1) a b refl (omega arith) (omega arith) (omega arith) n p q)
          (two-kept s (to_edge t v u 1) a b refl (omega arith) (omega arith) (omega arith) n p q)

      by : (b0 b1 b2 b3 b4 : Bool)
          → Copied s
          (let t = cond b0 s (cond b1 (swap_in s 1 2) (cond b2 (swap_in s 1 3) (cond b3 (swap_in s 0 2) (cond b4 (swap_in s 0 3) (swap_in (swap_in s 0 2) 1 3))))) in
          cond (b3 || b4) (to_edge t v u 1) (to_edge t u v 1))
          (among (cond b0 (0 ∷ 1 ∷ []) (cond b1 (0 ∷ 2 ∷ []) (cond b2 (0 ∷ 3 ∷ []) (cond b3 (2 ∷ 1 ∷ []) (cond b4 (3 ∷ 1 ∷ []) (2 ∷ 3 ∷ [])))))))
      by true b1 b2 b3 b4 = pair s (b3 || b4) 0 1 (omega arith) (omega arith) (λ e. omega arith) refl refl
      by false true b2 b3 b4 =
          pair (swap_in s 1 2) (b3 || b4) 0 2 (omega arith) (omega arith) (λ e. omega arith) (other_place vs 1 2 0 (λ e. omega arith) (λ e. omega arith)) (low-place vs 1 2 (omega arith))
      by false false true b3 b4 =
          pair (swap_in s 1 3) (b3 || b4) 0 3 (omega arith) (omega arith) (λ e. omega arith) (other_place vs 1 3 0 (λ e. omega arith) (λ e. omega arith)) (low-place vs 1 3 (omega arith))
      by false false false true b4 =
          pair (swap_in s 0 2) true 2 1 (omega arith) (omega arith) (λ e. omega arith) (low-place vs 0 2 (omega arith)) (other_place vs 0 2 1 (λ e. omega arith) (λ e. omega arith))
      by false false false false true =
          pair (swap_in s 0 3) true 3 1 (omega arith) (omega arith) (λ e. omega arith) (low-place vs 0 3 (omega arith)) (other_place vs 0 3 1 (λ e. omega arith) (λ e. omega arith))
      by false false false false false =
          let ws = exchanged nowhere vs 0 2 in
          pair (swap_in (swap_in s 0 2) 1 3) false 2 3 (omega arith) (omega arith) (λ e. omega arith)
          (other_place ws 1 3 0 (λ e. omega arith) (λ e. omega arith) ∙ low-place vs 0 2 (omega arith))
          (low-place ws 1 3 (omega arith) ∙ other_place vs 0 2 3 (λ e. omega arith) (λ e. omega arith))

  tetrahedron-kept : (l : Location) → s.dim ≡ 3 → has_location 3 l ≡ true → Copied s (reduce_tetrahedron s l) (among (kept_of_tetrahedron l))
  unfolding reduce_tetrahedron kept_of_tetrahedron has_location
  tetrahedron-kept (OnVertex i) d h = vertex-kept i (omega (arith, leb-true i 3 h))
  tetrahedron-kept (OnEdge i u v) d h = edge_kept i u v d
  tetrahedron-kept (OnFace i u v w) d h = face-kept s i u v w d
  tetrahedron-kept OnSolid d h = same-places _ four (left-copies s)
    where
      four : (i : ℕ) → i ≤ s.dim → among (0 ∷ 1 ∷ 2 ∷ 3 ∷ []) i ≡ i
      four zero l = refl
      four (suc zero) l = refl
      four (suc (suc zero)) l = refl
      four (suc (suc (suc zero))) l = refl
      four (suc (suc (suc (suc i)))) l = absurd (omega arith)

  reduced-to : (l : Location) → s.dim ≤ 3 → has_location s.dim l ≡ true → Copied s (reduce_to s l) (among (kept_places s.dim l))
  unfolding reduce_to kept_places
  reduced-to l few h = by s.dim refl few h
    where
      by : (d : ℕ) → s.dim ≡ d → d ≤ 3 → has_location d l ≡ true
          → Copied s
          (cond (eqb d 0) (to_first s) (cond (eqb d 1) (reduce_segment s l) (cond (eqb d 2) (reduce_triangle s l) (reduce_tetrahedron s l))))
          (among (cond (eqb d 0) (0 ∷ []) (cond (eqb d 1) (kept_of_segment l) (cond (eqb d 2) (kept_of_triangle l) (kept_of_tetrahedron l)))))
      by zero e k h = first-kept
      by (suc zero) e k h = segment-kept l e h
      by (suc (suc zero)) e k h = triangle-kept l e h
      by (suc (suc (suc zero))) e k h = tetrahedron-kept l e h
      by (suc (suc (suc (suc d)))) e k h = absurd (omega arith)

-- ---- the operations

-- ANY LOCATION THAT IS TAKEN
pub taken-copies : (s : VoronoiSimplex) (l : Location) → (apply_location s l).outcome ≡ Ok tt → Copied s (apply_location s l).simplex (among (kept_places s.dim l))
unfolding apply_location
taken-copies s l t = by (is_simplex s) (has_location s.dim l) refl refl t
  where
    by : (a b : Bool) → is_simplex s ≡ a → has_location s.dim l ≡ b → (cond a (cond b (taken_with (reduce_to s l)) (refused_with s NoSuchLocation)) (refused_with s NoSimplex)).outcome ≡ Ok tt
        → Copied s (cond a (cond b (taken_with (reduce_to s l)) (refused_with s NoSuchLocation)) (refused_with s NoSimplex)).simplex (among (kept_places s.dim l))
    by true true p q t = reduced-to s l (small s p).dimension q
    by true false p q t = let none : ◌≡◌ {A = ℕ} 0 1 = cc in absurd (omega arith)
    by false b p q t = let none : ◌≡◌ {A = ℕ} 0 1 = cc in absurd (omega arith)

-- what is refused is left as it came in
pub refused-copies : (s : VoronoiSimplex) (l : Location) → (apply_location s l).outcome ≢ Ok tt → Copied s (apply_location s l).simplex (λ i. i)
unfolding apply_location
refused-copies s l n = by (is_simplex s) (has_location s.dim l) n
  where
    by : (a b : Bool) → (cond a (cond b (taken_with (reduce_to s l)) (refused_with s NoSuchLocation)) (refused_with s NoSimplex)).outcome ≢ Ok tt
        → Copied s (cond a (cond b (taken_with (reduce_to s l)) (refused_with s NoSuchLocation)) (refused_with s NoSimplex)).simplex (λ i. i)
    by true true n = absurd (n refl)
    by true false n = left-copies s
    by false b n = left-copies s

-- copies, from whatever places
pub record CopiedFrom (s t : VoronoiSimplex) : Type 0 where
  pub from : ℕ → ℕ
  pub copied : Copied s t from

-- THE WHOLE REDUCTION, `project_origin_and_reduce`, whatever it finds
pub reduced-copies : (f : Format) (s : VoronoiSimplex) → CopiedFrom s (project_origin_and_reduce f s).simplex
unfolding project_origin_and_reduce
reduced-copies f s = by (project_origin f s) (found-has f s)
  where
    by : (x : Result Projected WouldPanic) → ((p : Projected) → x ≡ Ok p → (is_simplex s ≡ true) × (has_location s.dim p.location ≡ true)) → CopiedFrom s (reduced_at s x).simplex
    by (Ok p) has = let h = has p refl in record { from = among (kept_places s.dim p.location); copied = reduced-to s p.location (small s h.0).dimension h.1 }
    by (Err e) has = record { from = λ i. i; copied = left-copies s }
