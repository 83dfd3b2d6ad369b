-- After any number of turns the simplex of a cast is one (`a-simplex`), so that `modify_pnts` is never refused there (`moved-done`). Of any format and support function.
use Prim.Native.Nat.{ℕ, zero, suc, ◌+◌, ◌≤◌, ◌<◌}
use mathlib.Core.Path.{◌≡◌, refl}
use mathlib.Core.Bool.{Bool, true, false, not, ◌&&◌, ◌||◌, cond}
use native.Mathlib.Omega.{arith}
use borrow.Author.Tests.{leb-true}
use lib.Dec.{eqb, ltb, leb}
use lib.ListN.{get_or}
use lib.Ieee.{Float, Format, lt, le}
use lib.Ieee.Scale.{finite}
use Rattle.std.specs.Prelude.{Option, Some, None, Result, Ok, Err}
use Rattle.std.specs.declared.ops.ControlFlow.{ControlFlow}
use Rattle.std.specs.declared.ops.ControlFlow.TheVariants.{Continue, Break}
use Rattle.refusal.specs.declared.WouldPanic.{WouldPanic}
use Rattle.refusal.specs.Refusal.{would_panic}
use Rattle.number.specs.Constants.{eps_tol, largest}
use Rattle.vector.specs.declared.vec3.Vec3.{Vec3}
use Rattle.vector.specs.Vector.{zero_f, neg_v, add_v, scale_v, div_v, dot_v, normalize_and_length_v, ◌⊕◌, ◌⊖◌, ◌⊗◌}
use Rattle.shape.specs.declared.vertex.Vertex.{Vertex}
use Rattle.shape.specs.Vertex.{translate_vertex}
use Rattle.simplex.specs.declared.voronoi_simplex.VoronoiSimplex.{VoronoiSimplex}
use Rattle.simplex.specs.declared.operations.Added.{Added as Grown}
use Rattle.simplex.specs.Simplex.{is_simplex, new_simplex, reset_in, swap_in, saved_in, grown_in, near_simplex, translated_in}
use Rattle.simplex.specs.Operations.{altered_or, reset_simplex, add_point, modify_pnts}
use Rattle.simplex.proofs.Laws.{Small, small, room}
use Rattle.reduction.specs.declared.location.Location.{Location}
use Rattle.reduction.specs.declared.location.Location.TheVariants.{OnVertex, OnEdge, OnFace, OnSolid}
use Rattle.reduction.specs.Reduction.{Projected, overwrite_in, place_in, to_first, to_vertex, to_edge, reduce_segment, triangle_edge, reduce_triangle, edge_first, tetrahedron_edge, tetrahedron_face, reduce_tetrahedron, reduce_to, has_location, project_origin, reduced_at, project_origin_and_reduce}
use Rattle.reduction.proofs.Swaps.{is-small, swap-keeps}
use Rattle.reduction.proofs.Fits.{found-has}
use Rattle.cast.specs.declared.rounds.Round.{Round}
use Rattle.cast.specs.declared.rounds.Turn.{Turn}
use Rattle.cast.specs.declared.ray.Ray.{Ray}
use Rattle.cast.specs.Ray.{ray_toi_with_halfspace}
use Rattle.cast.specs.Cast.{Cast, Search, goes_on, ◌▷◌, onward_with, ended_with, ray_of, round_of, impact, beyond, support_point, upper_bound, last_chance, lowered, clipped_at, clipped}
use Rattle.cast.specs.Cast.{min_bound_of, bounded, added_by, added, solid, reduced_to, reduced, probed, turn_of, start_at, start_of}
use Rattle.cast.proofs.Start.{reset-done}

-- ---- the steps of a reduction

place-small : (s : VoronoiSimplex) (p : _) (d : ℕ) → d ≤ 3 → Small s → Small (place_in s p d)
unfolding place_in
place-small s p d l h = record { dimension = l; previous = h.previous; place = h.place }

overwrite-small : (s : VoronoiSimplex) (i : ℕ) → Small s → Small (overwrite_in s i)
unfolding overwrite_in
overwrite-small s i h = record { dimension = h.dimension; previous = h.previous; place = h.place }

swap-small : (s : VoronoiSimplex) (i j : ℕ) → i < 4 → j < 4 → Small s → Small (swap_in s i j)
swap-small s i j li lj h = small (swap_in s i j) (swap-keeps s i j (is-small s h) li lj)

first_small : (s : VoronoiSimplex) → Small s → Small (to_first s)
unfolding to_first
first_small s h = place-small s _ 0 (omega arith) h

vertex-small : (s : VoronoiSimplex) (i : ℕ) → i < 4 → Small s → Small (to_vertex s i)
unfolding to_vertex
vertex-small s i l h = first_small (swap_in s 0 i) (swap-small s 0 i (omega arith) l h)

edge-small : (s : VoronoiSimplex) (u v : Float) (d : ℕ) → d ≤ 3 → Small s → Small (to_edge s u v d)
unfolding to_edge
edge-small s u v d l h = place-small s _ d l h

-- of two, whichever is taken
either : (b : Bool) (s t : VoronoiSimplex) → Small s → Small t → Small (cond b s t)
either true s t h k = h
either false s t h k = k

corner : (s : VoronoiSimplex) (i : ℕ) → Small s → leb i s.dim ≡ true → i < 4
corner s i h l = omega (arith, h.dimension, leb-true i s.dim l)

segment-small : (s : VoronoiSimplex) (l : Location) → Small s → Small (reduce_segment s l)
unfolding reduce_segment
segment-small s (OnVertex i) h = either (eqb i 0) _ _ (first_small s h) (vertex-small s 1 (omega arith) h)
segment-small s (OnEdge i u v) h = edge-small s u v s.dim h.dimension h
segment-small s (OnFace i u v w) h = h
segment-small s OnSolid h = h

triangle-small : (s : VoronoiSimplex) (l : Location) → Small s → has_location s.dim l ≡ true → Small (reduce_triangle s l)
unfolding reduce_triangle triangle_edge has_location
triangle-small s (OnVertex i) h l = vertex-small s i (corner s i h l) h
triangle-small s (OnEdge i u v) h l =
    either (eqb i 0) _ _ (edge-small s u v 1 (omega arith) h)
    (either (eqb i 1) _ _ (edge-small _ v u 1 (omega arith) (swap-small s 0 2 (omega arith) (omega arith) h)) (edge-small _ u v 1 (omega arith) (swap-small s 1 2 (omega arith) (omega arith) h)))
triangle-small s (OnFace i u v w) h l = place-small s _ s.dim h.dimension h
triangle-small s OnSolid h l = h

edges-small : (s : VoronoiSimplex) (i : ℕ) → Small s → Small (edge_first s i)
unfolding edge_first
edges-small s i h =
    either (eqb i 0) _ _ h
    (either (eqb i 1) _ _ (swap-small s 1 2 (omega arith) (omega arith) h)
    (either (eqb i 2) _ _ (swap-small s 1 3 (omega arith) (omega arith) h)
    (either (eqb i 3) _ _ (swap-small s 0 2 (omega arith) (omega arith) h)
    (either (eqb i 4) _ _ (swap-small s 0 3 (omega arith) (omega arith) h)
    (swap-small (swap_in s 0 2) 1 3 (omega arith) (omega arith) (swap-small s 0 2 (omega arith) (omega arith) h))))))

tetrahedron-small : (s : VoronoiSimplex) (l : Location) → Small s → has_location s.dim l ≡ true → Small (reduce_tetrahedron s l)
unfolding reduce_tetrahedron tetrahedron_edge tetrahedron_face has_location
tetrahedron-small s (OnVertex i) h l = vertex-small s i (corner s i h l) h
tetrahedron-small s (OnEdge i u v) h l =
    let t = edges-small s i h in
    either (eqb i 3 || eqb i 4) _ _ (edge-small _ v u 1 (omega arith) t) (edge-small _ u v 1 (omega arith) t)
tetrahedron-small s (OnFace i u v w) h l =
    either (eqb i 0) _ _ (place-small s _ 2 (omega arith) h)
    (either (eqb i 1) _ _ (place-small _ _ 2 (omega arith) (overwrite-small s 2 h))
    (either (eqb i 2) _ _ (place-small _ _ 2 (omega arith) (overwrite-small s 1 h)) (place-small _ _ 2 (omega arith) (overwrite-small s 0 h))))
tetrahedron-small s OnSolid h l = h

-- ---- what the operations of a round leave

reduce-small : (f : Format) (s : VoronoiSimplex) → Small s → Small (project_origin_and_reduce f s).simplex
unfolding project_origin_and_reduce reduce_to
reduce-small f s h = by (project_origin f s) (λ p e. (found-has f s p e).1)
  where
    by : (x : Result Projected WouldPanic) → ((p : Projected) → x ≡ Ok p → has_location s.dim p.location ≡ true) → Small (reduced_at s x).simplex
    by (Ok p) has =
        let l = p.location in
        let has-l = has p refl in
        either (eqb s.dim 0) _ _ (first_small s h)
        (either (eqb s.dim 1) _ _ (segment-small s l h)
        (either (eqb s.dim 2) _ _ (triangle-small s l h has-l) (tetrahedron-small s l h has-l)))
    by (Err e) has = h

saved-small : (s : VoronoiSimplex) → Small s → Small (saved_in s)
unfolding saved_in
saved-small s h = record { dimension = h.dimension; previous = h.dimension; place = each }
  where
    each : (i : ℕ) → i < 4 → get_or (saved_in s).prev_vertices i 0 ≤ 3
    each zero l = omega arith
    each (suc zero) l = omega arith
    each (suc (suc zero)) l = omega arith
    each (suc (suc (suc zero))) l = omega arith
    each (suc (suc (suc (suc i)))) l = absurd (omega arith)

grown-small : (s : VoronoiSimplex) (v : Vertex) → s.dim < 3 → Small s → Small (grown_in s v)
unfolding grown_in
grown-small s v l h = record { dimension = omega arith; previous = h.previous; place = h.place }

add_small : (f : Format) (s : VoronoiSimplex) (v : Vertex) → Small s → Small (add_point f s v).simplex
unfolding add_point saved_in
add_small f s v h = by (is_simplex s && ltb s.dim 3) (near_simplex f s v) (room s)
  where
    by : (b c : Bool) → (b ≡ true → s.dim < 3) → Small (cond {A = Grown} b (cond c (record { simplex = saved_in s; answer = Ok false }) (record { simplex = grown_in (saved_in s) v; answer = Ok true })) (record { simplex = s; answer = Err would_panic })).simplex
    by true true l = saved-small s h
    by true false l = grown-small (saved_in s) v (l refl) (saved-small s h)
    by false c l = h

translated-small : (f : Format) (s : VoronoiSimplex) (d : Vec3) (n : ℕ) → Small s → Small (translated_in f s d n)
unfolding translated_in
translated-small f s d zero h = h
translated-small f s d (suc n) h =
    let t = translated-small f s d n h in
    record { dimension = t.dimension; previous = t.previous; place = t.place }

modify-small : (f : Format) (s : VoronoiSimplex) (d : Vec3) → Small s → Small (modify_pnts f s d).simplex
unfolding modify_pnts
modify-small f s d h = by (is_simplex s)
  where
    by : (b : Bool) → Small (altered_or b s (translated_in f s d (s.dim + 1))).simplex
    by true = translated-small f s d (s.dim + 1) h
    by false = h

-- ---- and a turn

-- a part after another
then-small : (t : Turn) (part : VoronoiSimplex → Round → Turn) → Small t.simplex → ((s : VoronoiSimplex) (r : Round) → Small s → Small (part s r).simplex) → Small (t ▷ part).simplex
then-small t part h go = by t.next
  where
    by : (x : ControlFlow Cast Round) → Small (goes_on t x part).simplex
    by (Continue r) = go t.simplex r h
    by (Break x) = h

-- the simplex that a cast begins with
begun : (v : Vertex) → Small (reset_simplex new_simplex v).simplex
unfolding reset_in new_simplex is_simplex
begun v = rw (reset-done v) (small (reset_in new_simplex v) refl)

module _ (f : Format) (k : Search) where
  lowered-small : (s : VoronoiSimplex) (r : Round) (dir : Vec3) (t : Float) → Small s → Small (lowered f k s r dir t).simplex
  unfolding lowered
  lowered-small s r dir t h =
      let ltoi = ◌⊕◌ f r.ltoi t in
      let shift = scale_v f r.curr_ray.dir t in
      let ray = ray_of (add_v f r.curr_ray.origin shift) r.curr_ray.dir in
      by (beyond f k ltoi) (modify_pnts f s (neg_v shift)).simplex (round_of ltoi ray dir r.proj (largest f) false) (modify-small f s (neg_v shift) h)
    where
      by : (b : Bool) (u : VoronoiSimplex) (q : Round) → Small u → Small (cond {A = Turn} b (ended_with s (Ok None)) (onward_with u q)).simplex
      by true u q m = h
      by false u q m = m

  clipped-small : (s : VoronoiSimplex) (r : Round) (dir : Vec3) (v : Vertex) → Small s → Small (clipped f k s r dir v).simplex
  unfolding clipped
  clipped-small s r dir v h = let along = dot_v f dir r.curr_ray.dir in by along (lt along zero_f) (lt (eps_tol f) along) (ray_toi_with_halfspace f v.point dir r.curr_ray)
    where
      below : (b c : Bool) (t : Float) → Small (cond {A = Turn} (b && c) (lowered f k s r dir t) (onward_with s r)).simplex
      below true true t = lowered-small s r dir t h
      below true false t = h
      below false c t = h

      above : (b : Bool) → Small (cond {A = Turn} b (ended_with s (Ok None)) (onward_with s r)).simplex
      above true = h
      above false = h

      by : (along : Float) (b c : Bool) (x : Option Float) → Small (clipped_at f k s r dir along x).simplex
      by along b c (Some t) = below (lt along zero_f) (lt zero_f t) t
      by along b c None = above (lt (eps_tol f) along)

  bounded-small : (s : VoronoiSimplex) (r : Round) (m : Float) → Small s → Small (bounded f k s r m).simplex
  unfolding bounded
  bounded-small s r m h = by r.last_chance (not (finite m)) (le (◌⊖◌ f r.max_bound m) (◌⊗◌ f k.eps_rel r.max_bound))
    where
      by : (a b c : Bool) → Small (cond {A = Turn} a (ended_with s (Ok None)) (cond b (ended_with s (Err would_panic)) (cond c (ended_with s (Ok None)) (onward_with s r)))).simplex
      by true b c = h
      by false true c = h
      by false false true = h
      by false false false = h

  added-small : (s : VoronoiSimplex) (r : Round) (v : Vertex) → Small s → Small (added f s r v).simplex
  unfolding added
  added-small s r v h = let u = translate_vertex f v (neg_v r.curr_ray.origin) in by (add_point f s u).simplex (add_point f s u).answer (add_small f s u h)
    where
      by : (s : VoronoiSimplex) (x : Result Bool WouldPanic) → Small s → Small (added_by f s x r).simplex
      by s (Ok b) h = h
      by s (Err e) h = h

  reduced-small : (s : VoronoiSimplex) (r : Round) (m : Float) (v : Vertex) → Small s → Small (reduced f k s r m v).simplex
  unfolding reduced
  reduced-small s r m v h = let t = project_origin_and_reduce f s in by t.simplex t.projection (reduce-small f s h)
    where
      inside : (b : Bool) (s : VoronoiSimplex) (x : Cast) (q : Round) → Small s → Small (cond {A = Turn} b (ended_with s x) (onward_with s q)).simplex
      inside true s x q h = h
      inside false s x q h = h

      by : (s : VoronoiSimplex) (x : Result Projected WouldPanic) → Small s → Small (reduced_to f k s x r m v).simplex
      by s (Ok p) h = inside (eqb s.dim 3) s (solid f k r m v) (round_of r.ltoi r.curr_ray r.ldir p.point r.max_bound r.last_chance) h
      by s (Err e) h = h

  probed-small : (s : VoronoiSimplex) (r : Round) (dir : Vec3) (v : Vertex) → Small s → Small (probed f k s r dir v).simplex
  unfolding probed
  probed-small s r dir v h = by (r.last_chance && lt zero_f r.ltoi) (last_chance f k s r)
    where
      grown : Float → VoronoiSimplex → Round → Turn
      grown m s₂ r₂ = added f s₂ r₂ v ▷ λ s₃ r₃. reduced f k s₃ r₃ m v

      grown-keeps : (m : Float) (s₂ : VoronoiSimplex) (r₂ : Round) → Small s₂ → Small (grown m s₂ r₂).simplex
      grown-keeps m s₂ r₂ h₂ = then-small (added f s₂ r₂ v) (λ s₃ r₃. reduced f k s₃ r₃ m v) (added-small s₂ r₂ v h₂) (λ s₃ r₃ h₃. reduced-small s₃ r₃ m v h₃)

      closed : VoronoiSimplex → Round → Turn
      closed s₁ r₁ = bounded f k s₁ r₁ (min_bound_of f r₁ dir v) ▷ grown (min_bound_of f r₁ dir v)

      closed-keeps : (s₁ : VoronoiSimplex) (r₁ : Round) → Small s₁ → Small (closed s₁ r₁).simplex
      closed-keeps s₁ r₁ h₁ = let m = min_bound_of f r₁ dir v in then-small (bounded f k s₁ r₁ m) (grown m) (bounded-small s₁ r₁ m h₁) (grown-keeps m)

      by : (b : Bool) (x : Cast) → Small (cond {A = Turn} b (ended_with s x) (clipped f k s r dir v ▷ closed)).simplex
      by true x = h
      by false x = then-small (clipped f k s r dir v) closed (clipped-small s r dir v h) closed-keeps

  turn_small : (s : VoronoiSimplex) (r : Round) → Small s → Small (turn_of f k s r).simplex
  unfolding turn_of
  turn_small s r h =
      let unit = normalize_and_length_v f (neg_v r.proj) in
      let stuck = le r.max_bound unit.length in
      by (lt (eps_tol f) unit.length) (upper_bound f r unit.length stuck) unit.normalized (support_point f k r unit.normalized stuck) (impact f k r)
    where
      by : (b : Bool) (q : Round) (dir : Vec3) (v : Vertex) (x : Cast) → Small (cond {A = Turn} b (probed f k s q dir v) (ended_with s x)).simplex
      by true q dir v x = probed-small s q dir v h
      by false q dir v x = h

  start_small : Small (start_of f k).simplex
  unfolding start_of
  start_small =
      let ray = ray_of k.ray.origin (div_v f k.ray.dir k.ray_length) in
      let s = (reset_simplex new_simplex (translate_vertex f (k.supp (neg_v ray.dir)) (neg_v ray.origin))).simplex in
      by ray (project_origin_and_reduce f s).simplex (project_origin_and_reduce f s).projection (reduce-small f s (begun (translate_vertex f (k.supp (neg_v ray.dir)) (neg_v ray.origin))))
    where
      by : (ray : Ray) (s : VoronoiSimplex) (x : Result Projected WouldPanic) → Small s → Small (start_at f ray s x).simplex
      by ray s (Ok p) h = h
      by ray s (Err e) h = h

  -- ---- where a cast stands after n turns, or where it has ended
  pub after_turns : ℕ → Turn
  after_turns zero = start_of f k
  after_turns (suc n) = after_turns n ▷ turn_of f k

  stands-small : (n : ℕ) → Small (after_turns n).simplex
  unfolding after_turns
  stands-small zero = start_small
  stands-small (suc n) = then-small (after_turns n) (turn_of f k) (stands-small n) turn_small

  pub a-simplex : (n : ℕ) → is_simplex (after_turns n).simplex ≡ true
  a-simplex n = is-small (after_turns n).simplex (stands-small n)

  pub moved-done : (n : ℕ) (d : Vec3) → (modify_pnts f (after_turns n).simplex d).outcome ≡ Ok tt
  unfolding modify_pnts
  moved-done n d = rw (a-simplex n)
