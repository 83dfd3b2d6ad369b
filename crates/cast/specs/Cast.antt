-- `minkowski_ray_cast` of src/query/gjk/gjk.rs, for any format f and any support function. Definitions only.
-- The loop's body in the Rust's order: `support_point`, `last_chance`, `clipped`, `bounded`, `added`, `reduced`; `probed` and `turn_of` put them together. A part ends the cast, or goes
-- on with the simplex and what the loop carries (`◌▷◌`). The rounds that are left, `100 - niter`, are the fuel of `run_of`: where none is left, the Rust returns `None`.
-- What is `None` there is `Ok None` here, a miss, number 6; where it panics the answer is refusal 2.
use Rattle.std.specs.Prelude.{ℕ, zero, suc, Bool, false, not, ◌&&◌, ◌||◌, cond, eqb, Float, Option, Some, None, Result, Ok, Err}
use Rattle.std.specs.declared.ops.ControlFlow.{ControlFlow}
use Rattle.std.specs.declared.ops.ControlFlow.TheVariants.{Continue, Break}
use Rattle.std.specs.Float.Ieee as Ieee
use Rattle.std.specs.Float.{Format}
use Rattle.std.specs.Float.Ieee.{lt, le}
use Rattle.std.specs.Float.Ieee.Scale.{finite}
use Rattle.number.specs.Constants.{eps_tol, largest}
use Rattle.number.specs.Root.{root}
use Rattle.number.specs.Small.{gt, ge, larger}
use Rattle.refusal.specs.declared.WouldPanic.{WouldPanic}
use Rattle.refusal.specs.Refusal.{would_panic, panic_number}
use Rattle.vector.specs.declared.vec3.Vec3.{Vec3}
use Rattle.vector.specs.Vector.{zero_f, one_f, zero_v, neg_v, add_v, sub_v, scale_v, div_v, dot_v, length_v, normalize_and_length_v, ◌⊕◌, ◌⊖◌, ◌⊗◌, ◌⊘◌}
use Rattle.shape.specs.declared.vertex.Vertex.{Vertex}
use Rattle.shape.specs.Vertex.{single_point, translate_vertex}
use Rattle.shape.specs.Support.{from_shapes}
use Rattle.simplex.specs.declared.voronoi_simplex.VoronoiSimplex.{VoronoiSimplex}
use Rattle.simplex.specs.Simplex.{new_simplex}
use Rattle.simplex.specs.Operations.{reset_simplex, add_point, modify_pnts}
use Rattle.reduction.specs.Reduction.{Projected, project_origin_and_reduce}
use Rattle.witnesses.specs.declared.Witnesses.{Witnesses}
use Rattle.witnesses.specs.Witnesses.{result_of}
use Rattle.cast.specs.declared.ray.Ray.{Ray}
use Rattle.cast.specs.declared.rounds.Impact.{Impact}
use Rattle.cast.specs.declared.rounds.Query.{Query}
use Rattle.cast.specs.declared.rounds.Round.{Round}
use Rattle.cast.specs.declared.rounds.Turn.{Turn}
use Rattle.cast.specs.Ray.{is_zero, ray_toi_with_halfspace}

-- an impact or a miss, as the Rust's `Option`; or the refusal
abbrev pub Cast : Type 0
Cast = Result (Option Impact) WouldPanic

-- ---- the number of each answer, 0, the miss's 6 or refusal 2, and its values, the time and the direction; what is no impact has zeros
unfoldable pub cast_number : Cast → ℕ
cast_number (Ok (Some i)) = 0
cast_number (Ok None) = 6
cast_number (Err e) = panic_number e

abbrev pub impact_at : Float → Vec3 → Impact
impact_at t d = record { time = t; dir = d }

unfoldable pub cast_values : Cast → Impact
cast_values (Ok (Some i)) = i
cast_values (Ok None) = impact_at zero_f zero_v
cast_values (Err e) = impact_at zero_f zero_v

-- ---- what a cast is asked: the support points of the two shapes, the ray, the largest time; and `ray_length` and `_eps_rel`
pub record Search : Type 0 where
  pub supp : Vec3 → Vertex
  pub ray : Ray
  pub max_time : Float
  pub ray_length : Float
  pub eps_rel : Float

abbrev pub search_of : Format → Query → Search
search_of f q =
    record { supp = from_shapes f q.pos12 q.g1 q.g2; ray = q.ray; max_time = q.max_time_of_impact; ray_length = q.ray_length; eps_rel = q.eps_rel }

-- ---- a part of the loop's body ends the cast, or goes on
abbrev pub onward_with : VoronoiSimplex → Round → Turn
onward_with s r = record { simplex = s; next = Continue r }

abbrev pub ended_with : VoronoiSimplex → Cast → Turn
ended_with s x = record { simplex = s; next = Break x }

-- the next part, where the first goes on
abbrev pub goes_on : Turn → ControlFlow Cast Round → (VoronoiSimplex → Round → Turn) → Turn
goes_on t (Continue r) part = part t.simplex r
goes_on t (Break x) part = t

infixr 10 ◌▷◌
abbrev pub ◌▷◌ : Turn → (VoronoiSimplex → Round → Turn) → Turn
t ▷ part = goes_on t t.next part

-- a turn's end is the cast's, or the rounds go on
unfoldable pub after : (VoronoiSimplex → Round → Cast) → VoronoiSimplex → ControlFlow Cast Round → Cast
after go s (Continue r) = go s r
after go s (Break x) = x

abbrev pub ray_of : Vec3 → Vec3 → Ray
ray_of o d = record { origin = o; dir = d }

abbrev pub round_of : Float → Ray → Vec3 → Vec3 → Float → Bool → Round
round_of ltoi ray ldir proj max_bound last_chance =
    record { ltoi = ltoi; curr_ray = ray; ldir = ldir; proj = proj; max_bound = max_bound; last_chance = last_chance }

module _ (f : Format) where
  -- `Some((ltoi / ray_length, ldir))`
  unfoldable pub impact : Search → Round → Cast
  impact k r = Ok (Some (impact_at (◌⊘◌ f r.ltoi k.ray_length) r.ldir))

  -- `ltoi / ray_length > max_time_of_impact`
  unfoldable pub beyond : Search → Float → Bool
  beyond k ltoi = gt (◌⊘◌ f ltoi k.ray_length) k.max_time

  -- `if max_bound >= old_max_bound { .. CsoPoint::single_point(proj + curr_ray.origin) } else { CsoPoint::from_shapes(..) }`
  unfoldable pub support_point : Search → Round → Vec3 → Bool → Vertex
  support_point k r dir stuck = cond stuck (single_point (add_v f r.proj r.curr_ray.origin)) (k.supp dir)

  -- `max_bound = dist`, and `last_chance = true` where it does not fall
  unfoldable pub upper_bound : Round → Float → Bool → Round
  upper_bound r dist stuck = round_of r.ltoi r.curr_ray r.ldir r.proj dist (r.last_chance || stuck)

  -- ---- `if last_chance && ltoi > 0.0`

  -- `if witness_ltoi.is_finite() && witness_ltoi > ltoi`
  unfoldable pub witnessed : Search → Round → Vec3 → Vec3 → Cast
  witnessed k r witness1 witness2 =
      let witness_ltoi = dot_v f (sub_v f (sub_v f witness1 witness2) k.ray.origin) r.curr_ray.dir in
      let refined = round_of witness_ltoi r.curr_ray r.ldir r.proj r.max_bound r.last_chance in
      cond (finite witness_ltoi && gt witness_ltoi r.ltoi) (cond (beyond k witness_ltoi) (Ok None) (impact k refined)) (impact k r)

  -- `result(simplex, simplex.dimension() == DIM)`
  abbrev pub last_chance_by : Search → Round → Result Witnesses WouldPanic → Cast
  last_chance_by k r (Ok w) = witnessed k r w.point1 w.point2
  last_chance_by k r (Err e) = Err e

  unfoldable pub last_chance : Search → VoronoiSimplex → Round → Cast
  last_chance k s r = last_chance_by k r (result_of f s (eqb s.dim 3))

  -- ---- `match query::details::ray_toi_with_halfspace(support_point.point, dir, &curr_ray)`

  -- a new lower bound: `ldir = dir; ltoi += t`, and the origin moves, the simplex with it
  unfoldable pub lowered : Search → VoronoiSimplex → Round → Vec3 → Float → Turn
  lowered k s r dir t =
      let ltoi = ◌⊕◌ f r.ltoi t in
      let shift = scale_v f r.curr_ray.dir t in
      let curr_ray = ray_of (add_v f r.curr_ray.origin shift) r.curr_ray.dir in
      -- `simplex.modify_pnts(&|pt| pt.translate_mut(-shift))`, which is never refused here (`moved-done` of proofs/Simplices.antt)
      let moved = (modify_pnts f s (neg_v shift)).simplex in
      cond (beyond k ltoi) (ended_with s (Ok None)) (onward_with moved (round_of ltoi curr_ray dir r.proj (largest f) false))

  abbrev pub clipped_at : Search → VoronoiSimplex → Round → Vec3 → Float → Option Float → Turn
  clipped_at k s r dir along (Some t) = cond (lt along zero_f && gt t zero_f) (lowered k s r dir t) (onward_with s r)
  clipped_at k s r dir along None = cond (gt along (eps_tol f)) (ended_with s (Ok None)) (onward_with s r)

  unfoldable pub clipped : Search → VoronoiSimplex → Round → Vec3 → Vertex → Turn
  clipped k s r dir support = clipped_at k s r dir (dot_v f dir r.curr_ray.dir) (ray_toi_with_halfspace f support.point dir r.curr_ray)

  -- ---- from `if last_chance` to the end of the loop's body

  -- `-dir.dot(support_point.point - curr_ray.origin)`
  unfoldable pub min_bound_of : Round → Vec3 → Vertex → Float
  min_bound_of r dir support = Ieee.neg (dot_v f dir (sub_v f support.point r.curr_ray.origin))

  -- `if last_chance`, `assert!(min_bound.is_finite())`, `if max_bound - min_bound <= _eps_rel * max_bound`
  unfoldable pub bounded : Search → VoronoiSimplex → Round → Float → Turn
  bounded k s r min_bound =
      cond r.last_chance (ended_with s (Ok None))
      (cond (not (finite min_bound)) (ended_with s (Err would_panic))
      (cond (le (◌⊖◌ f r.max_bound min_bound) (◌⊗◌ f k.eps_rel r.max_bound)) (ended_with s (Ok None))
      (onward_with s r)))

  -- `let _ = simplex.add_point(support_point.translate(-curr_ray.origin))`
  abbrev pub added_by : VoronoiSimplex → Result Bool WouldPanic → Round → Turn
  added_by s (Ok b) r = onward_with s r
  added_by s (Err e) r = ended_with s (Err e)

  unfoldable pub added : VoronoiSimplex → Round → Vertex → Turn
  added s r support =
      let t = add_point f s (translate_vertex f support (neg_v r.curr_ray.origin)) in
      added_by t.simplex t.answer r

  -- `if simplex.dimension() == DIM`
  unfoldable pub solid : Search → Round → Float → Vertex → Cast
  solid k r min_bound support =
      let scale = larger (length_v f support.point) (length_v f r.curr_ray.origin) in
      cond (ge min_bound (◌⊗◌ f (eps_tol f) (larger scale one_f))) (Ok None) (impact k r)

  -- `proj = simplex.project_origin_and_reduce()`
  abbrev pub reduced_to : Search → VoronoiSimplex → Result Projected WouldPanic → Round → Float → Vertex → Turn
  reduced_to k s (Ok p) r min_bound support =
      cond (eqb s.dim 3) (ended_with s (solid k r min_bound support))
      (onward_with s (round_of r.ltoi r.curr_ray r.ldir p.point r.max_bound r.last_chance))
  reduced_to k s (Err e) r min_bound support = ended_with s (Err e)

  unfoldable pub reduced : Search → VoronoiSimplex → Round → Float → Vertex → Turn
  reduced k s r min_bound support = let t = project_origin_and_reduce f s in reduced_to k t.simplex t.projection r min_bound support

  -- ---- one turn of the loop

  -- from `if last_chance && ltoi > 0.0` on
  unfoldable pub probed : Search → VoronoiSimplex → Round → Vec3 → Vertex → Turn
  probed k s r dir support =
      cond (r.last_chance && gt r.ltoi zero_f) (ended_with s (last_chance k s r))
      (clipped k s r dir support ▷ λ s₁ r₁.
      bounded k s₁ r₁ (min_bound_of r₁ dir support) ▷ λ s₂ r₂.
      added s₂ r₂ support ▷ λ s₃ r₃.
      reduced k s₃ r₃ (min_bound_of r₁ dir support) support)

  -- the first acceptance: `if dist > _eps_tol { .. } else { return Some((ltoi / ray_length, ldir)) }`
  unfoldable pub turn_of : Search → VoronoiSimplex → Round → Turn
  turn_of k s r =
      let unit = normalize_and_length_v f (neg_v r.proj) in
      let dir = unit.normalized in
      let dist = unit.length in
      let stuck = ge dist r.max_bound in
      cond (gt dist (eps_tol f)) (probed k s (upper_bound r dist stuck) dir (support_point k r dir stuck)) (ended_with s (impact k r))

  -- ---- the rounds: n are left, and at none `if niter == 100 { return None }`
  unfoldable pub run_of : Search → ℕ → VoronoiSimplex → Round → Cast
  run_of k zero s r = Ok None
  run_of k (suc n) s r = let t = turn_of k s r in after (run_of k n) t.simplex t.next

  -- ---- what stands before the loop
  abbrev pub start_at : Ray → VoronoiSimplex → Result Projected WouldPanic → Turn
  start_at ray s (Ok p) = onward_with s (round_of zero_f ray (neg_v ray.dir) p.point (largest f) false)
  start_at ray s (Err e) = ended_with s (Err e)

  unfoldable pub start_of : Search → Turn
  start_of k =
      let curr_ray = ray_of k.ray.origin (div_v f k.ray.dir k.ray_length) in
      let support = k.supp (neg_v curr_ray.dir) in
      let s = (reset_simplex new_simplex (translate_vertex f support (neg_v curr_ray.origin))).simplex in
      let t = project_origin_and_reduce f s in
      start_at curr_ray t.simplex t.projection

-- `minkowski_ray_cast`
unfoldable pub minkowski_ray_cast : Format → (Vec3 → Vertex) → Ray → Float → Cast
minkowski_ray_cast f supp ray max_time =
    let ray_length = length_v f ray.dir in
    let k : Search = record { supp = supp; ray = ray; max_time = max_time; ray_length = ray_length; eps_rel = root f (eps_tol f) } in
    let t = start_of f k in
    cond (is_zero f ray_length) (Ok None) (after (run_of f k 100) t.simplex t.next)
