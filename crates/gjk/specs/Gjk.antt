-- `closest_points` of src/query/gjk/gjk.rs, for any format f and any support function. Definitions only.
-- The loop's body in the Rust's order: `directed`, `stagnated`, `asserted`, `bounded`, `added`, `reduced`; `probed` and `turn_of` put them together. A part ends the turn, or goes on with
-- the simplex, what the loop carries (`Round`) and `dir` (`◌▷◌`). A turn, one pass through the body, ends the run with a result, or goes on with what the loop carries.
-- The turns are the fuel of `run_of`: fuel for 107 is never spent (proofs/Enough.antt). Where the Rust panics the result is refusal 2.
use Rattle.std.specs.Prelude.{ℕ, zero, suc, ◌+◌, Bool, true, false, not, ◌&&◌, cond, ltb, eqb, Float, Option, Some, None, Result, Ok, Err}
use Rattle.std.specs.Float.Ieee as Ieee
use Rattle.std.specs.Float.{Format}
use Rattle.std.specs.Float.Ieee.{le}
use Rattle.std.specs.Float.Ieee.Scale.{finite}
use Rattle.number.specs.Constants.{eps_tol, largest}
use Rattle.number.specs.Root.{root}
use Rattle.number.specs.Small.{gt, ge, larger}
use Rattle.refusal.specs.declared.WouldPanic.{WouldPanic}
use Rattle.refusal.specs.Refusal.{would_panic, number_or_panic}
use Rattle.vector.specs.declared.vec3.Vec3.{Vec3}
use Rattle.vector.specs.Vector.{zero_f, zero_v, x_v, neg_v, dot_v, length_v, try_normalize_v, normalize_and_length_v, ◌⊖◌, ◌⊗◌}
use Rattle.shape.specs.declared.vertex.Vertex.{Vertex}
use Rattle.shape.specs.Support.{from_shapes}
use Rattle.simplex.specs.declared.voronoi_simplex.VoronoiSimplex.{VoronoiSimplex}
use Rattle.simplex.specs.Operations.{add_point}
use Rattle.reduction.specs.Reduction.{Projected, project_origin_and_reduce}
use Rattle.witnesses.specs.declared.Witnesses.{Witnesses}
use Rattle.witnesses.specs.Witnesses.{result_of}
use Rattle.gjk.specs.declared.rounds.GJKResult.{GJKResult}
use Rattle.gjk.specs.declared.rounds.GJKResult.TheVariants.{Intersection, ClosestPoints, Proximity, NoIntersection}
use Rattle.gjk.specs.declared.rounds.Gjk.{Gjk}
use Rattle.gjk.specs.declared.rounds.Query.{Query}
use Rattle.gjk.specs.Perturbed.{perturbed_dir}

-- ---- document 01's number of each result, 0 or refusal 2, and its values: letter D has two points and a direction, M and S a direction; what a result has not got is zeros
unfoldable pub gjk_number : Result GJKResult WouldPanic → ℕ
gjk_number r = number_or_panic r

pub record Values : Type 0 where
  pub p1 : Vec3
  pub p2 : Vec3
  pub dir : Vec3

abbrev pub values : Vec3 → Vec3 → Vec3 → Values
values p1 p2 d = record { p1 = p1; p2 = p2; dir = d }

abbrev pub result_values : GJKResult → Values
result_values Intersection = values zero_v zero_v zero_v
result_values (ClosestPoints p1 p2 d) = values p1 p2 d
result_values (Proximity d) = values zero_v zero_v d
result_values (NoIntersection d) = values zero_v zero_v d

unfoldable pub gjk_values : Result GJKResult WouldPanic → Values
gjk_values (Ok x) = result_values x
gjk_values (Err e) = values zero_v zero_v zero_v

-- ---- what a run is asked: the support points of the two shapes, the largest distance, the exact flag; and `_eps_rel`
pub record Search : Type 0 where
  pub supp : Vec3 → Vertex
  pub max_dist : Float
  pub exact : Bool
  pub eps_rel : Float

abbrev pub search_of : Format → Query → Search
search_of f q = record { supp = from_shapes f q.pos12 q.g1 q.g2; max_dist = q.max_dist; exact = q.exact_dist; eps_rel = q.eps_rel }

-- ---- what the loop carries from round to round, besides the simplex (specs/Carried.antt has what the code carries for it)
pub record Round : Type 0 where
  pub proj : Vec3
  pub old_dir : Vec3
  pub max_bound : Float
  pub best_min_bound : Float
  pub support_scale : Float
  pub nb_perturbs : ℕ
  pub niter : ℕ

-- ---- a turn of the loop ends the run, or goes on
pub data Next : Type 0 where
  Onward : Round → Next
  Ended : Result GJKResult WouldPanic → Next

pub record Turn : Type 0 where
  pub simplex : VoronoiSimplex
  pub next : Next

abbrev pub onward_with : VoronoiSimplex → Round → Turn
onward_with s r = record { simplex = s; next = Onward r }

abbrev pub ended_with : VoronoiSimplex → Result GJKResult WouldPanic → Turn
ended_with s x = record { simplex = s; next = Ended x }

-- a part of the loop's body goes on to the next part, with the simplex, what the loop carries and `dir`; or the turn is over, by the run's end or by the Rust's `continue`
pub data Part : Type 0 where
  goes_on : VoronoiSimplex → Round → Vec3 → Part
  over : Turn → Part

-- the next part, where the first goes on
infixr 10 ◌▷◌
abbrev pub ◌▷◌ : Part → (VoronoiSimplex → Round → Vec3 → Turn) → Turn
goes_on s r dir ▷ part = part s r dir
over t ▷ part = t

-- a turn's end is the run's, or the turns go on
unfoldable pub after : (VoronoiSimplex → Round → Gjk) → VoronoiSimplex → Next → Gjk
after go s (Onward r) = go s r
after go s (Ended x) = record { simplex = s; result = x }

-- ---- what the loop carries, and what becomes of it in the order of the loop's body
abbrev pub round_of : Vec3 → Vec3 → Float → Float → Float → ℕ → ℕ → Round
round_of proj old_dir max_bound best_min_bound support_scale nb_perturbs niter =
    record { proj = proj; old_dir = old_dir; max_bound = max_bound; best_min_bound = best_min_bound; support_scale = support_scale; nb_perturbs = nb_perturbs; niter = niter }

-- `max_bound = dist`
unfoldable pub bounded_by : Round → Float → Round
bounded_by r dist = round_of r.proj r.old_dir dist r.best_min_bound r.support_scale r.nb_perturbs r.niter

-- `nb_perturbs += 1`
unfoldable pub perturbed_round : Round → Round
perturbed_round r = round_of r.proj r.old_dir r.max_bound r.best_min_bound r.support_scale (r.nb_perturbs + 1) r.niter

-- `best_min_bound = best_min_bound.max(min_bound); support_scale = support_scale.max(cso_point.point.length())`
unfoldable pub bettered : Round → Float → Float → Round
bettered r min_bound length = round_of r.proj r.old_dir r.max_bound (larger r.best_min_bound min_bound) (larger r.support_scale length) r.nb_perturbs r.niter

-- `old_dir = dir; proj = simplex.project_origin_and_reduce(); .. niter += 1`
unfoldable pub round_after : Round → Vec3 → Vec3 → Round
round_after r proj dir = round_of proj dir r.max_bound r.best_min_bound r.support_scale r.nb_perturbs (r.niter + 1)

-- `MAX_PERTURBATIONS`: 2 * DIM
abbrev pub max_perturbations : ℕ
max_perturbations = 6

-- `ClosestPoints` of `result(simplex, prev)`
abbrev pub closest_at : Result Witnesses WouldPanic → Vec3 → Result GJKResult WouldPanic
closest_at (Ok w) dir = Ok (ClosestPoints w.point1 w.point2 dir)
closest_at (Err e) dir = Err e

module _ (f : Format) where
  -- ---- what ends a run
  unfoldable pub closest_by : VoronoiSimplex → Bool → Vec3 → Result GJKResult WouldPanic
  closest_by s prev dir = closest_at (result_of f s prev) dir

  -- `if exact_dist { ClosestPoints .. } else { Proximity .. }`
  unfoldable pub apart_by : Bool → VoronoiSimplex → Bool → Vec3 → Result GJKResult WouldPanic
  apart_by exact s prev dir = cond exact (closest_by s prev dir) (Ok (Proximity dir))

  -- `exact_dist && best_min_bound >= -_eps_rel * support_scale`
  unfoldable pub touching : Search → Round → Bool
  touching k r = k.exact && ge r.best_min_bound (◌⊗◌ f (Ieee.neg k.eps_rel) r.support_scale)

  -- ---- what stands before the loop: the first projection, `old_dir`, and the starting bounds
  unfoldable pub first_round : Vec3 → Vec3 → Round
  first_round proj proj_dir = round_of proj (neg_v proj_dir) (largest f) (Ieee.neg (largest f)) zero_f 0 0

  abbrev pub start_in : VoronoiSimplex → Vec3 → Option Vec3 → Turn
  start_in s proj (Some proj_dir) = onward_with s (first_round proj proj_dir)
  start_in s proj None = ended_with s (Ok Intersection)

  abbrev pub start_at : VoronoiSimplex → Result Projected WouldPanic → Turn
  start_at s (Ok p) = start_in s p.point (try_normalize_v f p.point)
  start_at s (Err e) = ended_with s (Err e)

  unfoldable pub start_of : VoronoiSimplex → Turn
  start_of s = let t = project_origin_and_reduce f s in start_at t.simplex t.projection

  -- ---- the parts of the loop's body

  -- `if dist > _eps_tol { dir = normalized; max_bound = dist; } else { return GJKResult::Intersection; }`
  unfoldable pub directed : VoronoiSimplex → Round → Part
  directed s r =
      let unit = normalize_and_length_v f (neg_v r.proj) in
      let dist = unit.length in
      cond (gt dist (eps_tol f)) (goes_on s (bounded_by r dist) unit.normalized) (over (ended_with s (Ok Intersection)))

  -- what stands in `if max_bound >= old_max_bound`
  unfoldable pub stagnated : Search → VoronoiSimplex → Round → Vec3 → Part
  stagnated k s r dir =
      cond (gt r.best_min_bound zero_f) (over (ended_with s (apart_by k.exact s true r.old_dir)))
      (cond (touching k r) (over (ended_with s (closest_by s true r.old_dir)))
      (cond (ltb r.nb_perturbs max_perturbations) (goes_on s (perturbed_round r) (perturbed_dir f dir (r.nb_perturbs + 1)))
      (over (ended_with s (Ok Intersection)))))

  -- `assert!(min_bound.is_finite())`
  unfoldable pub asserted : VoronoiSimplex → Round → Vec3 → Float → Part
  asserted s r dir min_bound = cond (finite min_bound) (goes_on s r dir) (over (ended_with s (Err would_panic)))

  -- `if min_bound > max_dist`, `else if !exact_dist && min_bound > 0.0 && max_bound <= max_dist`, `else if max_bound - min_bound <= _eps_rel * max_bound`
  unfoldable pub bounded : Search → VoronoiSimplex → Round → Vec3 → Float → Part
  bounded k s r dir min_bound =
      cond (gt min_bound k.max_dist) (over (ended_with s (Ok (NoIntersection dir))))
      (cond (not k.exact && gt min_bound zero_f && le r.max_bound k.max_dist) (over (ended_with s (Ok (Proximity r.old_dir))))
      (cond (le (◌⊖◌ f r.max_bound min_bound) (◌⊗◌ f k.eps_rel r.max_bound)) (over (ended_with s (apart_by k.exact s false dir)))
      (goes_on s r dir)))

  -- what stands in `if !simplex.add_point(cso_point)`: the run ends, or by `continue` the turn alone
  unfoldable pub stalled : Search → VoronoiSimplex → Round → Vec3 → Turn
  stalled k s r dir =
      cond (gt r.best_min_bound zero_f) (ended_with s (apart_by k.exact s false dir))
      (cond (touching k r) (ended_with s (closest_by s false dir))
      (cond (ltb r.nb_perturbs max_perturbations) (onward_with s r) (ended_with s (Ok Intersection))))

  abbrev pub added_by : Search → VoronoiSimplex → Result Bool WouldPanic → Round → Vec3 → Part
  added_by k s (Ok true) r dir = goes_on s r dir
  added_by k s (Ok false) r dir = over (stalled k s r dir)
  added_by k s (Err e) r dir = over (ended_with s (Err e))

  -- `simplex.add_point(cso_point)`
  unfoldable pub added : Search → VoronoiSimplex → Round → Vec3 → Vertex → Part
  added k s r dir cso_point = let t = add_point f s cso_point in added_by k t.simplex t.answer r dir

  -- `if simplex.dimension() == DIM`: the origin is inside, unless the bound says that it is not; else `niter += 1; if niter == 100`
  abbrev pub reduced_to : Search → VoronoiSimplex → Result Projected WouldPanic → Round → Vec3 → Float → Turn
  reduced_to k s (Ok p) r dir min_bound =
      cond (eqb s.dim 3)
      (cond (ge min_bound (eps_tol f)) (ended_with s (apart_by k.exact s true dir)) (ended_with s (Ok Intersection)))
      (cond (eqb (r.niter + 1) 100) (ended_with s (Ok (NoIntersection x_v))) (onward_with s (round_after r p.point dir)))
  reduced_to k s (Err e) r dir min_bound = ended_with s (Err e)

  -- `old_dir = dir; proj = simplex.project_origin_and_reduce()`, and what stands after it
  unfoldable pub reduced : Search → VoronoiSimplex → Round → Vec3 → Float → Turn
  reduced k s r dir min_bound = let t = project_origin_and_reduce f s in reduced_to k t.simplex t.projection r dir min_bound

  -- ---- one turn of the loop

  -- from `let cso_point = CsoPoint::from_shapes(pos12, g1, g2, dir)` on
  unfoldable pub probed : Search → VoronoiSimplex → Round → Vec3 → Turn
  probed k s r dir =
      let cso_point = k.supp dir in
      let min_bound = Ieee.neg (dot_v f dir cso_point.point) in
      asserted s r dir min_bound ▷ λ s₁ r₁ dir₁.
      bounded k s₁ (bettered r₁ min_bound (length_v f cso_point.point)) dir₁ min_bound ▷ λ s₂ r₂ dir₂.
      added k s₂ r₂ dir₂ cso_point ▷ λ s₃ r₃ dir₃.
      reduced k s₃ r₃ dir₃ min_bound

  -- the whole body, with `if max_bound >= old_max_bound`
  unfoldable pub turn_of : Search → VoronoiSimplex → Round → Turn
  turn_of k s r =
      let old_max_bound = r.max_bound in
      directed s r ▷ λ s₁ r₁ dir₁.
      cond (ge r₁.max_bound old_max_bound) (stagnated k s₁ r₁ dir₁) (goes_on s₁ r₁ dir₁) ▷
      probed k

  -- at most n turns; none is left only where n is too small
  unfoldable pub run_of : Search → ℕ → VoronoiSimplex → Round → Gjk
  run_of k zero s r = record { simplex = s; result = Ok (NoIntersection x_v) }
  run_of k (suc n) s r = let t = turn_of k s r in after (run_of k n) t.simplex t.next

-- refusal 2 hands the simplex back as it came in
unfoldable pub finished_by : VoronoiSimplex → Gjk → Gjk
finished_by given run = record { simplex = cond (eqb (gjk_number run.result) 2) given run.simplex; result = run.result }

-- `closest_points`, with the turns of its loop at most `turns`
unfoldable pub closest_within : ℕ → Format → (Vec3 → Vertex) → Float → Bool → VoronoiSimplex → Gjk
closest_within turns f supp max_dist exact s =
    let k : Search = record { supp = supp; max_dist = max_dist; exact = exact; eps_rel = root f (eps_tol f) } in
    let t = start_of f s in
    finished_by s (after (run_of f k turns) t.simplex t.next)

-- `closest_points`
unfoldable pub closest_points : Format → (Vec3 → Vertex) → Float → Bool → VoronoiSimplex → Gjk
closest_points f supp max_dist exact s = closest_within 107 f supp max_dist exact s
