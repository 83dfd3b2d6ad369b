-- The turns of a run are never spent: within 107 one ends it (`always-ends`), so that 107 give what any larger number gives (`enough`), for any format, support function and simplex.
-- A turn that goes on is a round, of which the hundredth ends the run, or it leaves the projection and the bound alone (`Step`). Then the bound doesn't fall in the next
-- turn, which takes one of six perturbations or ends. So `left`, the rounds, the perturbations and one turn before a perturbation that are left, falls at each turn.
-- `niter` starts at 0 and rises by one, so that it is below 100 in each turn (`few-first`, `few-after`): the test for the hundredth wants this. Of what the code carries its type says it.
use Prim.Native.Nat.{ℕ, zero, suc, ◌+◌, ◌-◌, ◌*◌, ◌≤◌, ◌<◌}
use mathlib.Core.Path.{◌≡◌, refl, sym, ap, ◌∙◌}
use mathlib.Core.Bool.{Bool, true, false, not, ◌&&◌, ◌||◌, cond}
use native.Mathlib.Omega.{arith}
use borrow.Author.Tests.{ltb-true, eqb-false}
use lib.Dec.{T, ltb, eqb, eqb_refl}
use lib.Ieee as Ieee
use lib.Ieee.{Float, nan, inf, fin, Format, up, down, below, level, lt, le, eq}
use lib.Ieee.Scale.{finite}
use Rattle.number.specs.Constants.{eps_tol}
use Rattle.number.specs.Root.{root}
use Rattle.std.specs.Prelude.{Option, Some, None, Result, Ok, Err}
use Rattle.refusal.specs.declared.WouldPanic.{WouldPanic}
use Rattle.refusal.specs.Refusal.{would_panic}
use Rattle.vector.specs.declared.vec3.Vec3.{Vec3}
use Rattle.vector.specs.Vector.{zero_f, neg_v, dot_v, length_v, try_normalize_v, normalize_and_length_v, ◌⊖◌, ◌⊗◌}
use Rattle.shape.specs.declared.vertex.Vertex.{Vertex}
use Rattle.simplex.specs.declared.voronoi_simplex.VoronoiSimplex.{VoronoiSimplex}
use Rattle.simplex.specs.Operations.{add_point}
use Rattle.reduction.specs.Reduction.{Projected, project_origin_and_reduce}
use Rattle.gjk.specs.declared.rounds.GJKResult.{GJKResult}
use Rattle.gjk.specs.declared.rounds.GJKResult.TheVariants.{Intersection}
use Rattle.gjk.specs.Perturbed.{perturbed_dir}
use Rattle.gjk.specs.Gjk.{Search, Round, Next, Onward, Ended, Turn, onward_with, ended_with, goes_on, over, ◌▷◌, after, bounded_by, perturbed_round, bettered, round_after, touching, first_round, start_in, start_at, start_of}
use Rattle.gjk.specs.Gjk.{directed, stagnated, asserted, bounded, stalled, added_by, added, reduced_to, reduced, probed, turn_of, run_of, finished_by, closest_within, closest_points}

-- ---- a turn that ends doesn't go on
no_end : {A : Type 0} (x : Result GJKResult WouldPanic) (r : Round) → Ended x ≡ Onward r → A
no_end x r h = let z : ◌≡◌ {A = ℕ} 0 1 = cc in absurd (omega arith)

-- ---- a number above another compares with itself
self : (d e : Float) → lt e d ≡ true → le d d ≡ true
unfolding lt le eq
self nan nan h = h
self nan (inf s) h = h
self nan (fin s m e) h = h
self (inf true) e h = refl
self (inf false) e h = refl
self (fin s m e) d h = alike s (m * up e * down e)
  where
    either : (t u : Bool) → T u → t || (u && true) ≡ true
    either true u h = refl
    either false true h = refl
    either false false h = absurd h

    alike : (s : Bool) (a : ℕ) → below s a s a || level s a s a ≡ true
    alike true a = either (ltb a a) (eqb a a) (eqb_refl a)
    alike false a = either (ltb a a) (eqb a a) (eqb_refl a)

-- ---- how a turn goes on: the round stands as it is and a perturbation is left, or it is the next round
data Step (r q : Round) : Type 0 where
  stood : q ≡ r → r.nb_perturbs < 6 → Step r q
  went : (r.niter + 1 ≡ 100 → ⊥) → q.niter ≡ r.niter + 1 → q.nb_perturbs ≡ r.nb_perturbs → Step r q

-- ---- `niter` stays below 100
not_last : (n : ℕ) → n < 100 → (n + 1 ≡ 100 → ⊥) → n < 99
not_last n h l = omega arith

few-still : (r q : Round) → r.niter < 100 → Step r q → q.niter < 100
few-still r q h (stood e _) = rw e h
few-still r q h (went l i b) = omega (arith, not_last r.niter h l)

-- ---- the first round has none before it
first_round_lem : (f : Format) (s : VoronoiSimplex) (r : Round) → (start_of f s).next ≡ Onward r → (r.niter ≡ 0) × (r.nb_perturbs ≡ 0)
unfolding start_of first_round
first_round_lem f s r h = let t = project_origin_and_reduce f s in go t.simplex t.projection h
  where
    within : (s : VoronoiSimplex) (proj : Vec3) (d : Option Vec3) → (start_in f s proj d).next ≡ Onward r → (r.niter ≡ 0) × (r.nb_perturbs ≡ 0)
    within s proj (Some d) h =
        let same : first_round f proj d ≡ r = cc in
        (sym (ap (λ (q : Round). q.niter) same), sym (ap (λ (q : Round). q.nb_perturbs) same))
    within s proj None h = no_end (Ok Intersection) r h

    go : (s : VoronoiSimplex) (p : Result Projected WouldPanic) → (start_at f s p).next ≡ Onward r → (r.niter ≡ 0) × (r.nb_perturbs ≡ 0)
    go s (Ok p) h = within s p.point (try_normalize_v f p.point) h
    go s (Err e) h = no_end (Err e) r h

pub few-first : (f : Format) (s : VoronoiSimplex) (r : Round) → (start_of f s).next ≡ Onward r → r.niter < 100
few-first f s r h = omega (arith, (first_round_lem f s r h).0)

module _ (f : Format) (k : Search) where
  stalled-step : (s : VoronoiSimplex) (r q : Round) (dir : Vec3) → (stalled f k s r dir).next ≡ Onward q → Step r q
  unfolding stalled
  stalled-step s r q dir h = go (lt zero_f r.best_min_bound) (touching f k r) (ltb r.nb_perturbs 6) _ _ _ refl h
    where
      go : (b t p : Bool) (x y z : Result GJKResult WouldPanic) → ltb r.nb_perturbs 6 ≡ p → (cond b (ended_with s x) (cond t (ended_with s y) (cond p (onward_with s r) (ended_with s z)))).next ≡ Onward q → Step r q
      go true t p x y z e h = no_end x q h
      go false true p x y z e h = no_end y q h
      go false false true x y z e h = stood (cc) (ltb-true r.nb_perturbs 6 e)
      go false false false x y z e h = no_end z q h

  reduced-step : (s : VoronoiSimplex) (p : Result Projected WouldPanic) (r q : Round) (dir : Vec3) (m : Float) → (reduced_to f k s p r dir m).next ≡ Onward q → Step r q
  unfolding round_after
  reduced-step s (Err e) r q dir m h = no_end _ q h
  reduced-step s (Ok p) r q dir m h = go (eqb s.dim 3) (le (eps_tol f) m) (eqb (r.niter + 1) 100) _ _ _ refl h
    where
      go : (d b l : Bool) (x y z : Result GJKResult WouldPanic) → eqb (r.niter + 1) 100 ≡ l → (cond d (cond b (ended_with s x) (ended_with s y)) (cond l (ended_with s z) (onward_with s (round_after r p.point dir)))).next ≡ Onward q → Step r q
      go true true l x y z e h = no_end x q h
      go true false l x y z e h = no_end y q h
      go false b true x y z e h = no_end z q h
      go false b false x y z e h =
          let same : round_after r p.point dir ≡ q = cc in
          went (eqb-false (r.niter + 1) 100 e) (sym (ap (λ (t : Round). t.niter) same)) (sym (ap (λ (t : Round). t.nb_perturbs) same))

  -- from the new vertex on
  grown : Float → Vertex → VoronoiSimplex → Round → Vec3 → Turn
  grown m v s r dir = added f k s r dir v ▷ λ s₁ r₁ dir₁. reduced f k s₁ r₁ dir₁ m

  added-step : (s : VoronoiSimplex) (a : Result Bool WouldPanic) (r q : Round) (dir : Vec3) (m : Float) → (added_by f k s a r dir ▷ λ s₁ r₁ dir₁. reduced f k s₁ r₁ dir₁ m).next ≡ Onward q → Step r q
  unfolding reduced
  added-step s (Ok true) r q dir m h = let t = project_origin_and_reduce f s in reduced-step t.simplex t.projection r q dir m h
  added-step s (Ok false) r q dir m h = stalled-step s r q dir h
  added-step s (Err e) r q dir m h = no_end _ q h

  bounded-step : (s : VoronoiSimplex) (r q : Round) (dir : Vec3) (m : Float) (v : Vertex) → (bounded f k s r dir m ▷ grown m v).next ≡ Onward q → Step r q
  unfolding bounded grown added
  bounded-step s r q dir m v h =
      go (lt k.max_dist m) (not k.exact && lt zero_f m && le r.max_bound k.max_dist)
      (le (◌⊖◌ f r.max_bound m) (◌⊗◌ f k.eps_rel r.max_bound)) _ _ _ h
    where
      go : (a b c : Bool) (x y z : Result GJKResult WouldPanic) → (cond a (over (ended_with s x)) (cond b (over (ended_with s y)) (cond c (over (ended_with s z)) (goes_on s r dir))) ▷ grown m v).next ≡ Onward q → Step r q
      go true b c x y z h = no_end x q h
      go false true c x y z h = no_end y q h
      go false false true x y z h = no_end z q h
      go false false false x y z h = let t = add_point f s v in added-step t.simplex t.answer r q dir m h

  -- what a probe goes on from: the round with the bounds of the new vertex
  probed-step : (s : VoronoiSimplex) (r q : Round) (dir : Vec3) → (probed f k s r dir).next ≡ Onward q → (m l : Float) × Step (bettered r m l) q
  unfolding probed asserted grown
  probed-step s r q dir h =
      let v = k.supp dir in
      let m = Ieee.neg (dot_v f dir v.point) in
      (m, length_v f v.point, go (finite m) m v h)
    where
      go : (b : Bool) (m : Float) (v : Vertex) → (cond b (goes_on s r dir) (over (ended_with s (Err would_panic))) ▷ λ s₁ r₁ dir₁. bounded f k s₁ (bettered r₁ m (length_v f v.point)) dir₁ m ▷ grown m v).next ≡ Onward q → Step (bettered r m (length_v f v.point)) q
      go true m v h = bounded-step s (bettered r m (length_v f v.point)) q dir m v h
      go false m v h = no_end (Err would_panic) q h

  -- a turn whose bound doesn't fall takes a perturbation
  stagnated-step : (s : VoronoiSimplex) (r q : Round) (dir : Vec3) → (stagnated f k s r dir ▷ probed f k).next ≡ Onward q → (r.nb_perturbs < 6) × ((m l : Float) × Step (bettered (perturbed_round r) m l) q)
  unfolding stagnated
  stagnated-step s r q dir h = go (lt zero_f r.best_min_bound) (touching f k r) (ltb r.nb_perturbs 6) _ _ _ refl h
    where
      go : (b t p : Bool) (x y z : Result GJKResult WouldPanic) → ltb r.nb_perturbs 6 ≡ p → (cond b (over (ended_with s x)) (cond t (over (ended_with s y)) (cond p (goes_on s (perturbed_round r) (perturbed_dir f dir (r.nb_perturbs + 1))) (over (ended_with s z)))) ▷ probed f k).next ≡ Onward q → (r.nb_perturbs < 6) × ((m l : Float) × Step (bettered (perturbed_round r) m l) q)
      go true t p x y z e h = no_end x q h
      go false true p x y z e h = no_end y q h
      go false false true x y z e h = (ltb-true r.nb_perturbs 6 e, probed-step s (perturbed_round r) q (perturbed_dir f dir (r.nb_perturbs + 1)) h)
      go false false false x y z e h = no_end z q h

  -- ---- what is left of a run
  dist : Round → Float
  dist r = (normalize_and_length_v f (neg_v r.proj)).length

  -- whether the bound doesn't fall in the next turn
  stuck : Round → Bool
  stuck r = le r.max_bound (dist r)

  one : Bool → ℕ
  one true = 0
  one false = 1

  left : Round → ℕ
  left r = 99 - r.niter + (6 - r.nb_perturbs) + one (stuck r)

  one-most : (b : Bool) → one b ≤ 1
  unfolding one
  one-most true = omega arith
  one-most false = omega arith

  -- a round that stands as it is, but for its bounds and perturbations, doesn't lower the bound
  stands : (r q : Round) → lt (eps_tol f) (dist r) ≡ true → q.max_bound ≡ dist r → q.proj ≡ r.proj → one (stuck q) ≡ 0
  unfolding stuck dist one
  stands r q l b p = ap one (ap (λ (v : Vec3). le q.max_bound (normalize_and_length_v f (neg_v v)).length) p ∙ ap (λ (m : Float). le m (dist r)) b ∙ self (dist r) (eps_tol f) l)

  stuck-less : (r q : Round) → r.niter < 100 → (m n : Float) → lt (eps_tol f) (dist r) ≡ true → r.nb_perturbs < 6 → Step (bettered (perturbed_round (bounded_by r (dist r))) m n) q → left q < 99 - r.niter + (6 - r.nb_perturbs)
  unfolding left bettered perturbed_round bounded_by
  stuck-less r q w m n l p (stood e _) = rw e (omega (arith, stands r (bettered (perturbed_round (bounded_by r (dist r))) m n) l refl refl))
  stuck-less r q w m n l p (went t i b) =
      let round : q.niter ≡ r.niter + 1 = i in
      let perturbed : q.nb_perturbs ≡ r.nb_perturbs + 1 = b in
      let early : r.niter < 99 = not_last r.niter w t in
      omega (arith, one-most (stuck q))

  free-less : (r q : Round) → r.niter < 100 → (m n : Float) → lt (eps_tol f) (dist r) ≡ true → Step (bettered (bounded_by r (dist r)) m n) q → left q < 99 - r.niter + (6 - r.nb_perturbs) + 1
  unfolding left bettered bounded_by
  free-less r q w m n l (stood e _) = rw e (omega (arith, stands r (bettered (bounded_by r (dist r)) m n) l refl refl))
  free-less r q w m n l (went t i b) =
      let round : q.niter ≡ r.niter + 1 = i in
      let perturbed : q.nb_perturbs ≡ r.nb_perturbs = b in
      let early : r.niter < 99 = not_last r.niter w t in
      omega (arith, one-most (stuck q))

  -- at each turn that goes on, less is left, and `niter` stays below 100
  falls : (s : VoronoiSimplex) (r q : Round) → r.niter < 100 → (turn_of f k s r).next ≡ Onward q → (left q < left r) × (q.niter < 100)
  unfolding turn_of directed bettered perturbed_round bounded_by left stuck dist one
  falls s r q w h = go (lt (eps_tol f) (dist r)) refl h
    where
      dir : Vec3
      dir = (normalize_and_length_v f (neg_v r.proj)).normalized

      next : Round
      next = bounded_by r (dist r)

      on : (u : Bool) → lt (eps_tol f) (dist r) ≡ true → (cond u (stagnated f k s next dir) (goes_on s next dir) ▷ probed f k).next ≡ Onward q → (left q < 99 - r.niter + (6 - r.nb_perturbs) + one u) × (q.niter < 100)
      on true l h = let p = stagnated-step s next q dir h in (omega (arith, stuck-less r q w p.1.0 p.1.1 l p.0 p.1.2), few-still _ q w p.1.2)
      on false l h = let p = probed-step s next q dir h in (free-less r q w p.0 p.1 l p.2, few-still _ q w p.2)

      go : (t : Bool) → lt (eps_tol f) (dist r) ≡ t → (cond t (goes_on s next dir) (over (ended_with s (Ok Intersection))) ▷ λ s₁ r₁ dir₁. cond (le r.max_bound r₁.max_bound) (stagnated f k s₁ r₁ dir₁) (goes_on s₁ r₁ dir₁) ▷ probed f k).next ≡ Onward q → (left q < left r) × (q.niter < 100)
      go true l h = on (stuck r) l h
      go false l h = no_end (Ok Intersection) q h

  -- so a run with more turns than are left has turns to spare
  spare : (n m : ℕ) (s : VoronoiSimplex) (r : Round) → r.niter < 100 → left r < n → n ≤ m → run_of f k m s r ≡ run_of f k n s r
  unfolding run_of after
  spare zero m s r w h l = absurd (omega arith)
  spare (suc n) zero s r w h l = absurd (omega arith)
  spare (suc n) (suc m) s r w h l =
      go (turn_of f k s r).simplex (turn_of f k s r).next (λ q e. let p = falls s r q w e in spare n m (turn_of f k s r).simplex q p.1 (omega (arith, p.0)) (omega arith))
    where
      go : (t : VoronoiSimplex) (x : Next) → ((q : Round) → x ≡ Onward q → run_of f k m t q ≡ run_of f k n t q) → after (run_of f k m) t x ≡ after (run_of f k n) t x
      go t (Ended x) e = refl
      go t (Onward q) e = e q refl

  -- the first round has all before it
  starts : (s : VoronoiSimplex) (r : Round) → (start_of f s).next ≡ Onward r → left r < 107
  unfolding left
  starts s r h = omega (arith, one-most (stuck r), (first_round_lem f s r h).0, (first_round_lem f s r h).1)

  pub few-after : (s : VoronoiSimplex) (r q : Round) → r.niter < 100 → (turn_of f k s r).next ≡ Onward q → q.niter < 100
  few-after s r q w h = (falls s r q w h).1

  -- a run of at most n turns comes to one that ends it
  pub data Ends : ℕ → VoronoiSimplex → Round → Type 0 where
    last : {n : ℕ} {s : VoronoiSimplex} {r : Round} (x : Result GJKResult WouldPanic) → (turn_of f k s r).next ≡ Ended x → Ends (suc n) s r
    further : {n : ℕ} {s : VoronoiSimplex} {r : Round} (q : Round) → (turn_of f k s r).next ≡ Onward q → Ends n (turn_of f k s r).simplex q → Ends (suc n) s r

  ended_by : (n : ℕ) (s : VoronoiSimplex) (r : Round) (x : Next) → (turn_of f k s r).next ≡ x → ((q : Round) → (turn_of f k s r).next ≡ Onward q → Ends n (turn_of f k s r).simplex q) → Ends (suc n) s r
  ended_by n s r (Ended x) e more = last x e
  ended_by n s r (Onward q) e more = further q e (more q e)

  ends-within : (n : ℕ) (s : VoronoiSimplex) (r : Round) → r.niter < 100 → left r < n → Ends n s r
  ends-within zero s r w h = absurd (omega arith)
  ends-within (suc n) s r w h =
      ended_by n s r (turn_of f k s r).next refl (λ q e. let p = falls s r q w e in ends-within n (turn_of f k s r).simplex q p.1 (omega (arith, p.0)))

  -- the loop ends within 107 turns, by a turn of its own
  pub always-ends : (s : VoronoiSimplex) (r : Round) → (start_of f s).next ≡ Onward r → Ends 107 (start_of f s).simplex r
  always-ends s r h = ends-within 107 (start_of f s).simplex r (few-first f s r h) (starts s r h)

-- 107 turns are enough: any more give the same
pub enough : (turns : ℕ) → 107 ≤ turns → (f : Format) (supp : Vec3 → Vertex) (max_dist : Float) (exact : Bool) (s : VoronoiSimplex) → closest_within turns f supp max_dist exact s ≡ closest_points f supp max_dist exact s
unfolding closest_within closest_points after
enough turns l f supp max_dist exact s =
    let k : Search = record { supp = supp; max_dist = max_dist; exact = exact; eps_rel = root f (eps_tol f) } in
    ap (finished_by s) (go k (start_of f s).simplex (start_of f s).next (λ r e. (starts f k s r e, few-first f s r e)))
  where
    go : (k : Search) (t : VoronoiSimplex) (x : Next) → ((r : Round) → x ≡ Onward r → (left f k r < 107) × (r.niter < 100)) → after (run_of f k turns) t x ≡ after (run_of f k 107) t x
    go k t (Ended x) h = refl
    go k t (Onward r) h = let p = h r refl in spare f k 107 turns t r p.1 p.0 l
