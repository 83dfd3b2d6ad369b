-- `run_of` returns the definition's `run_of` with 107 turns. The invariant: the turns that are left, run from here, give what all of them give from the start.
use Prim.Native.Nat.{ℕ, suc, ◌+◌, ◌-◌, ◌<◌, ◌≤◌}
use mathlib.Core.Path.{◌≡◌, ◌∙◌, sym, refl}
use native.Mathlib.Omega.{arith}
use lib.Ieee.{binary32, of_bits}
use Rattle.std.specs.Prelude.{Result, Ok, Err}
use Rattle.vector.specs.Vector.{x_v}
use Rattle.simplex.specs.declared.voronoi_simplex.VoronoiSimplex.{VoronoiSimplex}
use Rattle.simplex.specs.declared.operations.Added.{Added}
use Rattle.simplex.specs.Operations.{add_point}
use Rattle.gjk.specs.declared.carried.Carried.{Carried}
use Rattle.gjk.specs.declared.rounds.Ending.{Ending}
use Rattle.gjk.specs.declared.rounds.Sight.{Sight}
use Rattle.gjk.specs.declared.rounds.Turn.{Turn}
use Rattle.gjk.specs.Gjk.{Search, Round, ◌▷◌, added, added_by, reduced, turn_of, after, run_of}
use Rattle.gjk.specs.Carried.{round_by, result_by, ran_by, next_by, turn_by, seen_by}
use Rattle.gjk.proofs.rounds.run_of.Goals as goal

left : (i : ℕ) → i < 107 → 107 - i ≡ suc (107 - (i + 1))
left i h = omega arith

-- what is seen ends the run, or a vertex is added and the turn goes on with it
sight-ends : (k : Search) (i : ℕ) (s : VoronoiSimplex) (r : Round) (t : Result Sight Ending) (x : Ending) → i < 107 → seen_by binary32 k s t ≡ turn_of binary32 k s r → t ≡ Err x → ran_by binary32 (record { simplex = s; ending = x }) ≡ run_of binary32 k (107 - i) s r
unfolding run_of after seen_by
sight-ends k i s r t x h e d = rw (left i h, ← e, d)

adds : (k : Search) (s : VoronoiSimplex) (r : Round) (t : Result Sight Ending) (q : Sight) (a : Added) (u : Turn) → seen_by binary32 k s t ≡ turn_of binary32 k s r → t ≡ Ok q → a ≡ add_point binary32 s q.cso_point
    → turn_by binary32 u ≡ (added_by binary32 k a.simplex a.answer (round_by binary32 q.round) q.dir ▷ λ s₁ r₁ dir₁. reduced binary32 k s₁ r₁ dir₁ q.min_bound) → turn_by binary32 u ≡ turn_of binary32 k s r
unfolding seen_by added
adds k s r t q a u e is was turns = simp (← e, is, ← was, turns)

-- a turn that goes on leaves one turn less, and one that ends is the run's end
goes_on : (k : Search) (i : ℕ) (s : VoronoiSimplex) (r : Round) (q : Carried) (t : Turn) → i < 107 → turn_by binary32 t ≡ turn_of binary32 k s r → t.next ≡ Ok q → run_of binary32 k (107 - (i + 1)) t.simplex (round_by binary32 q) ≡ run_of binary32 k (107 - i) s r
unfolding run_of after turn_by next_by
goes_on k i s r q t h e d = rw (left i h, ← e, d)

ends : (k : Search) (i : ℕ) (s : VoronoiSimplex) (r : Round) (t : Turn) (x : Ending) → i < 107 → turn_by binary32 t ≡ turn_of binary32 k s r → t.next ≡ Err x → ran_by binary32 (record { simplex = t.simplex; ending = x }) ≡ run_of binary32 k (107 - i) s r
unfolding run_of after turn_by next_by
ends k i s r t x h e d = rw (left i h, ← e, d)

spent : (k : Search) (i : ℕ) (s : VoronoiSimplex) (r : Round) → 107 ≤ i → run_of binary32 k (107 - i) s r ≡ run_of binary32 k 0 s r
spent k i s r h = let z : 107 - i ≡ 0 = omega arith in rw z

pub loop-init : goal.loop-init
loop-init c = refl

pub returns-in-Err : goal.returns-in-Err
returns-in-Err c = sight-ends _ _ _ _ _ _ c.loop-test.true (c.sight_of.ensures _) c.in-Err.is ∙ c.loop.invariant

pub returns-in-Err-next : goal.returns-in-Err-next
returns-in-Err-next c =
    ends _ _ _ _ _ _ c.loop-test.true (adds _ _ _ _ _ _ _ (c.sight_of.ensures _) c.in-Ok.is c.add_point-added.ensures.answer c.added_turn-turn.ensures) c.in-Err-next.is ∙ c.loop.invariant

pub loop-preserved : goal.loop-preserved
loop-preserved c =
    goes_on _ _ _ _ _ _ c.loop-test.true (adds _ _ _ _ _ _ _ (c.sight_of.ensures _) c.in-Ok.is c.add_point-added.ensures.answer c.added_turn-turn.ensures) c.in-Ok-next.is ∙ c.loop.invariant

pub returns : goal.returns
unfolding run_of result_by x_v of_bits
returns c = sym (spent _ _ _ _ c.loop-test.false) ∙ c.loop.invariant
