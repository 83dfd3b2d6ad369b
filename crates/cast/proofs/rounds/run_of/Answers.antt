-- `run_of` returns the definition's `run_of` with 100 rounds. The invariant: the rounds that are left, run from here, give what all of them give from the start.
use Prim.Native.Nat.{ℕ, suc, ◌+◌, ◌-◌, ◌<◌, ◌≤◌}
use mathlib.Core.Path.{◌≡◌, ◌∙◌, sym, refl}
use native.Mathlib.Omega.{arith}
use lib.Ieee.{binary32}
use Rattle.std.specs.declared.ops.ControlFlow.TheVariants.{Continue, Break}
use Rattle.simplex.specs.declared.voronoi_simplex.VoronoiSimplex.{VoronoiSimplex}
use Rattle.cast.specs.declared.rounds.Round.{Round}
use Rattle.cast.specs.declared.rounds.Turn.{Turn}
use Rattle.cast.specs.Cast.{Cast, Search, turn_of, after, run_of}
use Rattle.cast.proofs.rounds.run_of.Goals as goal

left : (i : ℕ) → i < 100 → 100 - i ≡ suc (100 - (i + 1))
left i h = omega arith

-- a turn that goes on leaves one round less, and one that ends is the cast's end
goes_on : (k : Search) (i : ℕ) (s : VoronoiSimplex) (r q : Round) (t : Turn) → i < 100 → t ≡ turn_of binary32 k s r → t.next ≡ Continue q → run_of binary32 k (100 - (i + 1)) t.simplex q ≡ run_of binary32 k (100 - i) s r
unfolding run_of after
goes_on k i s r q t h e d = rw (left i h, ← e, d)

ends : (k : Search) (i : ℕ) (s : VoronoiSimplex) (r : Round) (t : Turn) (x : Cast) → i < 100 → t ≡ turn_of binary32 k s r → t.next ≡ Break x → x ≡ run_of binary32 k (100 - i) s r
unfolding run_of after
ends k i s r t x h e d = rw (left i h, ← e, d)

spent : (k : Search) (i : ℕ) (s : VoronoiSimplex) (r : Round) → 100 ≤ i → run_of binary32 k (100 - i) s r ≡ run_of binary32 k 0 s r
spent k i s r h = let z : 100 - i ≡ 0 = omega arith in rw z

pub loop-init : goal.loop-init
loop-init c = refl

pub returns-in-Break : goal.returns-in-Break
returns-in-Break c = ends _ _ _ _ _ _ c.loop-test.true c.turn_of-turn.ensures c.in-Break.is ∙ c.loop.invariant

pub loop-preserved : goal.loop-preserved
loop-preserved c = goes_on _ _ _ _ _ _ c.loop-test.true c.turn_of-turn.ensures c.in-Continue.is ∙ c.loop.invariant

pub returns : goal.returns
unfolding run_of
returns c = sym (spent _ _ _ _ c.loop-test.false) ∙ c.loop.invariant
