-- A refusal at a vertex is the answer of all the loop.
use mathlib.Core.Path.{◌≡◌, ap}
use mathlib.Core.Bool.{Bool}
use Prim.Native.Nat.{ℕ, zero, suc, ◌+◌, ◌≤◌, ◌-◌}
use native.Mathlib.Omega.{arith}
use lib.Ieee.{Format}
use Rattle.std.specs.Prelude.{Err}
use Rattle.std.proofs.Math.Nat.{suc-add}
use Rattle.std.proofs.Math.Numerals.{add-one}
use Rattle.std.proofs.Common.{zero-add}
use Rattle.refusal.specs.declared.WouldPanic.{WouldPanic}
use Rattle.simplex.specs.declared.voronoi_simplex.VoronoiSimplex.{VoronoiSimplex}
use Rattle.witnesses.specs.Witnesses.{with_vertex, witnesses_to}

module _ (f : Format) (s : VoronoiSimplex) (prev : Bool) (e : WouldPanic) where
  later : (k d : ℕ) → witnesses_to f s prev k ≡ Err e → witnesses_to f s prev (d + k) ≡ Err e
  unfolding witnesses_to with_vertex
  later k zero h = rw zero-add h
  later k (suc d) h = rw (suc-add d k) (ap (with_vertex f s prev (d + k)) (later k d h))

  -- vertex i is refused, so all n are
  pub stays : (i n : ℕ) → i + 1 ≤ n → with_vertex f s prev i (witnesses_to f s prev i) ≡ Err e → witnesses_to f s prev n ≡ Err e
  unfolding witnesses_to
  stays i n l h =
      let here : witnesses_to f s prev (i + 1) ≡ Err e = rw add-one h in
      let all : witnesses_to f s prev (n - (i + 1) + (i + 1)) ≡ Err e = later (i + 1) (n - (i + 1)) here in
      let same : n - (i + 1) + (i + 1) ≡ n = omega arith in
      rw same at all
