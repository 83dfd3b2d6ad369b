-- What the tests of the operations tell: the parts of a joined test, and what a simplex has.
use mathlib.Core.Path.{◌≡◌, refl}
use mathlib.Core.Bool.{Bool, true, false, ◌&&◌, false≢true}
use Prim.Native.Nat.{ℕ, zero, suc, ◌≤◌, ◌<◌}
use native.Mathlib.Omega.{arith}
use borrow.Author.Tests.{ltb-true, leb-true}
use lib.Dec.{ltb, leb}
use lib.ListN.{get_or}
use Rattle.simplex.specs.declared.voronoi_simplex.VoronoiSimplex.{VoronoiSimplex}
use Rattle.simplex.specs.Simplex.{is_simplex}

both : (a b : Bool) → a && b ≡ true → (a ≡ true) × (b ≡ true)
both true true h = (refl, refl)
both true false h = absurd (false≢true h)
both false b h = absurd (false≢true h)

all_three : (a b c : Bool) → a && b && c ≡ true → (a ≡ true) × (b ≡ true) × (c ≡ true)
all_three a b c h =
    let ab-c = both (a && b) c h in
    let a-b = both a b ab-c.0 in
    (a-b.0, a-b.1, ab-c.1)

pub record Small (s : VoronoiSimplex) : Type 0 where
  pub dimension : s.dim ≤ 3
  pub previous : s.prev_dim ≤ 3
  pub place : (i : ℕ) → i < 4 → get_or s.prev_vertices i 0 ≤ 3

pub small : (s : VoronoiSimplex) → is_simplex s ≡ true → Small s
unfolding is_simplex
small s h =
    let places = s.prev_vertices in
    let p3 = both _ (leb (get_or places 3 0) 3) h in
    let p2 = both _ (leb (get_or places 2 0) 3) p3.0 in
    let p1 = both _ (leb (get_or places 1 0) 3) p2.0 in
    let d-p-p0 = all_three (leb s.dim 3) (leb s.prev_dim 3) (leb (get_or places 0 0) 3) p1.0 in
    record {
      dimension = leb-true _ _ d-p-p0.0;
      previous = leb-true _ _ d-p-p0.1;
      place = each (λ i. get_or places i 0) (leb-true _ _ d-p-p0.2) (leb-true _ _ p1.1) (leb-true _ _ p2.1) (leb-true _ _ p3.1);
    }
  where
    each : (at : ℕ → ℕ) → at 0 ≤ 3 → at 1 ≤ 3 → at 2 ≤ 3 → at 3 ≤ 3 → (i : ℕ) → i < 4 → at i ≤ 3
    each at h0 h1 h2 h3 zero l = h0
    each at h0 h1 h2 h3 (suc zero) l = h1
    each at h0 h1 h2 h3 (suc (suc zero)) l = h2
    each at h0 h1 h2 h3 (suc (suc (suc zero))) l = h3
    each at h0 h1 h2 h3 (suc (suc (suc (suc i)))) l = absurd (omega arith)

-- ---- the joined test of `add_point`

pub room : (s : VoronoiSimplex) → is_simplex s && ltb s.dim 3 ≡ true → s.dim < 3
room s h = ltb-true s.dim 3 (both (is_simplex s) (ltb s.dim 3) h).1
