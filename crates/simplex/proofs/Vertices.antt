-- What is computed of the slice of the vertices that there are, told by the definitions, which go from place to place.
use mathlib.Core.Path.{◌≡◌, refl}
use mathlib.Core.Bool.{◌&&◌}
use Prim.Native.Nat.{ℕ, zero, suc, ◌≤◌, ◌<◌}
use native.Mathlib.Numerals.{add-one}
use native.Mathlib.Omega.{arith}
use lib.ListN.{length, take}
use mathlib.Core.List.{List, [], ◌∷◌}
use lib.Ieee.{Format, eq}
use Rattle.std.proofs.Math.Bool.{and_assoc}
use Rattle.std.specs.List.{list_any, fold, swap}
use Rattle.std.proofs.lemmas.List.{get_or_default}
use Rattle.std.proofs.lemmas.List.Folds.{list_any_more}
use Rattle.std.proofs.lemmas.List.Sums.{fold_more}
use Rattle.vector.specs.declared.vec3.Vec3.{Vec3}
use Rattle.vector.specs.Vector.{zero_f, equal_v}
use Rattle.shape.specs.declared.vertex.Vertex.{Vertex}
use Rattle.simplex.specs.declared.voronoi_simplex.VoronoiSimplex.{VoronoiSimplex}
use Rattle.simplex.specs.Simplex.{nowhere, exchanged, has_point, greater_sq_len, max_sq_len_of}

-- a vector compares equal as the derived `==` has it, joined from the right
pub equal_parts : (v w : Vec3) → equal_v v w ≡ eq v.x w.x && (eq v.y w.y && eq v.z w.z)
unfolding equal_v
equal_parts v w = and_assoc (eq v.x w.x) (eq v.y w.y) (eq v.z w.z)

-- the library's `swap`, of places that there are
pub swapped : {A : Type 0} (d : A) (l : List A) (i j : ℕ) → i < length l → j < length l → swap l i j ≡ exchanged d l i j
swapped d [] i j hi hj = absurd (omega arith)
swapped d (e ∷ l) i j hi hj = rw (get_or_default (e ∷ l) i e d hi, get_or_default (e ∷ l) j e d hj) refl

module _ (s : VoronoiSimplex) where
  pub any-has : (pt : Vec3) (n : ℕ) → n ≤ length s.vertices → list_any (λ (v : Vertex). equal_v v.point pt) (take n s.vertices) ≡ has_point s pt n
  unfolding has_point
  any-has pt zero h = refl
  any-has pt (suc n) h =
      rw (← add-one n, list_any_more (λ (v : Vertex). equal_v v.point pt) s.vertices n nowhere (omega arith), any-has pt n (omega arith)) refl

  pub fold-max : (f : Format) (n : ℕ) → n ≤ length s.vertices → fold (greater_sq_len f) zero_f (take n s.vertices) ≡ max_sq_len_of f s n
  unfolding max_sq_len_of
  fold-max f zero h = refl
  fold-max f (suc n) h =
      rw (← add-one n, fold_more (greater_sq_len f) zero_f s.vertices n nowhere (omega arith), fold-max f n (omega arith)) refl
