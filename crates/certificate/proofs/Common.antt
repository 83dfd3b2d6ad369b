-- The definitions of a hull's points are not empty: each corner is a point of its hull (`point`), and a corner of both hulls is a point of both (`common`), so that no direction is accepted then (`never-accepted`). Assumes nothing.
use Prim.Native.Nat.{ℕ, zero, suc}
use mathlib.Core.Path.{◌≡◌, refl, sym, ap, ◌∙◌}
use mathlib.Core.List.{List, [], ◌∷◌, Memᴰ}
use native.Mathlib.Omega.{arith}
use lib.IntN.{ℤ, pos, ◌+ℤ◌, ◌*ℤ◌, +ℤ_idl, +ℤ_idr, zero-*ℤ, suc_ℤ-*ℤ}
use lib.ListN.{length}
use Rattle.certificate.specs.declared.GridVector.{GridVector}
use Rattle.std.specs.Prelude.{Ok}
use Rattle.certificate.specs.Certificate.{corners, certify}
use Rattle.certificate.specs.Hulls.{total, weighted, HullPoint, SameAlong, SamePoint}
use Rattle.certificate.proofs.Apart.{apart}

one-times : (k : ℤ) → pos 1 *ℤ k ≡ k
one-times k = suc_ℤ-*ℤ (pos zero) k ∙ ap (λ (x : ℤ). x +ℤ k) (zero-*ℤ k) ∙ +ℤ_idl k

-- ---- no weight at all
none : List GridVector → List ℕ
none [] = []
none (c ∷ cs) = 0 ∷ none cs

none-length : (cs : List GridVector) → length (none cs) ≡ length cs
unfolding none
none-length [] = refl
none-length (c ∷ cs) = ap suc (none-length cs)

none-total : (cs : List GridVector) → total (none cs) ≡ 0
unfolding none total
none-total [] = refl
none-total (c ∷ cs) = let e : total (none cs) ≡ 0 = none-total cs in omega arith

none-weighted : (g : GridVector → ℤ) (cs : List GridVector) → weighted g (none cs) cs ≡ pos 0
unfolding none weighted
none-weighted g [] = refl
none-weighted g (c ∷ cs) = ap (λ (x : ℤ). x +ℤ weighted g (none cs) cs) (zero-*ℤ (g c)) ∙ +ℤ_idl (weighted g (none cs) cs) ∙ none-weighted g cs

-- ---- weight one at a corner
only : (cs : List GridVector) {c : GridVector} → Memᴰ c cs → List ℕ
only [] m = elim m [ ]
only (x ∷ cs) (Memᴰ.head e) = 1 ∷ none cs
only (x ∷ cs) (Memᴰ.tail m) = 0 ∷ only cs m

only-length : (cs : List GridVector) {c : GridVector} (m : Memᴰ c cs) → length (only cs m) ≡ length cs
unfolding only
only-length [] m = elim m [ ]
only-length (x ∷ cs) (Memᴰ.head e) = ap suc (none-length cs)
only-length (x ∷ cs) (Memᴰ.tail m) = ap suc (only-length cs m)

only-total : (cs : List GridVector) {c : GridVector} (m : Memᴰ c cs) → total (only cs m) ≡ 1
unfolding only total
only-total [] m = elim m [ ]
only-total (x ∷ cs) (Memᴰ.head e) = let z : total (none cs) ≡ 0 = none-total cs in omega arith
only-total (x ∷ cs) (Memᴰ.tail m) = let z : total (only cs m) ≡ 1 = only-total cs m in omega arith

only-weighted : (g : GridVector → ℤ) (cs : List GridVector) {c : GridVector} (m : Memᴰ c cs) → weighted g (only cs m) cs ≡ g c
unfolding only weighted
only-weighted g [] m = elim m [ ]
only-weighted g (x ∷ cs) (Memᴰ.head e) = ap (λ (k : ℤ). pos 1 *ℤ g x +ℤ k) (none-weighted g cs) ∙ +ℤ_idr (pos 1 *ℤ g x) ∙ one-times (g x) ∙ ap g (sym e)
only-weighted g (x ∷ cs) (Memᴰ.tail m) = ap (λ (k : ℤ). k +ℤ weighted g (only cs m) cs) (zero-*ℤ (g x)) ∙ +ℤ_idl (weighted g (only cs m) cs) ∙ only-weighted g cs m

-- ---- corners as points
pub point : (cs : List GridVector) {c : GridVector} → Memᴰ c cs → HullPoint cs
point cs m = record { weights = only cs m; one_each = only-length cs m; positive = let e : total (only cs m) ≡ 1 = only-total cs m in omega arith }

module _ (first second : List GridVector) {c : GridVector} (m : Memᴰ c first) (n : Memᴰ c second) where
  along : (g : GridVector → ℤ) → SameAlong g (point first m) (point second n)
  unfolding point
  along g = rw (only-total first m, only-total second n, only-weighted g first m, only-weighted g second n)

  pub common : SamePoint (point first m) (point second n)
  common = record { same_x = along (λ (v : GridVector). v.x); same_y = along (λ (v : GridVector). v.y); same_z = along (λ (v : GridVector). v.z) }

pub never-accepted : (first second : List ℤ) (d : GridVector) {c : GridVector} → Memᴰ c (corners first) → Memᴰ c (corners second) → certify first second d ≡ Ok tt → ⊥
never-accepted first second d m n e = apart first second d e (point (corners first) m) (point (corners second) n) (common (corners first) (corners second) m n)
