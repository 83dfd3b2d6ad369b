-- What a run on a store's row is handed, and what it leaves in the store: its numbers as records over the first. Assumes nothing.
use mathlib.Core.Path.{◌≡◌, refl, sym, ap, ◌∙◌, subst}
use Prim.Native.Nat.{ℕ, ◌*◌, ◌≤◌}
use native.Mathlib.Nat.{min-eq_left}
use native.Mathlib.Omega.{arith}
use mathlib.Core.List.{List, [], ◌∷◌, ◌++◌}
use lib.ListN.{length, take, drop, length-take}
use Rattle.edges.specs.declared.Edge.{Edge}
use Rattle.edges.specs.declared.Row.{Row}
use Rattle.edges.specs.Edges.{over, records, Whole, row_of, numbers_of, published}
use Rattle.edges.proofs.Laws.{row-whole}
use Rattle.edges.proofs.Pairs.{records-take}

take-front : (k : ℕ) (xs ys : List ℕ) → length xs ≡ k → take k (xs ++ ys) ≡ xs
take-front k [] ys e = ap (λ (n : ℕ). take n ys) (sym e)
take-front k (x ∷ xs) ys e = ap (λ (n : ℕ). take n (x ∷ xs ++ ys)) (sym e) ∙ ap {B = List ℕ} (λ r. x ∷ r) (take-front (length xs) xs ys refl)

room : (r : Row) → Whole r → r.n * 2 ≤ length r.pairs
room r whole = omega (arith, whole.0, whole.1)

told : (r : Row) → Whole r → length (take (r.n * 2) r.pairs) ≡ r.n * 2
told r whole = length-take (r.n * 2) r.pairs ∙ min-eq_left (room r whole)

-- the row r of the store es: its numbers are handed over, and as many that are left come back as records
module _ (es : List Edge) (r : Row) (is : r ≡ row_of es) where
  pub handed : take (r.n * 2) r.pairs ≡ numbers_of (row_of es)
  handed = ap (λ (s : Row). take (s.n * 2) s.pairs) is

  pub back : (left : List ℕ) {fs : List Edge} → length left ≡ length (take (r.n * 2) r.pairs) → fs ≡ published record { pairs = left ++ drop (r.n * 2) r.pairs; n = r.n } es → fs ≡ over (records left) es
  back left same leaves =
      let whole = subst Whole (sym is) (row-whole es) in
      let rest = drop (r.n * 2) r.pairs in
      leaves ∙ ap (λ (rs : List Edge). over rs es) (records-take r.n (left ++ rest) ∙ ap records (take-front (r.n * 2) left rest (same ∙ told r whole)))
