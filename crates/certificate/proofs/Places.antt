-- What a hull's first corner and the rest say of all of its corners, and the numbers from a place on of all numbers. Assumes nothing.
use Prim.Native.Nat.{ℕ, suc, ◌+◌, ◌-◌, ◌≤◌, ◌<◌}
use mathlib.Core.Path.{◌≡◌, refl, sym, ap, ◌∙◌}
use mathlib.Core.Bool.{Bool, true, false, ◌&&◌, and_assoc}
use mathlib.Core.List.{List, [], ◌∷◌}
use native.Mathlib.Nat.{le_refl}
use native.Mathlib.Numerals.{add-one}
use native.Mathlib.Omega.{arith}
use lib.IntN.{ℤ, pos}
use lib.ListN.{length, take, drop, get_or, drop_of_length-le}
use lib.Seq.{drop-cons, take_all}
use Rattle.std.specs.Int.{int_max}
use Rattle.certificate.specs.declared.GridVector.{GridVector}
use Rattle.certificate.specs.Certificate.{every, corners, on_grid, vector_on_grid, product, above, separated}
use Rattle.certificate.proofs.Tests.{split, join}
use Rattle.certificate.proofs.Order.{greatest-decides}

-- ---- numbers, one by one
every-step : (t : ℤ → Bool) (l : List ℤ) (i : ℕ) → i < length l → every t (drop i l) ≡ t (get_or l i (pos 0)) && every t (drop (i + 1) l)
unfolding every
every-step t l i h = rw (add-one, drop-cons l i (pos 0))

pub every-fails : (t : ℤ → Bool) (l : List ℤ) (i : ℕ) → i < length l → t (get_or l i (pos 0)) ≡ false → every t (drop i l) ≡ false
every-fails t l i h e = every-step t l i h ∙ rw e

pub every-passes : (t : ℤ → Bool) (l : List ℤ) (i : ℕ) → i < length l → t (get_or l i (pos 0)) ≡ true → every t (drop i l) ≡ every t (drop (i + 1) l)
every-passes t l i h e = every-step t l i h ∙ rw e

pub every-end : (t : ℤ → Bool) (l : List ℤ) (i : ℕ) → length l ≤ i → every t (drop i l) ≡ true
unfolding every
every-end t l i h = rw (drop_of_length-le l h)

-- ---- the first three numbers, and the others
abbrev pub first_corner : List ℤ → GridVector
first_corner l = record { x = get_or l 0 (pos 0); y = get_or l 1 (pos 0); z = get_or l 2 (pos 0) }

abbrev pub others : List ℤ → List ℤ
others l = take (length l - 3) (drop 3 l)

-- what three numbers and more say
pub record Parts (l : List ℤ) : Type 0 where
  pub corners : corners l ≡ first_corner l ∷ corners (others l)
  pub corner_on_grid : every on_grid l ≡ true → vector_on_grid (first_corner l) ≡ true
  pub others_on_grid : every on_grid l ≡ true → every on_grid (others l) ≡ true

pub parts : (l : List ℤ) → 3 ≤ length l → Parts l
unfolding corners every vector_on_grid
parts [] h = absurd (let k : 3 ≤ 0 = h in let n : ⊥ = omega arith in n)
parts (x ∷ []) h = absurd (let k : 3 ≤ 1 = h in let n : ⊥ = omega arith in n)
parts (x ∷ y ∷ []) h = absurd (let k : 3 ≤ 2 = h in let n : ⊥ = omega arith in n)
parts (x ∷ y ∷ z ∷ l) h =
    let few : suc (suc (suc (length l))) - 3 ≡ length l = omega arith in
    let all : take (suc (suc (suc (length l))) - 3) l ≡ l = ap (λ (k : ℕ). take k l) few ∙ take_all (length l) l (le_refl (length l)) in
    record {
      corners = ap (λ (r : List ℤ). record { x = x; y = y; z = z } ∷ corners r) (sym all);
      corner_on_grid = λ e.
          let one = split (on_grid x) (every on_grid (y ∷ z ∷ l)) e in
          let two = split (on_grid y) (every on_grid (z ∷ l)) one.1 in
          join (join one.0 two.0) (split (on_grid z) (every on_grid l) two.1).0;
      others_on_grid = λ e.
          let one = split (on_grid x) (every on_grid (y ∷ z ∷ l)) e in
          let two = split (on_grid y) (every on_grid (z ∷ l)) one.1 in
          ap (every on_grid) all ∙ (split (on_grid z) (every on_grid l) two.1).1;
    }

pub few-corners : (l : List ℤ) → length l ≤ 2 → corners l ≡ []
unfolding corners
few-corners [] h = refl
few-corners (x ∷ []) h = refl
few-corners (x ∷ y ∷ []) h = refl
few-corners (x ∷ y ∷ z ∷ l) h = absurd (let k : suc (suc (suc (length l))) ≤ 2 = h in let n : ⊥ = omega arith in n)

-- a test of all corners: of the first, and of the rest
module _ (t : GridVector → Bool) where
  pub no-corner-left : {all : List GridVector} → all ≡ [] → every t all ≡ true
  unfolding every
  no-corner-left e = ap (every t) e

  module _ {all : List GridVector} {c : GridVector} {rest : List GridVector} (parts : all ≡ c ∷ rest) where
    pub corner-fails : t c ≡ false → every t all ≡ false
    unfolding every
    corner-fails e = ap (every t) parts ∙ rw e

    pub corner-passes : t c ≡ true → every t all ≡ every t rest
    unfolding every
    corner-passes e = ap (every t) parts ∙ rw e

-- ---- the first hull, corner by corner
module _ (d : GridVector) (second : List GridVector) where
  pub separated-end : {all : List GridVector} → all ≡ [] → separated d all second ≡ true
  unfolding every separated
  separated-end e = ap (λ (first : List GridVector). separated d first second) e

  module _ {all : List GridVector} {c : GridVector} {rest : List GridVector} (parts : all ≡ c ∷ rest) where
    pub separated-step : separated d all second ≡ every (above d (product d c)) second && separated d rest second
    unfolding every separated
    separated-step = ap (λ (first : List GridVector). separated d first second) parts

    -- the greater of `top` and the first corner's product says of the second hull what both say
    pub step : (top : ℤ) → every (above d (int_max top (product d c))) second && separated d rest second ≡ every (above d top) second && separated d all second
    step top =
        let one = every (above d top) second in
        ap (λ (b : Bool). b && separated d rest second) (greatest-decides d top (product d c) second)
        ∙ and_assoc one (every (above d (product d c)) second) (separated d rest second)
        ∙ ap (λ (b : Bool). one && b) (sym separated-step)
