-- `over`, one list written over another: what a loop that writes one element in each turn needs, and what the crate's laws are made of. Assumes nothing.
--     over-next        writing element i goes from i elements to i + 1
--     over-enough      elements beyond the store's end make no difference.        take_short, take_all     neither does `take` beyond the list's own
--     over-some        so a loop that stops where the list, the row or the store ends has written all
--     over-front       a store's first elements, written over, and its others
--     over-is          where all have room, it is the first list and what the second has beyond.        take-over, drop-over     the first places, and those beyond
use mathlib.Core.Path.{◌≡◌, refl, sym, ap, ◌∙◌, subst}
use Prim.Native.Nat.{ℕ, zero, suc, ◌+◌, ◌<◌, ◌≤◌, min}
use native.Mathlib.Nat.{not-suc-le-zero, le_of_suc-le-suc, suc-min-suc, zero-min, min-zero, min-le_right, le_of_eq}
use native.Mathlib.Numerals.{add-one}
use mathlib.Core.List.{List, [], ◌∷◌, ◌++◌}
use lib.ListN.{length, get_or, set, take, drop, length-take}
use Rattle.std.proofs.lemmas.List.{take-append-drop}
use Rattle.edges.specs.Edges.{over}

module _ {A : Type 0} where
  -- ---- the first of a list
  pub take_all : (k : ℕ) (xs : List A) → length xs ≤ k → take k xs ≡ xs
  take_all zero [] few = refl
  take_all zero (x ∷ xs) few = absurd (not-suc-le-zero few)
  take_all (suc k) [] few = refl
  take_all (suc k) (x ∷ xs) few = ap {B = List A} (λ r. x ∷ r) (take_all k xs (le_of_suc-le-suc few))

  take_min : (a b : ℕ) (xs : List A) → take (min a b) xs ≡ take b (take a xs)
  take_min a zero xs = ap (λ (k : ℕ). take k xs) (min-zero a)
  take_min zero (suc b) xs = ap (λ (k : ℕ). take k xs) (zero-min (suc b))
  take_min (suc a) (suc b) [] = ap (λ (k : ℕ). take k []) (suc-min-suc a b)
  take_min (suc a) (suc b) (x ∷ xs) = ap (λ (k : ℕ). take k (x ∷ xs)) (suc-min-suc a b) ∙ ap {B = List A} (λ r. x ∷ r) (take_min a b xs)

  pub take_short : (m : ℕ) (xs : List A) → take (min (length xs) m) xs ≡ take m xs
  take_short m xs = take_min (length xs) m xs ∙ ap (take m) (take_all (length xs) xs (le_of_eq refl))

  pub drop-short : (m : ℕ) (xs : List A) → drop (min (length xs) m) xs ≡ drop m xs
  drop-short zero [] = ap (λ (k : ℕ). drop {A = A} k []) (min-zero 0)
  drop-short zero (x ∷ xs) = ap (λ (k : ℕ). drop k (x ∷ xs)) (min-zero (suc (length xs)))
  drop-short (suc m) [] = ap (λ (k : ℕ). drop {A = A} k []) (zero-min (suc m))
  drop-short (suc m) (x ∷ xs) = ap (λ (k : ℕ). drop k (x ∷ xs)) (suc-min-suc (length xs) m) ∙ drop-short m xs

  -- ---- what is written over a list
  pub length_over : (xs ys : List A) → length (over xs ys) ≡ length ys
  unfolding over
  length_over [] ys = refl
  length_over (x ∷ xs) [] = refl
  length_over (x ∷ xs) (y ∷ ys) = ap suc (length_over xs ys)

  next : (i : ℕ) (xs ys : List A) (d : A) → i < length xs → set (over (take i xs) ys) i (get_or xs i d) ≡ over (take (suc i) xs) ys
  unfolding over
  next i [] ys d within = absurd (not-suc-le-zero within)
  next zero (x ∷ xs) [] d within = refl
  next zero (x ∷ xs) (y ∷ ys) d within = refl
  next (suc i) (x ∷ xs) [] d within = refl
  next (suc i) (x ∷ xs) (y ∷ ys) d within = ap {B = List A} (λ r. x ∷ r) (next i xs ys d (le_of_suc-le-suc within))

  pub over-next : (i : ℕ) (xs ys : List A) (d : A) → i < length xs → set (over (take i xs) ys) i (get_or xs i d) ≡ over (take (i + 1) xs) ys
  over-next i xs ys d within = next i xs ys d within ∙ ap (λ (k : ℕ). over (take k xs) ys) (sym (add-one i))

  pub over-enough : (k : ℕ) (xs ys : List A) → length ys ≤ k → over (take k xs) ys ≡ over xs ys
  unfolding over
  over-enough zero [] ys few = refl
  over-enough zero (x ∷ xs) [] few = refl
  over-enough zero (x ∷ xs) (y ∷ ys) few = absurd (not-suc-le-zero few)
  over-enough (suc k) [] ys few = refl
  over-enough (suc k) (x ∷ xs) [] few = refl
  over-enough (suc k) (x ∷ xs) (y ∷ ys) few = ap {B = List A} (λ r. x ∷ r) (over-enough k xs ys (le_of_suc-le-suc few))

  -- of a list of m elements k are told, and a store has room for some
  pub over-some : (k m : ℕ) (xs ys : List A) → length xs ≡ m → over (take (min (min k m) (length ys)) xs) ys ≡ over (take k xs) ys
  over-some k m xs ys is =
      ap (λ (zs : List A). over zs ys) (take_min (min k m) (length ys) xs) ∙ over-enough (length ys) (take (min k m) xs) ys (le_of_eq refl)
      ∙ ap (λ (zs : List A). over zs ys) (take_min k m xs ∙ take_all m (take k xs) (subst (λ (j : ℕ). j ≤ m) (sym (length-take k xs)) (subst (λ (j : ℕ). min k (length xs) ≤ j) is (min-le_right k (length xs)))))

  -- what is written over the first n elements, and the others
  pub over-front : (n : ℕ) (xs ys : List A) → over xs (take n ys) ++ drop n ys ≡ over (take n xs) ys
  unfolding over
  over-front zero [] ys = refl
  over-front zero (x ∷ xs) ys = refl
  over-front (suc n) [] ys = take-append-drop (suc n) ys
  over-front (suc n) (x ∷ xs) [] = refl
  over-front (suc n) (x ∷ xs) (y ∷ ys) = ap {B = List A} (λ r. x ∷ r) (over-front n xs ys)

  -- nothing is written
  pub over_none : (ys : List A) → over [] ys ≡ ys
  unfolding over
  over_none ys = refl

  -- a list over itself
  pub over-same : (k : ℕ) (ys : List A) → over (take k ys) ys ≡ ys
  unfolding over
  over-same zero ys = refl
  over-same (suc k) [] = refl
  over-same (suc k) (y ∷ ys) = ap {B = List A} (λ r. y ∷ r) (over-same k ys)

  -- where all have room
  pub over-is : (xs ys : List A) → length xs ≤ length ys → over xs ys ≡ xs ++ drop (length xs) ys
  unfolding over
  over-is [] ys few = refl
  over-is (x ∷ xs) [] few = absurd (not-suc-le-zero few)
  over-is (x ∷ xs) (y ∷ ys) few = ap {B = List A} (λ r. x ∷ r) (over-is xs ys (le_of_suc-le-suc few))

  -- the first places are what is written
  pub take-over : (k : ℕ) (xs ys : List A) → k ≤ length xs → k ≤ length ys → take k (over xs ys) ≡ take k xs
  unfolding over
  take-over zero xs ys few room = refl
  take-over (suc k) [] ys few room = absurd (not-suc-le-zero few)
  take-over (suc k) (x ∷ xs) [] few room = absurd (not-suc-le-zero room)
  take-over (suc k) (x ∷ xs) (y ∷ ys) few room = ap {B = List A} (λ r. x ∷ r) (take-over k xs ys (le_of_suc-le-suc few) (le_of_suc-le-suc room))

  -- what is beyond is what was there
  pub drop-over : (k : ℕ) (xs ys : List A) → length xs ≤ k → drop k (over xs ys) ≡ drop k ys
  unfolding over
  drop-over k [] ys few = refl
  drop-over zero (x ∷ xs) ys few = absurd (not-suc-le-zero few)
  drop-over (suc k) (x ∷ xs) [] few = refl
  drop-over (suc k) (x ∷ xs) (y ∷ ys) few = drop-over k xs ys (le_of_suc-le-suc few)
