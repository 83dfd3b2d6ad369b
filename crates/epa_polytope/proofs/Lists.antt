-- Lists as the code reads and writes them: past the end, in a row, and by three. Assumes nothing.
use mathlib.Core.Path.{◌≡◌, refl, ap, ◌∙◌}
use mathlib.Core.List.{List, [], ◌∷◌, ◌++◌}
use Prim.Native.Nat.{ℕ, zero, suc, ◌+◌, ◌*◌, ◌%◌, ◌<◌, ◌≤◌}
use native.Mathlib.Nat.{not-suc-le-zero, le_of_suc-le-suc}
use native.Mathlib.Numerals.{add-one}
use native.Mathlib.Omega.{arith}
use lib.ListN.{length, get_or, set}
use lib.Seq.{sets}
use lib.Ieee.{Float}
use Rattle.epa_polytope.specs.Expansion.{blank}

-- what is read past the end
pub past {ℓ} : {A : Type ℓ} (l : List A) (i : ℕ) (d : A) → length l ≤ i → d ≡ get_or l i d
past [] i d h = refl
past (x ∷ l) zero d h = absurd (not-suc-le-zero h)
past (x ∷ l) (suc i) d h = past l i d (le_of_suc-le-suc h)

-- what an index within a list finds does not hang on the default
pub get_d_any : (l : List ℕ) (i a b : ℕ) → i < length l → get_or l i a ≡ get_or l i b
get_d_any [] i a b h = absurd (not-suc-le-zero h)
get_d_any (x ∷ l) zero a b h = refl
get_d_any (x ∷ l) (suc i) a b h = get_d_any l i a b (le_of_suc-le-suc h)

-- one list after another
pub sets-append {ℓ} : {A : Type ℓ} (l : List A) (i : ℕ) (xs ys : List A) → sets (sets l i xs) (i + length xs) ys ≡ sets l i (xs ++ ys)
sets-append l i [] ys = rw (native.Mathlib.Nat.add-zero i)
sets-append l i (x ∷ xs) ys =
    let e : i + suc (length xs) ≡ suc i + length xs = omega arith in
    rw e (sets-append (set l i x) (suc i) xs ys)

-- the next corner but k, of any number
pub next_one : (c : ℕ) → (c % 3 + 1) % 3 ≡ (c + 1) % 3
next_one c = omega arith

pub next-two : (c : ℕ) → (c % 3 + 2) % 3 ≡ (c + 2) % 3
next-two c = omega arith

-- two and three vectors in a row
pub sets-two : (l : List Float) (i : ℕ) (a b c d e f : Float) → sets (sets l i (a ∷ b ∷ c ∷ [])) (i + 3) (d ∷ e ∷ f ∷ []) ≡ sets l i (a ∷ b ∷ c ∷ d ∷ e ∷ f ∷ [])
sets-two l i a b c d e f = sets-append l i (a ∷ b ∷ c ∷ []) (d ∷ e ∷ f ∷ [])

pub sets-three : (l : List Float) (i : ℕ) (a b c d e f g h k : Float)
    → sets (sets (sets l i (a ∷ b ∷ c ∷ [])) (i + 3) (d ∷ e ∷ f ∷ [])) (i + 6) (g ∷ h ∷ k ∷ []) ≡ sets l i (a ∷ b ∷ c ∷ d ∷ e ∷ f ∷ g ∷ h ∷ k ∷ [])
sets-three l i a b c d e f g h k =
    ap (λ (m : List Float). sets m (i + 6) (g ∷ h ∷ k ∷ [])) (sets-two l i a b c d e f) ∙ sets-append l i (a ∷ b ∷ c ∷ d ∷ e ∷ f ∷ []) (g ∷ h ∷ k ∷ [])

-- one pair of places more is zero
pub blank-next : (i : ℕ) (l : List ℕ) → blank (i + 1) l ≡ set (set (blank i l) (i * 2) 0) (i * 2 + 1) 0
unfolding blank
blank-next i l = rw (add-one i)
