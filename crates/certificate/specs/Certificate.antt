-- Ticket 12, the checker: when a direction is accepted as proof that two hulls are apart, and which refusal is given otherwise. Over whole numbers of any size, exactly. Definitions only.
use Rattle.std.specs.Prelude.{ℕ, ◌/◌, ◌%◌, Bool, true, cond, ◌&&◌, List, [], ◌∷◌, eqb, leb, ℤ, nat_abs, ◌+ℤ◌, ◌*ℤ◌, length, Result, Ok, Err}
use Rattle.std.specs.Int.Signed.{lt_z}
use Rattle.certificate.specs.declared.GridVector.{GridVector}
use Rattle.certificate.specs.declared.Declined.{Declined}
use Rattle.certificate.specs.declared.Declined.TheVariants.{BadLength, OutOfRange, NotSeparated}

-- whether each element of a list passes a test
unfoldable pub every : {A : Type 0} → (A → Bool) → List A → Bool
every t [] = true
every t (x ∷ l) = t x && every t l

-- ---- lengths and ranges

-- as many numbers as 1 to 64 corners have, three each
unfoldable pub is_hull : ℕ → Bool
is_hull n = eqb (n % 3) 0 && leb 1 (n / 3) && leb (n / 3) 64

-- from -1,048,576 to 1,048,576
unfoldable pub on_grid : ℤ → Bool
on_grid n = leb (nat_abs n) 1_048_576

unfoldable pub vector_on_grid : GridVector → Bool
vector_on_grid v = on_grid v.x && on_grid v.y && on_grid v.z

-- ---- corners and products

-- the corners of a hull: three numbers each; one or two that are left over make none
unfoldable pub corners : List ℤ → List GridVector
corners (x ∷ y ∷ z ∷ rest) = record { x = x; y = y; z = z } ∷ corners rest
corners (x ∷ y ∷ []) = []
corners (x ∷ []) = []
corners [] = []

unfoldable pub product : GridVector → GridVector → ℤ
product d c = d.x *ℤ c.x +ℤ d.y *ℤ c.y +ℤ d.z *ℤ c.z

-- a product strictly greater than n
unfoldable pub above : GridVector → ℤ → GridVector → Bool
above d n c = lt_z n (product d c)

-- every corner of the first has a strictly smaller product with the direction than every corner of the second
unfoldable pub separated : GridVector → List GridVector → List GridVector → Bool
separated d first second = every (λ (c : GridVector). every (above d (product d c)) second) first

-- ---- the checker: lengths first, then ranges, then products

unfoldable pub certify : List ℤ → List ℤ → GridVector → Result (Unit {0}) Declined
certify first second d =
    cond (is_hull (length first) && is_hull (length second))
    (cond (every on_grid first && every on_grid second && vector_on_grid d)
    (cond (separated d (corners first) (corners second)) (Ok tt) (Err NotSeparated))
    (Err OutOfRange))
    (Err BadLength)

-- the numbers of the answers: 0, and refusals 9, 10 and 11
unfoldable pub certificate_number : Result (Unit {0}) Declined → ℕ
certificate_number (Ok _) = 0
certificate_number (Err BadLength) = 9
certificate_number (Err OutOfRange) = 10
certificate_number (Err NotSeparated) = 11
