-- The silhouette store as a list of records, each a face number and a corner (document 01, "The silhouette store is a list of records"), and its first records as one row of numbers. Definitions only.
-- The row has places for 206 records, for a pass records at most 206 edges (document 01's demand 3). A store may be longer or shorter.
use Rattle.std.specs.Prelude.{◌≡◌, ℕ, ◌*◌, ◌≤◌, min, List, [], ◌∷◌, length, take, replicate}
use Rattle.edges.specs.declared.Edge.{Edge}
use Rattle.edges.specs.declared.Row.{Row}

abbrev pub edge : ℕ → ℕ → Edge
edge f c = record { face = f; corner = c }

-- the first list's elements in place of the second's first, as far as the second goes
unfoldable pub over : {A : Type 0} → List A → List A → List A
over [] ys = ys
over (x ∷ xs) [] = []
over (x ∷ xs) (y ∷ ys) = x ∷ over xs ys

-- ---- records as pairs of numbers: face, corner, face, corner, and so on

unfoldable pub pairs_of : List Edge → List ℕ
pairs_of [] = []
pairs_of (e ∷ es) = e.face ∷ e.corner ∷ pairs_of es

-- a single last number is no record
unfoldable pub records : List ℕ → List Edge
records [] = []
records (f ∷ []) = []
records (f ∷ c ∷ ps) = edge f c ∷ records ps

-- ---- a row

-- a store's first records, at most 206, and zeros after them
abbrev pub row_of : List Edge → Row
row_of es = record { pairs = over (pairs_of es) (replicate 412 0); n = min (length es) 206 }

-- all its places are there, and it tells no more records than have room
abbrev pub Whole : Row → Type 0
Whole r = (r.n ≤ 206) × (length r.pairs ≡ 412)

-- the records that a row holds, and their numbers
abbrev pub records_of : Row → List Edge
records_of r = take r.n (records r.pairs)

abbrev pub numbers_of : Row → List ℕ
numbers_of r = take (r.n * 2) r.pairs

-- they stand over the store's first; the store is as long as it was, and the places beyond are as they were
abbrev pub published : Row → List Edge → List Edge
published r es = over (records_of r) es
