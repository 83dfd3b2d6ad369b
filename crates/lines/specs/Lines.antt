-- The lines of output (document 01, "Case file and vote"), as lists of bytes, over any format. Definitions only.
use Rattle.std.specs.Prelude.{ℕ, ◌/◌, List, [], ◌∷◌, ◌++◌, Float, Option, Some, None}
use Rattle.std.specs.Float.{Format, binary32, binary64}
use Rattle.std.specs.Float.Ieee.{to_bits}
use Rattle.vector.specs.Vector.{zero_v}
use Rattle.vector.specs.declared.vec3.Vec3.{Vec3}
use Rattle.lines.specs.Text.{hex_of, decimal_of}
use Rattle.counts.specs.Counts.{no_counts}
use Rattle.counts.specs.declared.Counts.{Counts}
use Rattle.lines.specs.declared.line.Outcome.{Outcome}
use Rattle.lines.specs.declared.line.Outcome.TheVariants.{ClosestPoints, Proximity, NoIntersection, Penetration, NoAnswer, Panic, NoPlace}

-- ---- parts, each with a space before it

-- a word's digits, eight of 32 bits and sixteen of 64
abbrev pub word_text : Format → ℕ → List ℕ
word_text binary32 n = hex_of n
word_text binary64 n = hex_of (n / 0x1_0000_0000) ++ hex_of n

-- a float, by its bits; `to_bits` gives every NaN as one, of f32 7FC00000
unfoldable pub float_text : Format → Float → List ℕ
float_text f x = 32 ∷ word_text f (to_bits f x)

unfoldable pub vector_text : Format → Vec3 → List ℕ
vector_text f v = float_text f v.x ++ float_text f v.y ++ float_text f v.z

unfoldable pub three_text : Format → Vec3 → Vec3 → Vec3 → List ℕ
three_text f a b c = vector_text f a ++ vector_text f b ++ vector_text f c

unfoldable pub count_text : ℕ → List ℕ
count_text n = 32 ∷ decimal_of n

unfoldable pub counts_text : Counts → List ℕ
counts_text c = count_text c.expansions ++ count_text c.made ++ count_text c.live ++ count_text c.edges ++ count_text c.missed

-- ---- by the outcome

-- D M S P N X R
abbrev pub letter_of : Outcome → ℕ
letter_of (ClosestPoints a b n) = 68
letter_of (Proximity v) = 77
letter_of (NoIntersection v) = 83
letter_of (Penetration a b n c) = 80
letter_of (NoAnswer c) = 78
letter_of Panic = 88
letter_of (NoPlace c) = 82

-- nine floats, three, or none
unfoldable pub floats_text_of : Format → Outcome → List ℕ
floats_text_of f (ClosestPoints a b n) = three_text f a b n
floats_text_of f (Proximity v) = vector_text f v
floats_text_of f (NoIntersection v) = vector_text f v
floats_text_of f (Penetration a b n c) = three_text f a b n
floats_text_of f (NoAnswer c) = []
floats_text_of f Panic = []
floats_text_of f (NoPlace c) = []

-- the five counts end the lines of P, N and R
unfoldable pub counts_text_of : Outcome → List ℕ
counts_text_of (ClosestPoints a b n) = []
counts_text_of (Proximity v) = []
counts_text_of (NoIntersection v) = []
counts_text_of (Penetration a b n c) = counts_text c
counts_text_of (NoAnswer c) = counts_text c
counts_text_of Panic = []
counts_text_of (NoPlace c) = counts_text c

-- document 01's number of each case: 0 for an answer, and 1, 2 and 3 for the refusals
abbrev pub outcome_number : Outcome → ℕ
outcome_number (ClosestPoints a b n) = 0
outcome_number (Proximity v) = 0
outcome_number (NoIntersection v) = 0
outcome_number (Penetration a b n c) = 0
outcome_number (NoAnswer c) = 1
outcome_number Panic = 2
outcome_number (NoPlace c) = 3

-- and its values: two points, and the normal or the direction; zeros where it has none, and of a run its counts
pub record Values : Type 0 where
  pub point1 : Vec3
  pub point2 : Vec3
  pub normal : Vec3
  pub counts : Counts

abbrev pub values : Vec3 → Vec3 → Vec3 → Counts → Values
values p1 p2 n c = record { point1 = p1; point2 = p2; normal = n; counts = c }

unfoldable pub outcome_values : Outcome → Values
outcome_values (ClosestPoints a b n) = values a b n no_counts
outcome_values (Proximity v) = values zero_v zero_v v no_counts
outcome_values (NoIntersection v) = values zero_v zero_v v no_counts
outcome_values (Penetration a b n c) = values a b n c
outcome_values (NoAnswer c) = values zero_v zero_v zero_v c
outcome_values Panic = values zero_v zero_v zero_v no_counts
outcome_values (NoPlace c) = values zero_v zero_v zero_v c

-- ---- lines

-- a record's: its number from 1, the letter, floats and counts
unfoldable pub line_of : Format → ℕ → Outcome → List ℕ
line_of f number o = decimal_of number ++ 32 ∷ [] ++ letter_of o ∷ [] ++ floats_text_of f o ++ counts_text_of o ++ 10 ∷ []

-- `separation 1`
unfoldable pub first_line : List ℕ
first_line = 115 ∷ 101 ∷ 112 ∷ 97 ∷ 114 ∷ 97 ∷ 116 ∷ 105 ∷ 111 ∷ 110 ∷ 32 ∷ 49 ∷ 10 ∷ []

-- `bad`, and an offset
unfoldable pub bad_line : ℕ → List ℕ
bad_line offset = 98 ∷ 97 ∷ 100 ∷ 32 ∷ [] ++ decimal_of offset ++ 10 ∷ []

-- `cases`, and how many records were finished
unfoldable pub last_line : ℕ → List ℕ
last_line n = 99 ∷ 97 ∷ 115 ∷ 101 ∷ 115 ∷ 32 ∷ [] ++ decimal_of n ++ 10 ∷ []

-- ---- for the private functions

-- what `put_counts` writes of the counts that `counts_of` found
unfoldable pub maybe_text : Option Counts → List ℕ
maybe_text (Some c) = counts_text c
maybe_text None = []
