-- Records of a case file (document 01, "Case file and vote"): reading, number by number, what they stand for, and writing. Definitions only.
-- A record is shape kind (0 ball, 1 cuboid, 2 capsule, 3 triangle) and its 1, 3, 7 or 9 numbers; the same for the second; quaternion; translation; start
-- direction; largest distance; exact flag 0 or 1. Floats travel as their bits: of a NaN the word tells more than the float, so a record is read as words,
-- and the floats are made of them, in a format f. A word has at most five groups, as document 01 has it, whatever f is.
use Rattle.std.specs.Prelude.{ℕ, zero, suc, ◌+◌, Bool, cond, List, [], ◌∷◌, ◌++◌, length, get_or, take, leb, eqb, Float, Result, Ok, Err}
use Rattle.std.specs.Float.{Format}
use Rattle.std.specs.Float.Ieee.{of_bits, to_bits}
use Rattle.vector.specs.declared.vec3.Vec3.{Vec3}
use Rattle.vector.specs.declared.pose.Pose.{Pose}
use Rattle.vector.specs.Vector.{vec3}
use Rattle.shape.specs.declared.support.Shape.{Shape}
use Rattle.shape.specs.declared.support.Shape.TheVariants.{Ball, Cuboid, Capsule, Triangle}
use Rattle.casefile.specs.Numbers.{got, decode_number, encode}
use Rattle.casefile.specs.declared.numbers.Got.{Got}
use Rattle.casefile.specs.declared.numbers.NumberError.{NumberError}
use Rattle.casefile.specs.declared.records.Case.{Case}
use Rattle.casefile.specs.declared.records.CaseError.{CaseError}
use Rattle.casefile.specs.declared.records.CaseError.TheVariants.{Malformed, Ended}

-- ---- words

-- what is read goes on at the place after it; what is refused ends the record
abbrev pub then : {A B : Type 0} → Result (Got A) CaseError → (A → ℕ → Result (Got B) CaseError) → Result (Got B) CaseError
then (Ok g) more = more g.value g.next
then (Err e) more = Err e

-- a number that starts at p
abbrev pub number_of : ℕ → Result (Got ℕ) NumberError → Result (Got ℕ) CaseError
number_of p (Ok g) = Ok g
number_of p (Err NumberError.Malformed) = Err (Malformed p)
number_of p (Err NumberError.Ended) = Err Ended

unfoldable pub number_at : List ℕ → ℕ → Result (Got ℕ) CaseError
number_at s p = number_of p (decode_number s p)

-- a number that is malformed above `top`
unfoldable pub small_at : ℕ → List ℕ → ℕ → Result (Got ℕ) CaseError
small_at top s p = then (number_at s p) (λ v q. cond (leb v top) (Ok (got v q)) (Err (Malformed p)))

-- the next n numbers
unfoldable pub numbers_at : ℕ → List ℕ → ℕ → Result (Got (List ℕ)) CaseError
numbers_at zero s p = Ok (got [] p)
numbers_at (suc n) s p = then (number_at s p) (λ v q. then (numbers_at n s q) (λ w r. Ok (got (v ∷ w) r)))

-- a shape's kind and its numbers
pub record ShapeWords : Type 0 where
  pub kind : ℕ
  pub numbers : List ℕ

-- a record: two shapes; quaternion, translation, direction and distance, eleven numbers; the flag
pub record Words : Type 0 where
  pub first : ShapeWords
  pub second : ShapeWords
  pub numbers : List ℕ
  pub flag : ℕ

-- how many numbers a shape has
abbrev pub size_of : ℕ → ℕ
size_of zero = 1
size_of (suc zero) = 3
size_of (suc (suc zero)) = 7
size_of (suc (suc (suc k))) = 9

unfoldable pub shape_words_at : List ℕ → ℕ → Result (Got ShapeWords) CaseError
shape_words_at s p =
    then (small_at 3 s p) (λ k q.
    then (numbers_at (size_of k) s q) (λ w r.
    Ok (got (record { kind = k; numbers = w }) r)))

unfoldable pub words_at : List ℕ → ℕ → Result (Got Words) CaseError
words_at s p =
    then (shape_words_at s p) (λ a q.
    then (shape_words_at s q) (λ b r.
    then (numbers_at 11 s r) (λ w t.
    then (small_at 1 s t) (λ e u.
    Ok (got (record { first = a; second = b; numbers = w; flag = e }) u)))))

-- ---- what the words stand for

module _ (f : Format) where
  -- the float whose bits are the i-th word
  abbrev pub float_of : List ℕ → ℕ → Float
  float_of w i = of_bits f (get_or w i 0)

  -- three of them, from the i-th on
  abbrev pub vector_of : List ℕ → ℕ → Vec3
  vector_of w i = vec3 (float_of w i) (float_of w (i + 1)) (float_of w (i + 2))

  unfoldable pub shape_in : ℕ → List ℕ → Shape
  shape_in zero w = Ball (float_of w 0)
  shape_in (suc zero) w = Cuboid (float_of w 0) (float_of w 1) (float_of w 2)
  shape_in (suc (suc zero)) w = Capsule (float_of w 0) (float_of w 1) (float_of w 2) (float_of w 3) (float_of w 4) (float_of w 5) (float_of w 6)
  shape_in (suc (suc (suc k))) w =
      Triangle (float_of w 0) (float_of w 1) (float_of w 2) (float_of w 3) (float_of w 4) (float_of w 5) (float_of w 6) (float_of w 7) (float_of w 8)

  abbrev pub shape_of : ShapeWords → Shape
  shape_of w = shape_in w.kind w.numbers

  unfoldable pub pose_of : List ℕ → Pose
  pose_of w =
      record {
        rotation = record { x = float_of w 0; y = float_of w 1; z = float_of w 2; w = float_of w 3 };
        translation = vector_of w 4;
      }

  unfoldable pub case_of : Words → Case
  case_of w =
      record {
        g1 = shape_of w.first;
        g2 = shape_of w.second;
        pos12 = pose_of w.numbers;
        dir = vector_of w.numbers 7;
        max_dist = float_of w.numbers 10;
        exact = eqb w.flag 1;
      }

  -- ---- for the private functions

  unfoldable pub shape_at : List ℕ → ℕ → Result (Got Shape) CaseError
  shape_at s p = then (shape_words_at s p) (λ w q. Ok (got (shape_of w) q))

-- of words that were read in an array the first `count`
abbrev pub first_words : ℕ → Result (Got (List ℕ)) CaseError → Result (Got (List ℕ)) CaseError
first_words count r = then r (λ w q. Ok (got (take count w) q))

-- ---- the record that starts at a place

unfoldable pub read_case : Format → List ℕ → ℕ → Result (Got Case) CaseError
read_case f s at = then (words_at s at) (λ w q. Ok (got (case_of f w) q))

-- document 01's number of what stands at a place of s, 0 for a record or refusal 4, and its value: the place after the record; of the refusal the offset, the length of s where that ends inside
abbrev pub case_number : Result (Got Case) CaseError → ℕ
case_number (Ok g) = 0
case_number (Err e) = 4

abbrev pub case_value : List ℕ → Result (Got Case) CaseError → ℕ
case_value s (Ok g) = g.next
case_value s (Err (Malformed p)) = p
case_value s (Err Ended) = length s

-- ---- writing

unfoldable pub encode_all : List ℕ → List ℕ
encode_all [] = []
encode_all (n ∷ w) = encode n ++ encode_all w

-- a record's numbers in their order
abbrev pub shape_numbers : ShapeWords → List ℕ
shape_numbers w = w.kind ∷ w.numbers

abbrev pub numbers_of : Words → List ℕ
numbers_of w = shape_numbers w.first ++ shape_numbers w.second ++ w.numbers ++ w.flag ∷ []

unfoldable pub encode_case : Words → List ℕ
encode_case w = encode_all (numbers_of w)

abbrev pub flag_of : Bool → ℕ
flag_of exact = cond exact 1 0

module _ (f : Format) where
  -- a case's words; every NaN is one, of f32 7FC00000
  abbrev pub bits_of : Float → ℕ
  bits_of x = to_bits f x

  abbrev pub vector_words : Vec3 → List ℕ
  vector_words v = bits_of v.x ∷ bits_of v.y ∷ bits_of v.z ∷ []

  unfoldable pub shape_words : Shape → ShapeWords
  shape_words (Ball r) = record { kind = 0; numbers = bits_of r ∷ [] }
  shape_words (Cuboid x y z) = record { kind = 1; numbers = bits_of x ∷ bits_of y ∷ bits_of z ∷ [] }
  shape_words (Capsule ax ay az bx by bz r) =
      record { kind = 2; numbers = bits_of ax ∷ bits_of ay ∷ bits_of az ∷ bits_of bx ∷ bits_of by ∷ bits_of bz ∷ bits_of r ∷ [] }
  shape_words (Triangle ax ay az bx by bz cx cy cz) =
      record { kind = 3; numbers = bits_of ax ∷ bits_of ay ∷ bits_of az ∷ bits_of bx ∷ bits_of by ∷ bits_of bz ∷ bits_of cx ∷ bits_of cy ∷ bits_of cz ∷ [] }

  abbrev pub pose_words : Pose → List ℕ
  pose_words p = bits_of p.rotation.x ∷ bits_of p.rotation.y ∷ bits_of p.rotation.z ∷ bits_of p.rotation.w ∷ vector_words p.translation

  unfoldable pub words_of : Case → Words
  words_of c =
      record {
        first = shape_words c.g1;
        second = shape_words c.g2;
        numbers = pose_words c.pos12 ++ vector_words c.dir ++ bits_of c.max_dist ∷ [];
        flag = flag_of c.exact;
      }
