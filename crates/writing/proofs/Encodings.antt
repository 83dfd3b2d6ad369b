-- How long encodings are at most, and what the functions that put a record together need. Assumes nothing.
use Prim.Native.Nat.{ℕ, ◌*◌, ◌≤◌}
use mathlib.Core.Path.{◌≡◌, refl, ◌∙◌}
use mathlib.Core.Bool.{Bool, true, false}
use mir.Val.{bool_byte}
use mathlib.Core.List.{List, [], ◌∷◌, ◌++◌, append-nil}
use native.Mathlib.Omega.{arith}
use lib.ListN.{length, length-append}
use lib.Ieee.{Format}
use Rattle.shape.specs.declared.support.Shape.{Shape}
use Rattle.shape.specs.declared.support.Shape.TheVariants.{Ball, Cuboid, Capsule, Triangle}
use Rattle.casefile.specs.declared.records.Case.{Case}
use Rattle.casefile.specs.Numbers.{encode}
use Rattle.casefile.specs.Records.{encode_all, numbers_of, shape_words, shape_numbers, words_of, encode_case, pose_words, vector_words, bits_of, flag_of}
use Rattle.std.proofs.Common.{append_assoc}
use Rattle.casefile.proofs.Groups.{encode-length, encode-cut, encode_one, encode-more}
use Rattle.writing.proofs.RecordTrip.{encode-append}

pub all-length : (w : List ℕ) → length (encode_all w) ≤ 5 * length w
unfolding encode_all
all-length [] = omega arith
all-length (n ∷ w) = omega (arith, length-append (encode n) (encode_all w), encode-length n, all-length w)

shape-count : (f : Format) (g : Shape) → length (shape_numbers (shape_words f g)) ≤ 10
unfolding shape_words
shape-count f (Ball r) = omega arith
shape-count f (Cuboid x y z) = omega arith
shape-count f (Capsule ax ay az bx by bz r) = omega arith
shape-count f (Triangle ax ay az bx by bz cx cy cz) = omega arith

pub shape-length : (f : Format) (g : Shape) → length (encode_all (shape_numbers (shape_words f g))) ≤ 50
shape-length f g = omega (arith, all-length (shape_numbers (shape_words f g)), shape-count f g)

pub case-length : (f : Format) (c : Case) → length (encode_case (words_of f c)) ≤ 160
unfolding encode_case words_of
case-length f c =
    let a = shape_numbers (shape_words f c.g1) in
    let b = shape_numbers (shape_words f c.g2) in
    let n = pose_words f c.pos12 ++ vector_words f c.dir ++ bits_of f c.max_dist ∷ [] in
    let e = flag_of c.exact ∷ [] in
    let few : length (a ++ b ++ n ++ e) ≤ 32 = simp length-append (omega (arith, shape-count f c.g1, shape-count f c.g2)) in
    omega (arith, all-length (a ++ b ++ n ++ e))

pub all-cons : (n m : ℕ) (w : List ℕ) → encode_all (n ∷ m ∷ w) ≡ encode_all (n ∷ []) ++ encode_all (m ∷ w)
unfolding encode_all
all-cons n m w = rw (append-nil (encode n))

-- a record by its parts
pub case-parts : (f : Format) (c : Case) → encode_all (numbers_of (words_of f c))
    ≡ encode_all (shape_numbers (shape_words f c.g1))
    ++ (encode_all (shape_numbers (shape_words f c.g2)) ++ (encode_all (pose_words f c.pos12) ++ (encode_all (vector_words f c.dir) ++ (encode_all (bits_of f c.max_dist ∷ []) ++ encode_all (flag_of c.exact ∷ [])))))
unfolding words_of
case-parts f c =
    let a = shape_numbers (shape_words f c.g1) in
    let b = shape_numbers (shape_words f c.g2) in
    let p = pose_words f c.pos12 in
    let v = vector_words f c.dir in
    let m = bits_of f c.max_dist ∷ [] in
    let e = flag_of c.exact ∷ [] in
    encode-append (a ++ b ++ (p ++ v ++ m)) e
    ∙ rw (encode-append (a ++ b) (p ++ v ++ m), encode-append a b, encode-append (p ++ v) m, encode-append p v) (simp append_assoc)

-- the flag's word
pub flag-word : (e : Bool) → bool_byte e ≡ flag_of e
flag-word true = refl
flag-word false = refl

-- numbers are put one after the other
pub ruleset parts = (append_assoc, length-append, all-cons, encode-append, all-length, shape-length)

pub ruleset groups = (append_assoc, length-append, encode-cut, encode_one, encode-more)
