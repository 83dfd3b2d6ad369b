-- How long the parts of a line are, and the lines at most. By the lengths of their parts. Assumes nothing.
use Prim.Native.Nat.{ℕ, ◌+◌, ◌*◌, ◌≤◌}
use mathlib.Core.Path.{◌≡◌, refl}
use mathlib.Core.List.{List}
use native.Mathlib.Omega.{arith}
use lib.ListN.{length, length-append}
use Rattle.std.specs.Prelude.{Ok}
use lib.Ieee.{Float, Format, binary32, binary64}
use borrow.Author.Tests.{le-leb}
use Rattle.vector.specs.declared.vec3.Vec3.{Vec3}
use Rattle.lines.specs.Text.{place_of, hex_pair, hex_of, decimal_of}
use Rattle.lines.specs.Lines.{float_text, vector_text, three_text, count_text, counts_text, floats_text_of, counts_text_of, line_of, bad_line, last_line}
use Rattle.counts.specs.declared.Counts.{Counts}
use Rattle.lines.specs.declared.line.Outcome.{Outcome}
use Rattle.lines.specs.declared.line.Outcome.TheVariants.{ClosestPoints, Proximity, NoIntersection, Penetration, NoAnswer, Panic, NoPlace}
use Rattle.std.proofs.Common.{append_assoc}
use Rattle.lines.proofs.Puts.{hex-length, decimal-length}

-- a float's: a space, and the digits of its word
abbrev pub float_size : Format → ℕ
float_size binary32 = 9
float_size binary64 = 17

pub float-length : (f : Format) (x : Float) → length (float_text f x) ≡ float_size f
unfolding float_text hex_of hex_pair
float-length binary32 x = refl
float-length binary64 x = refl

pub vector-length : (f : Format) (v : Vec3) → length (vector_text f v) ≡ 3 * float_size f
unfolding vector_text
vector-length f v = simp (length-append, float-length) (omega arith)

pub three-length : (f : Format) (a b c : Vec3) → length (three_text f a b c) ≡ 9 * float_size f
unfolding three_text
three-length f a b c = simp (length-append, vector-length) (omega arith)

pub number-length : (n : ℕ) → length (decimal_of n) ≤ 20
unfolding decimal_of
number-length n = decimal-length 19 n

pub count-length : (n : ℕ) → length (count_text n) ≤ 21
unfolding count_text
count-length n = omega (arith, number-length n)

pub counts-length : (c : Counts) → length (counts_text c) ≤ 105
unfolding counts_text
counts-length c =
    simp length-append
    (omega (arith, count-length c.expansions, count-length c.made, count-length c.live, count-length c.edges, count-length c.missed))

pub floats-length : (f : Format) (o : Outcome) → length (floats_text_of f o) ≤ 9 * float_size f
unfolding floats_text_of
floats-length f (ClosestPoints a b n) = omega (arith, three-length f a b n)
floats-length f (Proximity v) = omega (arith, vector-length f v)
floats-length f (NoIntersection v) = omega (arith, vector-length f v)
floats-length f (Penetration a b n c) = omega (arith, three-length f a b n)
floats-length f (NoAnswer c) = omega arith
floats-length f Panic = omega arith
floats-length f (NoPlace c) = omega arith

pub five-length : (o : Outcome) → length (counts_text_of o) ≤ 105
unfolding counts_text_of
five-length (ClosestPoints a b n) = omega arith
five-length (Proximity v) = omega arith
five-length (NoIntersection v) = omega arith
five-length (Penetration a b n c) = counts-length c
five-length (NoAnswer c) = counts-length c
five-length Panic = omega arith
five-length (NoPlace c) = counts-length c

pub line-length : (f : Format) (n : ℕ) (o : Outcome) → length (line_of f n o) ≤ 128 + 9 * float_size f
unfolding line_of
line-length f n o = simp length-append (omega (arith, number-length n, floats-length f o, five-length o))

-- a place with so many bytes after it, 209 of f32, has room for any line
pub line-fits : (f : Format) (out : List ℕ) (at n : ℕ) (o : Outcome) → at + (128 + 9 * float_size f) ≤ length out → (place_of out at (line_of f n o)).answer ≡ Ok (at + length (line_of f n o))
unfolding place_of
line-fits f out at n o h = rw (le-leb (at + length (line_of f n o)) (length out) (omega (arith, line-length f n o)))

pub bad-length : (n : ℕ) → length (bad_line n) ≤ 25
unfolding bad_line
bad-length n = simp length-append (omega (arith, number-length n))

pub last-length : (n : ℕ) → length (last_line n) ≤ 27
unfolding last_line
last-length n = simp length-append (omega (arith, number-length n))

-- what the functions that put a line together need: how long the parts are, and that parts are put one after the other
pub ruleset parts = (append_assoc, length-append, hex-length, float-length, vector-length, three-length, number-length, count-length, counts-length, floats-length, five-length)
