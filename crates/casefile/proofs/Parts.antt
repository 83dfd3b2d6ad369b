-- A record's parts, as the code reads them: the shapes, the eleven numbers and the flag, and what the first words of a longer list stand for. Assumes nothing.
use Prim.Native.Nat.{ℕ, zero, suc, ◌+◌, ◌≤◌, ◌<◌}
use mathlib.Core.Path.{◌≡◌, refl, sym, ap, ◌∙◌}
use mathlib.Core.List.{List}
use native.Mathlib.Omega.{arith}
use lib.Dec.{eqb}
use lib.ListN.{get_or, take}
use lib.Seq.{get_or-take}
use lib.Ieee.{Float, Format, of_bits}
use Rattle.vector.specs.declared.vec3.Vec3.{Vec3}
use Rattle.vector.specs.Vector.{vec3}
use Rattle.shape.specs.declared.support.Shape.{Shape}
use Rattle.shape.specs.declared.support.Shape.TheVariants.{Ball, Cuboid, Capsule, Triangle}
use Rattle.std.specs.Prelude.{Result, Ok, Err}
use Rattle.casefile.specs.Numbers.{got}
use Rattle.casefile.specs.declared.numbers.Got.{Got}
use Rattle.casefile.specs.declared.records.CaseError.{CaseError}
use Rattle.casefile.specs.Records.{then, small_at, numbers_at, first_words, shape_words_at, shape_in, size_of, float_of, vector_of, words_at, pose_of, case_of, read_case, shape_at}

-- the first n words of two lists are the same
abbrev pub Same : ℕ → List ℕ → List ℕ → Type 0
Same n v w = (i : ℕ) → i < n → get_or v i 0 ≡ get_or w i 0

-- ---- what words stand for, by parts

module _ (f : Format) (k : ℕ) (w : List ℕ) where
  pub ball-of : (r : Float) → k ≡ 0 → r ≡ float_of f w 0 → Ball r ≡ shape_in f k w
  unfolding shape_in
  ball-of r kind is = rw kind (ap Ball is)

  pub cuboid-of : (a : Vec3) → k ≡ 1 → a ≡ vector_of f w 0 → Cuboid a.x a.y a.z ≡ shape_in f k w
  unfolding shape_in
  cuboid-of a kind is = rw kind (ap (λ (v : Vec3). Cuboid v.x v.y v.z) is)

  pub capsule-of : (a b : Vec3) (r : Float) → k ≡ 2 → a ≡ vector_of f w 0 → b ≡ vector_of f w 3 → r ≡ float_of f w 6 → Capsule a.x a.y a.z b.x b.y b.z r ≡ shape_in f k w
  unfolding shape_in
  capsule-of a b r kind is-a is_b is-r =
      rw kind
      (ap (λ (v : Vec3). Capsule v.x v.y v.z b.x b.y b.z r) is-a
      ∙ ap (λ (v : Vec3). Capsule (float_of f w 0) (float_of f w 1) (float_of f w 2) v.x v.y v.z r) is_b
      ∙ ap (Capsule (float_of f w 0) (float_of f w 1) (float_of f w 2) (float_of f w 3) (float_of f w 4) (float_of f w 5)) is-r)

-- from kind 3 on a shape is a triangle; no kind above 3 is read
from-three : (f : Format) (k : ℕ) (w : List ℕ) → (k ≡ 0 → ⊥) → (k ≡ 1 → ⊥) → (k ≡ 2 → ⊥) → shape_in f k w ≡ shape_in f 3 w
unfolding shape_in
from-three f zero w a b c = absurd (a refl)
from-three f (suc zero) w a b c = absurd (b refl)
from-three f (suc (suc zero)) w a b c = absurd (c refl)
from-three f (suc (suc (suc k))) w a b c = refl

pub triangle-of : (f : Format) (k : ℕ) (w : List ℕ) (a b c : Vec3) → (k ≡ 0 → ⊥) → (k ≡ 1 → ⊥) → (k ≡ 2 → ⊥) → a ≡ vector_of f w 0 → b ≡ vector_of f w 3 → c ≡ vector_of f w 6 →
    Triangle a.x a.y a.z b.x b.y b.z c.x c.y c.z ≡ shape_in f k w
unfolding shape_in
triangle-of f k w a b c no-ball no-cuboid no-capsule is-a is_b is_c =
    ap (λ (v : Vec3). Triangle v.x v.y v.z b.x b.y b.z c.x c.y c.z) is-a
    ∙ ap (λ (v : Vec3). Triangle (float_of f w 0) (float_of f w 1) (float_of f w 2) v.x v.y v.z c.x c.y c.z) is_b
    ∙ ap (λ (v : Vec3). Triangle (float_of f w 0) (float_of f w 1) (float_of f w 2) (float_of f w 3) (float_of f w 4) (float_of f w 5) v.x v.y v.z) is_c
    ∙ sym (from-three f k w no-ball no-cuboid no-capsule)

-- ---- what the first words stand for, the rest does not alter

module _ (f : Format) (v w : List ℕ) where
  same_float : (n i : ℕ) → Same n v w → i < n → float_of f v i ≡ float_of f w i
  same_float n i h l = ap (of_bits f) (h i l)

  same-vector : (n i : ℕ) → Same n v w → i + 2 < n → vector_of f v i ≡ vector_of f w i
  same-vector n i h l =
      ap (λ (x : Float). vec3 x (float_of f v (i + 1)) (float_of f v (i + 2))) (same_float n i h (omega arith))
      ∙ ap (λ (y : Float). vec3 (float_of f w i) y (float_of f v (i + 2))) (same_float n (i + 1) h (omega arith))
      ∙ ap (λ (z : Float). vec3 (float_of f w i) (float_of f w (i + 1)) z) (same_float n (i + 2) h l)

  pub same_shape : (k : ℕ) → Same (size_of k) v w → shape_in f k v ≡ shape_in f k w
  unfolding shape_in
  same_shape zero h = ball-of f 0 w (float_of f v 0) refl (same_float 1 0 h (omega arith))
  same_shape (suc zero) h = cuboid-of f 1 w (vector_of f v 0) refl (same-vector 3 0 h (omega arith))
  same_shape (suc (suc zero)) h =
      capsule-of f 2 w (vector_of f v 0) (vector_of f v 3) (float_of f v 6) refl (same-vector 7 0 h (omega arith)) (same-vector 7 3 h (omega arith)) (same_float 7 6 h (omega arith))
  same_shape (suc (suc (suc k))) h =
      triangle-of
      f
      (suc (suc (suc k)))
      w
      (vector_of f v 0)
      (vector_of f v 3)
      (vector_of f v 6)
      (λ e. absurd (omega arith))
      (λ e. absurd (omega arith))
      (λ e. absurd (omega arith))
      (same-vector 9 0 h (omega arith))
      (same-vector 9 3 h (omega arith))
      (same-vector 9 6 h (omega arith))

  -- the eleven numbers after the shapes
  pub same-pose : Same 11 v w → pose_of f v ≡ pose_of f w
  unfolding pose_of
  same-pose h =
      ap
      (λ (q : Vec3). record { rotation = record { x = q.x; y = q.y; z = q.z; w = float_of f v 3 }; translation = vector_of f v 4 })
      (same-vector 11 0 h (omega arith))
      ∙ ap (λ (s : Float). record { rotation = record { x = float_of f w 0; y = float_of f w 1; z = float_of f w 2; w = s }; translation = vector_of f v 4 }) (same_float 11 3 h (omega arith))
      ∙ ap (λ (m : Vec3). record { rotation = record { x = float_of f w 0; y = float_of f w 1; z = float_of f w 2; w = float_of f w 3 }; translation = m }) (same-vector 11 4 h (omega arith))

  pub same-dir : Same 11 v w → vector_of f v 7 ≡ vector_of f w 7
  same-dir h = same-vector 11 7 h (omega arith)

  pub same-dist : Same 11 v w → float_of f v 10 ≡ float_of f w 10
  same-dist h = same_float 11 10 h (omega arith)

-- ---- a shape, and a record

pub few-numbers : (k : ℕ) → size_of k ≤ 11
few-numbers zero = omega arith
few-numbers (suc zero) = omega arith
few-numbers (suc (suc zero)) = omega arith
few-numbers (suc (suc (suc k))) = omega arith

-- the first words of an array
first-same : (n : ℕ) (w : List ℕ) → Same n (take n w) w
first-same n w i h = get_or-take n w i 0 h

pub shape-read : (f : Format) (s : List ℕ) (p : ℕ) (kind : Got ℕ) (words : Got (List ℕ)) (value : Shape) →
    Ok kind ≡ small_at 3 s p → first_words (size_of kind.value) (Ok words) ≡ numbers_at (size_of kind.value) s kind.next → value ≡ shape_in f kind.value words.value → Ok (got value words.next) ≡ shape_at f s p
unfolding shape_at shape_words_at
shape-read f s p kind words value is-kind is-words is-value =
    let n = size_of kind.value in
    rw (← is-kind, ← is-words, is-value, same_shape f (take n words.value) words.value kind.value (first-same n words.value))

pub no-kind : (f : Format) (s : List ℕ) (p : ℕ) (e : CaseError) → Err e ≡ small_at 3 s p → Err e ≡ shape_at f s p
unfolding shape_at shape_words_at
no-kind f s p e h = rw (← h)

pub no-numbers : (f : Format) (s : List ℕ) (p : ℕ) (kind : Got ℕ) (e : CaseError) → Ok kind ≡ small_at 3 s p → Err e ≡ numbers_at (size_of kind.value) s kind.next → Err e ≡ shape_at f s p
unfolding shape_at shape_words_at
no-numbers f s p kind e is-kind h = rw (← is-kind, ← h)

then-then : {A B C : Type 0} (x : Result (Got A) CaseError) (f : A → ℕ → Result (Got B) CaseError) (g : B → ℕ → Result (Got C) CaseError) → then (then x f) g ≡ then x (λ v q. then (f v q) g)
then-then (Ok x) f g = refl
then-then (Err e) f g = refl

pub case-part : (f : Format) (s : List ℕ) (at : ℕ) → read_case f s at
    ≡ then (shape_at f s at) (λ a q.
    then (shape_at f s q) (λ b r.
    then (numbers_at 11 s r) (λ w t.
    then (small_at 1 s t) (λ e u.
    Ok (got (record { g1 = a; g2 = b; pos12 = pose_of f w; dir = vector_of f w 7; max_dist = float_of f w 10; exact = eqb e 1 }) u)))))
unfolding read_case words_at case_of shape_at
case-part f s at = simp then-then

module _ (f : Format) (s : List ℕ) (at : ℕ) where
  pub case-read : (a b : Got Shape) (words : Got (List ℕ)) (flag : Got ℕ) →
      Ok a ≡ shape_at f s at → Ok b ≡ shape_at f s a.next → first_words 11 (Ok words) ≡ numbers_at 11 s b.next → Ok flag ≡ small_at 1 s words.next →
      Ok (got (record { g1 = a.value; g2 = b.value; pos12 = pose_of f words.value; dir = vector_of f words.value 7; max_dist = float_of f words.value 10; exact = eqb flag.value 1 }) flag.next) ≡ read_case f s at
  case-read a b words flag is-a is_b is-words is-flag =
      let h = first-same 11 words.value in
      let w = take 11 words.value in
      rw (case-part f s at, ← is-a, ← is_b, ← is-words, ← is-flag, same-pose f w words.value h, same-dir f w words.value h, same-dist f w words.value h)

  pub no-first : (e : CaseError) → Err e ≡ shape_at f s at → Err e ≡ read_case f s at
  no-first e h = rw (case-part f s at, ← h)

  pub no-second : (a : Got Shape) (e : CaseError) → Ok a ≡ shape_at f s at → Err e ≡ shape_at f s a.next → Err e ≡ read_case f s at
  no-second a e is-a h = rw (case-part f s at, ← is-a, ← h)

  pub no-words : (a b : Got Shape) (e : CaseError) → Ok a ≡ shape_at f s at → Ok b ≡ shape_at f s a.next → Err e ≡ numbers_at 11 s b.next → Err e ≡ read_case f s at
  no-words a b e is-a is_b h = rw (case-part f s at, ← is-a, ← is_b, ← h)

  pub no-flag : (a b : Got Shape) (words : Got (List ℕ)) (e : CaseError) →
      Ok a ≡ shape_at f s at → Ok b ≡ shape_at f s a.next → first_words 11 (Ok words) ≡ numbers_at 11 s b.next → Err e ≡ small_at 1 s words.next → Err e ≡ read_case f s at
  no-flag a b words e is-a is_b is-words h = rw (case-part f s at, ← is-a, ← is_b, ← is-words, ← h)
