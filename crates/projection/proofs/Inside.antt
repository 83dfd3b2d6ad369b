-- The inside flag of a projection of the origin adds nothing to `is_inside_eps` at the polytope's tolerance, in either format (`flag-adds-nothing`).
-- A set flag says that each component is at most epsilon in size. Then the squared distance is at most 3 epsilon², and the tolerance squared is 10000 epsilon². Assumes nothing.
use mathlib.Core.Path.{◌≡◌, refl, sym, ap, ◌∙◌, subst}
use mathlib.Core.Logic.{◌⊎◌, inl, inr}
use mathlib.Core.Bool.{Bool, true, false, not, cond, ◌&&◌, ◌||◌, beq, true≢false}
use Prim.Native.Nat.{ℕ, zero, suc, ◌+◌, ◌-◌, ◌*◌, ◌%◌, ◌^◌, ◌≤◌, ◌<◌, zero-le}
use native.Mathlib.Nat.{le_refl, le_trans, le_of_eq, le_of_lt, eq-or-lt_of_le, lt_of_lt_of_le, lt_of_le_of_lt, lt_of_mul-lt-mul_right, zero-mul, one-mul, mul-one, add-zero, add-mul, mul_assoc, mul_comm, mul_right_comm, mul-mul-mul_comm, mul-le-mul, mul-le-mul_left, mul-le-mul_right, mul-lt-mul_of_pos_right, mul-pos}
use native.Mathlib.Omega.{arith}
use lib.Dec.{T, ltb, eqb, leb, eqb→eq, ltb→lt, lt→ltb, leb→le, nleb→lt, lit≤}
use lib.IntN.{ℤ, pos, negsuc}
use lib.Pow.{pow-add, pow_pos, pow_mono, pow-lt}
use lib.Ieee.Digits.{back}
use lib.Ieee.{Float, Format, binary32, binary64, nan, inf, fin, prec, emax, low, up, down, odd, units, round, sum, neg, add, sub, mul, lt, le, eq, fits}
use lib.Ieee.Exact.{HasValue, round_exact}
use lib.Ieee.Fits.{down_pos, and_l, and_r}
use lib.Ieee.Order.{round_mono}
use lib.Ieee.Positive.{through, first_pos}
use Rattle.number.specs.Small.{absolute}
use Rattle.vector.specs.declared.vec3.Vec3.{Vec3}
use Rattle.vector.specs.Vector.{zero_f, zero_v, sub_v, dot_v, length_squared_v}
use Rattle.number.specs.Constants.{epsilon, polytope_tol}
use Rattle.projection.specs.Relative.{is_infinite, larger_size, relative_eq}
use Rattle.projection.specs.Inside.{near, is_inside, within, is_inside_eps, within_origin}

-- ---- x is finite and at most a / c in size
abbrev AtMost : Float → ℕ → ℕ → Type 0
AtMost nan a c = ⊥
AtMost (inf s) a c = ⊥
AtMost (fin s m e) a c = m * up e * c ≤ a * down e

-- what equals a / c
of-value : (x : Float) (a c : ℕ) → HasValue x false a c → AtMost x a c
of-value nan a c h = h
of-value (inf s) a c h = h
of-value (fin s m e) a c h = le_of_eq h.1

-- a bound of what equals x / d
bounded : (w : Float) (x d a c : ℕ) → HasValue w false x d → AtMost w a c → x * c ≤ a * d
bounded nan x d a c h k = absurd h
bounded (inf s) x d a c h k = absurd h
bounded (fin s m e) x d a c h k = through x (m * up e) a d (down e) c (down_pos e) (le_of_eq (sym h.1)) k

-- ---- the order: what is at most y in size is at most y's bound
or_split : (a b : Bool) → T (a || b) → T a ⊎ T b
or_split true b t = inl tt
or_split false b t = inr t

below-or-level : (t : Bool) (a b : ℕ) → T (cond t false (ltb a b) || (eqb a b && (not t || eqb a 0))) → a ≤ b
below-or-level t a b h =
    elim (or_split (cond t false (ltb a b)) (eqb a b && (not t || eqb a 0)) h) [
      | inl u ↦ less t u
      | inr u ↦ le_of_eq (eqb→eq a b (and_l (eqb a b) (not t || eqb a 0) u))
    ]
  where
    less : (t : Bool) → T (cond t false (ltb a b)) → a ≤ b
    less true u = absurd u
    less false u = le_of_lt (ltb→lt a b u)

under : (x y : Float) (a c : ℕ) → T (le (absolute x) y) → AtMost y a c → AtMost x a c
unfolding absolute le
under nan y a c h k = absurd h
under (inf s) nan a c h k = absurd h
under (inf s) (inf t) a c h k = absurd k
under (inf s) (fin t n d) a c h k = absurd h
under (fin s m e) nan a c h k = absurd h
under (fin s m e) (inf t) a c h k = absurd k
under (fin s m e) (fin true n d) a c h k = through (m * up e) (n * up d) a (down e) (down d) c (down_pos d) (below-or-level true (m * up e * down d) (n * up d * down e) h) k
under (fin s m e) (fin false n d) a c h k = through (m * up e) (n * up d) a (down e) (down d) c (down_pos d) (below-or-level false (m * up e * down d) (n * up d * down e) h) k

-- ---- rounding: the sign goes through it, and a bound that the format holds stays one
abs-odd : (d : ℕ) (s : Bool) (q k l : ℕ) → absolute (odd d s q k l) ≡ odd d false q k l
unfolding absolute odd
abs-odd d s zero k l = refl
abs-odd d s (suc q) k l = refl

abs-units : (f : Format) (s : Bool) (q k : ℕ) → absolute (units f s q k) ≡ units f false q k
unfolding absolute units
abs-units f s q k = go (ltb (q * 2 ^ k) (2 ^ (low f + suc (emax f))))
  where
    go : (b : Bool) → absolute (cond b (odd (suc (prec f)) s q k (low f)) (inf s)) ≡ cond b (odd (suc (prec f)) false q k (low f)) (inf false)
    go true = abs-odd (suc (prec f)) s q k (low f)
    go false = refl

abs-round : (f : Format) (s : Bool) (num den : ℕ) → absolute (round f s num den) ≡ round f false num den
unfolding round
abs-round f s num den = abs-units f s _ _

abbrev Held : Format → ℕ → ℕ → Type 0
Held f a c = HasValue (round f false a c) false a c

rounded : (f : Format) (s : Bool) (num den a c : ℕ) → 0 < den → 0 < c → Held f a c → num * c ≤ a * den → AtMost (round f s num den) a c
rounded f s num den a c D C v h =
    under (round f s num den) (round f false a c) a c
    (subst (λ (z : Float). T (le z (round f false a c))) (sym (abs-round f s num den)) (round_mono f num den a c D C h))
    (of-value (round f false a c) a c v)

-- ---- the operations
neg-bound : (x : Float) (a c : ℕ) → AtMost x a c → AtMost (neg x) a c
unfolding neg
neg-bound nan a c h = h
neg-bound (inf s) a c h = h
neg-bound (fin s m e) a c h = h

mul-bound : (f : Format) (x y : Float) (a b c d : ℕ) → 0 < c → 0 < d → Held f (a * b) (c * d) → AtMost x a c → AtMost y b d → AtMost (mul f x y) (a * b) (c * d)
unfolding mul
mul-bound f nan y a b c d C D v h k = absurd h
mul-bound f (inf s) y a b c d C D v h k = absurd h
mul-bound f (fin s m e) nan a b c d C D v h k = absurd k
mul-bound f (fin s m e) (inf t) a b c d C D v h k = absurd k
mul-bound f (fin s m e) (fin t n i) a b c d C D v h k =
    rounded f _ (m * up e * (n * up i)) (down e * down i) (a * b) (c * d) (mul-pos (down_pos e) (down_pos i)) (mul-pos C D) v
    (le_trans (le_of_eq (mul-mul-mul_comm (m * up e) (n * up i) c d)) (le_trans (mul-le-mul h k) (le_of_eq (mul-mul-mul_comm a (down e) b (down i)))))

less-sum : (a b : ℕ) → a - b ≤ a + b
less-sum a b = omega arith

more-sum : (a b : ℕ) → b - a ≤ a + b
more-sum a b = omega arith

sum_bound : (f : Format) (s : Bool) (x : ℕ) (t : Bool) (y d a c : ℕ) → 0 < d → 0 < c → Held f a c → (x + y) * c ≤ a * d → AtMost (sum f s x t y d) a c
unfolding sum
sum_bound f s x t y d a c D C v h = go (beq s t) (ltb x y)
  where
    at : (s : Bool) (z : ℕ) → z ≤ x + y → AtMost (round f s z d) a c
    at s z l = rounded f s z d a c D C v (le_trans (mul-le-mul_right c l) h)

    go : (p q : Bool) → AtMost (cond p (round f s (x + y) d) (cond q (round f t (y - x) d) (round f (s && ltb y x) (x - y) d))) a c
    go true q = at s (x + y) (le_refl (x + y))
    go false true = at t (y - x) (more-sum x y)
    go false false = at (s && ltb y x) (x - y) (less-sum x y)

add-bound : (f : Format) (x y : Float) (a b c : ℕ) → 0 < c → Held f (a + b) c → AtMost x a c → AtMost y b c → AtMost (add f x y) (a + b) c
unfolding add
add-bound f nan y a b c C v h k = absurd h
add-bound f (inf s) y a b c C v h k = absurd h
add-bound f (fin s m e) nan a b c C v h k = absurd k
add-bound f (fin s m e) (inf t) a b c C v h k = absurd k
add-bound f (fin s m e) (fin t n d) a b c C v h k =
    sum_bound f s (m * up e * down d) t (n * up d * down e) (down e * down d) (a + b) c (mul-pos (down_pos e) (down_pos d)) C v
    (le_trans (le_of_eq (add-mul (m * up e * down d) (n * up d * down e) c))
    (both (m * up e * down d * c) (n * up d * down e * c) (a * (down e * down d)) (b * (down e * down d)) ((a + b) * (down e * down d)) (add-mul a b (down e * down d))
    (le_trans (le_of_eq (mul_right_comm (m * up e) (down d) c)) (le_trans (mul-le-mul_right (down d) h) (le_of_eq (mul_assoc a (down e) (down d)))))
    (le_trans (le_of_eq (mul_right_comm (n * up d) (down e) c)) (le_trans (mul-le-mul_right (down e) k) (le_of_eq (mul_assoc b (down d) (down e) ∙ ap (λ (z : ℕ). b * z) (mul_comm (down d) (down e))))))))
  where
    both : (x y p q r : ℕ) → r ≡ p + q → x ≤ p → y ≤ q → x + y ≤ r
    both x y p q r e h k = omega arith

-- ---- what a format holds, and its half where it is above epsilon, is rounded to itself
-- 2 ^ e is 2 ^ raised e / 2 ^ places e
abbrev raised : ℤ → ℕ
raised (pos k) = k
raised (negsuc k) = 0

abbrev places : ℤ → ℕ
places (pos k) = 0
places (negsuc k) = suc k

up_is : (e : ℤ) → up e ≡ 2 ^ raised e
up_is (pos k) = refl
up_is (negsuc k) = refl

down_is : (e : ℤ) → down e ≡ 2 ^ places e
down_is (pos k) = refl
down_is (negsuc k) = refl

shifted : (r l p h : ℕ) → p + h ≤ l → 2 ^ r * 2 ^ l ≡ 2 ^ (r + (l - (p + h))) * (2 ^ p * 2 ^ h)
shifted r l p h k =
    let z = l - (p + h) in
    ap (λ (x : ℕ). 2 ^ r * 2 ^ x) (sym (back l (p + h) k))
    ∙ ap (λ (x : ℕ). 2 ^ r * x) (pow-add 2 z (p + h))
    ∙ sym (mul_assoc (2 ^ r) (2 ^ z) (2 ^ (p + h)))
    ∙ ap (λ (x : ℕ). x * 2 ^ (p + h)) (sym (pow-add 2 r z))
    ∙ ap (λ (x : ℕ). 2 ^ (r + z) * x) (pow-add 2 p h)

-- m * 2 ^ e / 2 ^ h
held : (f : Format) (m : ℕ) (e : ℤ) (h : ℕ) → m < 2 ^ prec f → m * up e < 2 ^ suc (emax f) * down e → places e + h ≤ low f → Held f (m * up e) (down e * 2 ^ h)
held f m e h small fine k =
    let j = raised e + (low f - (places e + h)) in
    let is : m * up e * 2 ^ low f ≡ m * 2 ^ j * (down e * 2 ^ h) =
    mul_assoc m (up e) (2 ^ low f)
    ∙ ap (λ (x : ℕ). m * (x * 2 ^ low f)) (up_is e)
    ∙ ap (λ (x : ℕ). m * x) (shifted (raised e) (low f) (places e) h k)
    ∙ sym (mul_assoc m (2 ^ j) (2 ^ places e * 2 ^ h))
    ∙ ap (λ (x : ℕ). m * 2 ^ j * (x * 2 ^ h)) (sym (down_is e)) in
    let top = 2 ^ (low f + suc (emax f)) in
    let over : m * 2 ^ j * down e < top * down e =
    lt_of_le_of_lt (mul-le-mul_left (m * 2 ^ j) (le_trans (le_of_eq (sym (mul-one (down e)))) (mul-le-mul_left (down e) (pow_pos h))))
    (lt_of_le_of_lt (le_of_eq (sym is))
    (lt_of_lt_of_le (mul-lt-mul_of_pos_right fine (pow_pos (low f)))
    (le_of_eq (mul_right_comm (2 ^ suc (emax f)) (down e) (2 ^ low f) ∙ ap (λ (x : ℕ). x * down e) (mul_comm (2 ^ suc (emax f)) (2 ^ low f) ∙ sym (pow-add 2 (low f) (suc (emax f)))))))) in
    round_exact f false (m * up e) (down e * 2 ^ h) m j (mul-pos (down_pos e) (pow_pos h)) small (lt_of_mul-lt-mul_right (down e) over) is

-- ---- epsilon: 2 ^ -bits
abbrev bits : Format → ℕ
bits f = suc (prec f - 2)

epsilon-is : (f : Format) → epsilon f ≡ fin false 1 (negsuc (prec f - 2))
unfolding epsilon
epsilon-is binary32 = refl
epsilon-is binary64 = refl

one_place : (f : Format) → 1 ≤ low f
one_place binary32 = lit≤ tt
one_place binary64 = lit≤ tt

many-places : (f : Format) → prec f + bits f ≤ low f
many-places binary32 = lit≤ tt
many-places binary64 = lit≤ tt

-- the places of a number of the format
exponents : (a b : ℕ) → 2 ^ a ≤ 2 ^ b → a ≤ b
exponents a b h = go (leb a b) (leb→le a b) (nleb→lt a b)
  where
    go : (t : Bool) → (T t → a ≤ b) → (T (not t) → b < a) → a ≤ b
    go true y n = y tt
    go false y n = let l : 2 ^ b < 2 ^ a = pow-lt (n tt) in absurd (clash (2 ^ a) (2 ^ b) h l)
      where
        clash : (x y : ℕ) → x ≤ y → y < x → ⊥
        clash x y h k = omega arith

minus-zero : (a : ℕ) → a - 0 ≡ a
minus-zero a = omega arith

no_less : (a b : ℕ) → b ≡ 0 → a < b → ⊥
no_less a b z h = omega arith

no-twice : (z : ℕ) → 0 < z → z * 2 ≤ z → ⊥
no-twice z Z h = omega arith

no-half : (x d : ℕ) → 0 < x → 0 < d → x * (d * 2) ≤ x * d → ⊥
no-half x d X D h = no-twice (x * d) (mul-pos X D) (le_trans (le_of_eq (mul_assoc x d 2)) h)

suc-le : (a b : ℕ) → a ≤ b → (a ≡ b → ⊥) → a + 1 ≤ b
suc-le a b h n = elim (eq-or-lt_of_le h) [ inl z ↦ absurd (n z) | inr l ↦ plus_one a b l ]
  where
    plus_one : (a b : ℕ) → a < b → a + 1 ≤ b
    plus_one a b h = omega arith

to-abs : (x : Float) (a c : ℕ) → AtMost x a c → AtMost (absolute x) a c
unfolding absolute
to-abs nan a c h = h
to-abs (inf s) a c h = h
to-abs (fin s m e) a c h = h

-- the tests of `relative_eq`
tests : {P : Type 0} (p q r s : Bool) → (T p → P) → (T r → P) → (T s → P) → T (cond p true (cond q false (cond r true s))) → P
tests true q r s x y z t = x tt
tests false true r s x y z t = absurd t
tests false false true s x y z t = y tt
tests false false false s x y z t = z t

-- ---- a component: a number of the format that is `relative_eq` to 0 is at most epsilon in size
module _ (f : Format) where
  abbrev c : ℕ
  c = 2 ^ bits f

  abbrev ε : Float
  ε = fin false 1 (negsuc (prec f - 2))

  two-le : 2 ≤ c
  two-le = pow_mono {i = 1} (one-le (prec f - 2))
    where
      one-le : (n : ℕ) → 1 ≤ suc n
      one-le n = omega arith

  product : (m : ℕ) (e : ℤ) → mul f (fin false m e) ε ≡ round f false (m * up e * 1) (down e * c)
  unfolding mul
  product m e = refl

  -- `x - 0` for a finite x
  abbrev less_zero : Bool → ℕ → ℤ → Float
  less_zero s m e = sub f (fin s m e) zero_f

  abs-sum : (s : Bool) (a d : ℕ) → absolute (sum f s a true 0 d) ≡ round f false a d
  unfolding sum
  abs-sum true a d = abs-round f true (a + 0) d ∙ ap (λ (x : ℕ). round f false x d) (add-zero a)
  abs-sum false a d = go (ltb a 0) (ltb→lt a 0)
    where
      go : (b : Bool) → (T b → a < 0) → absolute (cond b (round f true (0 - a) d) (round f (false && ltb 0 a) (a - 0) d)) ≡ round f false a d
      go true h = absurd (no_less a 0 refl (h tt))
      go false h = abs-round f (false && ltb 0 a) (a - 0) d ∙ ap (λ (x : ℕ). round f false x d) (minus-zero a)

  opened : (s : Bool) (m : ℕ) (e : ℤ) → less_zero s m e ≡ sum f s (m * up e * 1) true (0 * 1 * down e) (down e * 1)
  unfolding sub
  opened s m e = refl

  size_is : (s : Bool) (m : ℕ) (e : ℤ) → absolute (less_zero s m e) ≡ round f false (m * up e) (down e * 1)
  size_is s m e =
      ap absolute (opened s m e ∙ ap (λ (x : ℕ). sum f s x true (0 * down e) (down e * 1)) (mul-one (m * up e)) ∙ ap (λ (x : ℕ). sum f s (m * up e) true x (down e * 1)) (zero-mul (down e)))
      ∙ abs-sum s (m * up e) (down e * 1)

  size-value : (s : Bool) (m : ℕ) (e : ℤ) → m < 2 ^ prec f → m * up e < 2 ^ suc (emax f) * down e → places e ≤ low f → HasValue (absolute (less_zero s m e)) false (m * up e) (down e * 1)
  size-value s m e small fine k = subst (λ (x : Float). HasValue x false (m * up e) (down e * 1)) (sym (size_is s m e)) (held f m e 0 small fine (le_trans (le_of_eq (add-zero (places e))) k))

  larger-is : (m : ℕ) (e : ℤ) → larger_size (fin false m e) zero_f ≡ fin false m e
  unfolding larger_size lt
  larger-is m e = go (ltb (m * up e * 1) (0 * 1 * down e)) (ltb→lt (m * up e * 1) (0 * 1 * down e))
    where
      go : (b : Bool) → (T b → m * up e * 1 < 0 * 1 * down e) → cond b zero_f (fin false m e) ≡ fin false m e
      go true h = absurd (no_less (m * up e * 1) (0 * 1 * down e) (zero-mul (down e)) (h tt))
      go false h = refl

  -- the places of a number above epsilon
  few-places : (m : ℕ) (e : ℤ) → m < 2 ^ prec f → down e < m * up e * c → places e + 1 ≤ low f
  few-places m (pos k) small h = one_place f
  few-places m (negsuc k) small h =
      let l : 2 ^ suc k < 2 ^ (prec f + bits f) = lt_of_lt_of_le h (le_trans (mul-le-mul_right c (le_trans (le_of_eq (mul-one m)) (le_of_lt small))) (le_of_eq (sym (pow-add 2 (prec f) (bits f))))) in
      le_trans (suc-le (suc k) (prec f + bits f) (exponents (suc k) (prec f + bits f) (le_of_lt l)) (λ (z : suc k ≡ prec f + bits f). not_same (ap (λ (x : ℕ). 2 ^ x) z) l)) (many-places f)
    where
      not_same : {a b : ℕ} → a ≡ b → a < b → ⊥
      not_same z h = omega arith

  module _ (s : Bool) (m : ℕ) (e : ℤ) (small : m < 2 ^ prec f) (fine : m * up e < 2 ^ suc (emax f) * down e) (k : places e ≤ low f) where
    abbrev S : Float
    S = less_zero s m e

    from-size : (a b : ℕ) → AtMost S a b → m * up e * b ≤ a * down e
    from-size a b h = le_trans (bounded (absolute S) (m * up e) (down e * 1) a b (size-value s m e small fine k) (to-abs S a b h)) (le_of_eq (ap (λ (x : ℕ). a * x) (mul-one (down e))))

    -- `|x| <= epsilon`
    absolutely : T (le (absolute S) ε) → m * up e * c ≤ 1 * down e
    absolutely t = from-size 1 c (under S ε 1 c t (le_refl (1 * c)))

    -- `|x| <= |x| * epsilon`: above epsilon the product is at most the half of |x|, so x isn't there
    half : down e < m * up e * c → T (le (absolute S) (mul f (fin false m e) ε)) → AtMost S (m * up e) (down e * 2)
    half l t =
        under S (mul f (fin false m e) ε) (m * up e) (down e * 2) t
        (subst (λ (z : Float). AtMost z (m * up e) (down e * 2)) (sym (product m e))
        (rounded f false (m * up e * 1) (down e * c) (m * up e) (down e * 2) (mul-pos (down_pos e) (pow_pos (bits f))) (mul-pos (down_pos e) (pow_pos 1))
        (held f m e 1 small fine (few-places m e small l))
        (le_trans (le_of_eq (ap (λ (z : ℕ). z * (down e * 2)) (mul-one (m * up e)))) (mul-le-mul_left (m * up e) (mul-le-mul_left (down e) two-le)))))

    relatively : T (le (absolute S) (mul f (fin false m e) ε)) → m * up e * c ≤ 1 * down e
    relatively t = go (leb (m * up e * c) (1 * down e)) (leb→le (m * up e * c) (1 * down e)) (nleb→lt (m * up e * c) (1 * down e))
      where
        never : down e < m * up e * c → ⊥
        never l = no-half (m * up e) (down e) (first_pos (m * up e) c (lt_of_le_of_lt zero-le l)) (down_pos e) (from-size (m * up e) (down e * 2) (half l t))

        go : (b : Bool) → (T b → m * up e * c ≤ 1 * down e) → (T (not b) → 1 * down e < m * up e * c) → m * up e * c ≤ 1 * down e
        go true y n = y tt
        go false y n = absurd (never (lt_of_le_of_lt (le_of_eq (sym (one-mul (down e)))) (n tt)))

-- a number that compares equal to 0
zero-bound : (s : Bool) (m : ℕ) (e : ℤ) (c : ℕ) → T (eq (fin s m e) zero_f) → m * up e * c ≤ 1 * down e
unfolding eq
zero-bound s m e c t =
    let z : m * up e ≡ 0 = sym (mul-one (m * up e)) ∙ eqb→eq (m * up e * 1) (0 * 1 * down e) (and_l (eqb (m * up e * 1) (0 * 1 * down e)) _ t) ∙ zero-mul (down e) in
    le_trans (le_of_eq (ap (λ (x : ℕ). x * c) z ∙ zero-mul c)) zero-le

component : (f : Format) (x : Float) → T (fits f x) → T (near f x zero_f) → AtMost x 1 (2 ^ bits f)
unfolding fits relative_eq is_infinite absolute eq le sub
component f nan h t = t
component f (inf true) h t = t
component f (inf false) h t = t
component f (fin s zero e) h t = le_trans (le_of_eq (ap (λ (x : ℕ). x * 2 ^ bits f) (zero-mul (up e)) ∙ zero-mul (2 ^ bits f))) zero-le
component f (fin s (suc m) e) h t =
    let b1 : Bool = eqb (suc m % 2) 1 in
    let b2 : Bool = ltb (suc m) (2 ^ prec f) in
    let b3 : Bool = leb (down e) (2 ^ low f) in
    let b4 : Bool = ltb (suc m * up e) (2 ^ suc (emax f) * down e) in
    let small : suc m < 2 ^ prec f = ltb→lt (suc m) (2 ^ prec f) (and_r b1 b2 (and_l (b1 && b2) b3 (and_l (b1 && b2 && b3) b4 h))) in
    let fine : suc m * up e < 2 ^ suc (emax f) * down e = ltb→lt (suc m * up e) (2 ^ suc (emax f) * down e) (and_r (b1 && b2 && b3) b4 h) in
    let k : places e ≤ low f = exponents (places e) (low f) (subst (λ (x : ℕ). x ≤ 2 ^ low f) (down_is e) (leb→le (down e) (2 ^ low f) (and_r (b1 && b2) b3 (and_l (b1 && b2 && b3) b4 h)))) in
    tests (eq (fin s (suc m) e) zero_f) (is_infinite (fin s (suc m) e) || is_infinite zero_f) (le (absolute (less_zero f s (suc m) e)) (epsilon f))
    (le (absolute (less_zero f s (suc m) e)) (mul f (larger_size (fin false (suc m) e) zero_f) (epsilon f)))
    (zero-bound s (suc m) e (2 ^ bits f))
    (λ u. absolutely f s (suc m) e small fine k (subst (λ (z : Float). T (le (absolute (less_zero f s (suc m) e)) z)) (epsilon-is f) u))
    (λ u. relatively f s (suc m) e small fine k
    (subst (λ (z : Float). T (le (absolute (less_zero f s (suc m) e)) (mul f z (ε f)))) (larger-is f (suc m) e)
    (subst (λ (z : Float). T (le (absolute (less_zero f s (suc m) e)) (mul f (larger_size (fin false (suc m) e) zero_f) z))) (epsilon-is f) u)))
    t

-- ---- the squared distance
-- epsilon² is 1 / cc f
abbrev cc : Format → ℕ
cc f = 2 ^ bits f * 2 ^ bits f

-- both formats hold epsilon, and its square once, twice and three times
held_all : (f : Format) → Held f 1 (2 ^ bits f) × (Held f 1 (cc f) × (Held f 2 (cc f) × Held f 3 (cc f)))
unfolding round
held_all binary32 = ((refl, refl), ((refl, refl), ((refl, refl), (refl, refl))))
held_all binary64 = ((refl, refl), ((refl, refl), ((refl, refl), (refl, refl))))

-- the tolerance squared
tolerance : (f : Format) → HasValue (mul f (polytope_tol f) (polytope_tol f)) false 10000 (cc f)
unfolding mul polytope_tol epsilon
tolerance binary32 = (refl, refl)
tolerance binary64 = (refl, refl)

-- 3 / c is below 10000 / c
below : (x y : Float) (c : ℕ) → 0 < c → AtMost x 3 c → HasValue y false 10000 c → T (lt x y)
unfolding lt
below nan y c C h k = absurd h
below (inf s) y c C h k = absurd h
below (fin s m e) nan c C h k = absurd k
below (fin s m e) (inf t) c C h k = absurd k
below (fin s m e) (fin true n d) c C h k = absurd (true≢false k.0)
below (fin s m e) (fin false n d) c C h k = go s
  where
    A : ℕ
    A = m * up e * down d

    B : ℕ
    B = n * up d * down e

    at : A * c ≤ 3 * (down e * down d)
    at = le_trans (le_of_eq (mul_right_comm (m * up e) (down d) c)) (le_trans (mul-le-mul_right (down d) h) (le_of_eq (mul_assoc 3 (down e) (down d))))

    to : B * c ≡ 10000 * (down e * down d)
    to = mul_right_comm (n * up d) (down e) c ∙ ap (λ (z : ℕ). z * down e) k.1 ∙ mul_assoc 10000 (down d) (down e) ∙ ap (λ (z : ℕ). 10000 * z) (mul_comm (down d) (down e))

    apart : (x y z : ℕ) → 0 < z → x ≤ 3 * z → y ≡ 10000 * z → x < y
    apart x y z Z h k = omega arith

    l : A < B
    l = lt_of_mul-lt-mul_right c (apart (A * c) (B * c) (down e * down d) (mul-pos (down_pos e) (down_pos d)) at to)

    some : (x y : ℕ) → x < y → 0 < x + y
    some x y h = omega arith

    go : (s : Bool) → T (lt (fin s m e) (fin false n d))
    go true = lt→ltb 0 (A + B) (some A B l)
    go false = lt→ltb A B l

-- a component of 0 - p
away : (f : Format) (x : Float) → AtMost x 1 (2 ^ bits f) → AtMost (sub f zero_f x) 1 (2 ^ bits f)
unfolding sub
away f x h = add-bound f zero_f (neg x) 0 1 (2 ^ bits f) (pow_pos (bits f)) (held_all f).0 (le_of_eq (zero-mul (2 ^ bits f))) (neg-bound x 1 (2 ^ bits f) h)

-- and its square
squared : (f : Format) (x : Float) → T (fits f x) → T (near f x zero_f) → AtMost (mul f (sub f zero_f x) (sub f zero_f x)) 1 (cc f)
squared f x h t = let b = away f x (component f x h t) in mul-bound f (sub f zero_f x) (sub f zero_f x) 1 1 (2 ^ bits f) (2 ^ bits f) (pow_pos (bits f)) (pow_pos (bits f)) (held_all f).1.0 b b

pub inside-is-within : (f : Format) (p : Vec3) → T (fits f p.x) → T (fits f p.y) → T (fits f p.z) → T (is_inside f p zero_v) → T (within f p zero_v (polytope_tol f))
unfolding is_inside within zero_v sub_v dot_v length_squared_v
inside-is-within f p X Y Z t =
    let a : Bool = near f p.x zero_f in
    let b : Bool = near f p.y zero_f in
    let c : Bool = near f p.z zero_f in
    let x = squared f p.x X (and_l a b (and_l (a && b) c t)) in
    let y = squared f p.y Y (and_r a b (and_l (a && b) c t)) in
    let z = squared f p.z Z (and_r (a && b) c t) in
    let C : 0 < cc f = mul-pos (pow_pos (bits f)) (pow_pos (bits f)) in
    below _ _ (cc f) C (add-bound f _ _ 2 1 (cc f) C (held_all f).1.1.1 (add-bound f _ _ 1 1 (cc f) C (held_all f).1.1.0 x y) z) (tolerance f)

-- so the flag decides nothing
or_same : (a b : Bool) → (T a → T b) → (a || b) ≡ b
or_same true true h = refl
or_same true false h = absurd (h tt)
or_same false b h = refl

pub flag-adds-nothing : (f : Format) (p : Vec3) → T (fits f p.x) → T (fits f p.y) → T (fits f p.z) → is_inside_eps f (is_inside f p zero_v) p zero_v (polytope_tol f) ≡ within_origin f p (polytope_tol f)
unfolding is_inside_eps within_origin
flag-adds-nothing f p X Y Z = or_same (is_inside f p zero_v) (within f p zero_v (polytope_tol f)) (inside-is-within f p X Y Z)

-- Where the Rust answers solid, the point is the origin itself and the flag is set: the flag above is set there too.
pub solid-is-inside : (f : Format) → is_inside f zero_v zero_v ≡ true
unfolding is_inside zero_v relative_eq eq
solid-is-inside f = refl
