-- Numbers there and back: what is encoded decodes to itself, whatever stands around it (`encoded`), and what decodes is the encoding of what it decoded to (`decoded`).
-- By the groups of a number. Assumes nothing.
use Prim.Native.Nat.{ℕ, zero, suc, ◌+◌, ◌*◌, ◌/◌, ◌%◌, ◌^◌, ◌<◌, ◌≤◌}
use mathlib.Core.Path.{◌≡◌, refl, sym, ap, ◌∙◌}
use mathlib.Core.Bool.{Bool, true, false, cond}
use mathlib.Core.List.{List, [], ◌∷◌, ◌++◌}
use native.Mathlib.Omega.{arith}
use lib.ListN.{length, drop, get_or}
use lib.Seq.{drop-drop, get_or-drop}
use lib.Dec.{ltb, leb, eqb}
use borrow.Author.Tests.{ne_eqb, lt-ltb, le-ltb, le-leb, ltb-true, ltb-false, leb-true, eqb-false}
use Rattle.std.specs.Prelude.{Result, Ok, Err}
use Rattle.casefile.specs.declared.numbers.Got.{Got}
use Rattle.casefile.specs.declared.numbers.NumberError.{NumberError}
use Rattle.casefile.specs.declared.numbers.NumberError.TheVariants.{Malformed}
use Rattle.casefile.specs.Numbers.{got, read, joined, later_in, first_of, decode_number, encode_in, encode, limit}
use Rattle.casefile.proofs.Groups.{some}

-- the elements are bytes
abbrev pub Bytes : List ℕ → Type 0
Bytes s = (i : ℕ) → get_or s i 0 < 256

-- ---- an encoding, by its length

short : (n v : ℕ) → v < 128 → encode_in (suc n) v ≡ v ∷ []
unfolding encode_in
short n v h = rw (lt-ltb v 128 h)

long : (n v : ℕ) → 128 ≤ v → encode_in (suc n) v ≡ (128 + v % 128) ∷ encode_in n (v / 128)
unfolding encode_in
long n v h = rw (le-ltb v 128 h)

-- ---- there

same : {v w m n : ℕ} → v ≡ w → m ≡ n → read v m ≡ read w n
same p q = rw (p, q)

-- a group before an encoding
group-back : (v at m : ℕ) (x : Result (Got ℕ) NumberError) → x ≡ read (v / 128) (at + 1 + m) → joined ((128 + v % 128) % 128) x ≡ read v (at + suc m)
group-back v at m x i = rw i (same (omega arith) (omega arith))

-- what n + 1 groups do to a number that n groups bring back
abbrev Back : ℕ → Type 0
Back n = (v : ℕ) → 0 < v → v < limit n → (t : List ℕ) (at : ℕ) → later_in n (encode_in n v ++ t) at ≡ read v (at + length (encode_in n v))

later-back-at : (n v : ℕ) (d : Bool) → Back n → ltb v 128 ≡ d → 0 < v → v < 128 * limit n → (t : List ℕ) (at : ℕ) → later_in (suc n) (encode_in (suc n) v ++ t) at ≡ read v (at + length (encode_in (suc n) v))
unfolding later_in
later-back-at n v true i e h k t at = let l = ltb-true v 128 e in simp (short n v l, e, ne_eqb v 0 (λ z. omega arith))
later-back-at n v false i e h k t at =
    let g = ltb-false v 128 e in
    rw (long n v g, ne_eqb (128 + v % 128) 0 (λ z. omega arith), le-ltb (128 + v % 128) 128 (omega arith))
    (group-back v at (length (encode_in n (v / 128))) _ (i (v / 128) (omega arith) (omega arith) t (at + 1)))

later-back : (n : ℕ) → Back n
unfolding later_in encode_in
later-back zero v h k t at = rw (ne_eqb v 0 (λ z. omega arith), le-leb v 15 (omega arith))
later-back (suc n) v h k t at = later-back-at n v (ltb v 128) (later-back n) refl h k t at

first_back : (v : ℕ) (d : Bool) → ltb v 128 ≡ d → v < 2 ^ 32 → (t : List ℕ) (at : ℕ) → first_of (encode v ++ t) at ≡ read v (at + length (encode v))
unfolding first_of encode
first_back v true e k t at = let l = ltb-true v 128 e in simp (short 3 v l, e)
first_back v false e k t at =
    let g = ltb-false v 128 e in
    rw (long 3 v g, le-ltb (128 + v % 128) 128 (omega arith))
    (group-back v at (length (encode_in 3 (v / 128))) _ (later-back 3 (v / 128) (omega arith) (omega arith) t (at + 1)))

-- what is encoded decodes to itself, wherever it stands and whatever follows
pub encoded : (s t : List ℕ) (at v : ℕ) → v < 2 ^ 32 → drop at s ≡ encode v ++ t → decode_number s at ≡ read v (at + length (encode v))
unfolding decode_number
encoded s t at v k e = rw e (first_back v (ltb v 128) refl k t at)

-- ---- and back

none : {v m : ℕ} {e : NumberError} → Err e ≡ read v m → ⊥
none e = cc

-- what is read is one number and one place after it
value : {v w m n : ℕ} → read v m ≡ read w n → v ≡ w
value {v} {w} {m} {n} e = let h : got v m ≡ got w n = cc in ap (λ (g : Got ℕ). g.value) h

place : {v w m n : ℕ} → read v m ≡ read w n → m ≡ n
place {v} {w} {m} {n} e = let h : got v m ≡ got w n = cc in ap (λ (g : Got ℕ). g.next) h

record Parted (l : ℕ) (x : Result (Got ℕ) NumberError) (v next : ℕ) : Type 0 where
  high : ℕ
  was : x ≡ read high next
  sum : v ≡ l + 128 * high

unjoin : (l : ℕ) (x : Result (Got ℕ) NumberError) (v next : ℕ) → joined l x ≡ read v next → Parted l x v next
unjoin l (Ok g) v next e = record { high = g.value; was = ap (λ (n : ℕ). read g.value n) (place e); sum = sym (value e) }
unjoin l (Err d) v next e = absurd (none e)

-- s starts with the encoding of v, by at most n + 1 groups, at the place `at`
record Starts (n : ℕ) (s : List ℕ) (at v next : ℕ) : Type 0 where
  small : v < limit n
  after : next ≡ at + length (encode_in n v)
  here : s ≡ encode_in n v ++ drop (length (encode_in n v)) s

starts-one : (n x : ℕ) (s : List ℕ) (at v next : ℕ) → x < 128 → read x (at + 1) ≡ read v next → Starts (suc n) (x ∷ s) at v next
starts-one n x s at v next h e =
    let p : x ≡ v = value e in
    let q : at + 1 ≡ next = place e in
    let k : v < 128 = omega arith in
    record { small = omega (arith, some n); after = rw (short n v k) (sym q); here = rw (short n v k) (ap (λ (y : ℕ). y ∷ s) p) }

starts_more : (n x : ℕ) (s : List ℕ) (at v next : ℕ) (p : Parted (x % 128) (later_in n s (at + 1)) v next) → 128 ≤ x → x < 256 → 0 < p.high → Starts n s (at + 1) p.high next → Starts (suc n) (x ∷ s) at v next
starts_more n x s at v next p h k z i =
    let w = p.high in
    let d : v / 128 ≡ w = omega (arith, p.sum) in
    let b : 128 + v % 128 ≡ x = omega (arith, p.sum) in
    let e : encode_in (suc n) v ≡ x ∷ encode_in n w = long n v (omega (arith, p.sum)) ∙ rw (d, b) in
    record {
      small = omega (arith, p.sum, i.small);
      after = rw e (i.after ∙ omega arith);
      here = rw e (ap (λ (l : List ℕ). x ∷ l) i.here);
    }

-- a later group is above zero, and so is what it starts
abbrev Told : ℕ → Type 0
Told n = (s : List ℕ) (at v next : ℕ) → Bytes s → later_in n s at ≡ read v next → (0 < v) × Starts n s at v next

later-told-at : (n x : ℕ) (s : List ℕ) (at v next : ℕ) (p q : Bool) → Told n → eqb x 0 ≡ p → ltb x 128 ≡ q → Bytes (x ∷ s) → cond p (Err Malformed) (cond q (read x (at + 1)) (joined (x % 128) (later_in n s (at + 1)))) ≡ read v next → (0 < v) × Starts (suc n) (x ∷ s) at v next
later-told-at n x s at v next true q i e f b g = absurd (none g)
later-told-at n x s at v next false true i e f b g =
    let p : x ≡ v = value g in
    let z = eqb-false x 0 e in
    let y : 0 < x = omega arith in
    (omega arith, starts-one n x s at v next (ltb-true x 128 f) g)
later-told-at n x s at v next false false i e f b g =
    let p = unjoin (x % 128) (later_in n s (at + 1)) v next g in
    let r = i s (at + 1) p.high next (λ j. b (suc j)) p.was in
    (omega (arith, p.sum, r.0), starts_more n x s at v next p (ltb-false x 128 f) (b 0) r.0 r.1)

fifth-told : (x : ℕ) (s : List ℕ) (at v next : ℕ) (p q : Bool) → eqb x 0 ≡ p → leb x 15 ≡ q → cond p (Err Malformed) (cond q (read x (at + 1)) (Err Malformed)) ≡ read v next → (0 < v) × Starts 0 (x ∷ s) at v next
unfolding encode_in
fifth-told x s at v next true q e f g = absurd (none g)
fifth-told x s at v next false true e f g =
    let p : x ≡ v = value g in
    let q : at + 1 ≡ next = place g in
    let l = leb-true x 15 f in
    let z = eqb-false x 0 e in
    let y : 0 < x = omega arith in
    (omega arith, record { small = omega arith; after = sym q; here = ap (λ (y : ℕ). y ∷ s) p })
fifth-told x s at v next false false e f g = absurd (none g)

later-told : (n : ℕ) → Told n
unfolding later_in
later-told zero [] at v next b e = absurd (none e)
later-told zero (x ∷ s) at v next b e = fifth-told x s at v next (eqb x 0) (leb x 15) refl refl e
later-told (suc n) [] at v next b e = absurd (none e)
later-told (suc n) (x ∷ s) at v next b e = later-told-at n x s at v next (eqb x 0) (ltb x 128) (later-told n) refl refl b e

first-told : (x : ℕ) (s : List ℕ) (at v next : ℕ) (q : Bool) → ltb x 128 ≡ q → Bytes (x ∷ s) → cond q (read x (at + 1)) (joined (x % 128) (later_in 3 s (at + 1))) ≡ read v next → Starts 4 (x ∷ s) at v next
first-told x s at v next true f b g = starts-one 3 x s at v next (ltb-true x 128 f) g
first-told x s at v next false f b g =
    let p = unjoin (x % 128) (later_in 3 s (at + 1)) v next g in
    let r = later-told 3 s (at + 1) p.high next (λ j. b (suc j)) p.was in
    starts_more 3 x s at v next p (ltb-false x 128 f) (b 0) r.0 r.1

starts : (s : List ℕ) (at v next : ℕ) → Bytes s → first_of s at ≡ read v next → Starts 4 s at v next
unfolding first_of
starts [] at v next b e = absurd (none e)
starts (x ∷ s) at v next b e = first-told x s at v next (ltb x 128) refl b e

-- The encoding of v, a number below 2 ^ 32, stands at the place `at` of s, and `next` is the place after it
pub record Stands (s : List ℕ) (at v next : ℕ) : Type 0 where
  pub small : v < 2 ^ 32
  pub after : next ≡ at + length (encode v)
  pub here : drop at s ≡ encode v ++ drop next s

-- what decodes is the encoding of what it decoded to
pub decoded : (s : List ℕ) (at v next : ℕ) → Bytes s → decode_number s at ≡ read v next → Stands s at v next
unfolding decode_number encode
decoded s at v next b e =
    let r = starts (drop at s) at v next (λ i. rw get_or-drop (b (at + i))) e in
    let d : drop (length (encode v)) (drop at s) ≡ drop next s = drop-drop (length (encode v)) at s ∙ ap (λ (k : ℕ). drop k s) (sym r.after) in
    record { small = r.small; after = r.after; here = r.here ∙ ap (λ (l : List ℕ). encode v ++ l) d }

-- so a number stands at a place exactly where it is read there
pub read_back : (s : List ℕ) (at v next : ℕ) → Stands s at v next → decode_number s at ≡ read v next
read_back s at v next r = encoded s (drop next s) at v r.small r.here ∙ ap (read v) (sym r.after)
