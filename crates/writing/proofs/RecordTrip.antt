-- Records there and back, on their words: a valid record that is encoded at a place is read there as itself (`encoded-case`), and what is read whole is valid, and
-- the bytes that it was read from are its encoding (`decoded-case`), so that refusal 4 is given exactly where no valid record is encoded (`refused-only`, `refused-whenever`).
-- By the numbers of a record, each there and back. Assumes nothing.
use Prim.Native.Nat.{ℕ, zero, suc, ◌+◌, ◌-◌, ◌^◌, ◌<◌, ◌≤◌}
use mathlib.Core.Path.{◌≡◌, refl, sym, ap, subst, ◌∙◌}
use mathlib.Core.Bool.{Bool, true, false, cond}
use mathlib.Core.List.{List, [], ◌∷◌, ◌++◌, append_assoc, append-nil}
use native.Mathlib.Nat.{add-zero}
use native.Mathlib.Omega.{arith}
use lib.ListN.{length, take, drop, length-append, take-append-drop}
use lib.Seq.{drop-append_seam, drop-drop, take-append_seam}
use lib.Dec.{leb}
use lib.Ieee.{Format}
use borrow.Author.Tests.{le-leb, leb-true}
use Rattle.std.specs.Prelude.{Result, Ok, Err}
use Rattle.casefile.specs.declared.numbers.Got.{Got}
use Rattle.casefile.specs.declared.numbers.NumberError.{NumberError}
use Rattle.casefile.specs.declared.records.Case.{Case}
use Rattle.casefile.specs.declared.records.CaseError.{CaseError}
use Rattle.casefile.specs.declared.records.CaseError.TheVariants.{Malformed}
use Rattle.casefile.specs.Numbers.{got, decode_number, encode}
use Rattle.casefile.specs.Records.{then, number_of, number_at, small_at, numbers_at, ShapeWords, Words, size_of, shape_words_at, words_at, case_of, read_case, case_number, encode_all, shape_numbers, numbers_of, encode_case}
use Rattle.writing.proofs.RoundTrip.{Bytes, Stands, decoded, read_back}

-- ---- rows of numbers

-- every number is below 2 ^ 32
abbrev pub Small : List ℕ → Type 0
Small [] = Unit
Small (n ∷ w) = (n < 2 ^ 32) × Small w

-- the encodings of the numbers w stand at the place p of s, one after the other, and q is the place after them
pub record Row (s : List ℕ) (p : ℕ) (w : List ℕ) (q : ℕ) : Type 0 where
  pub small : Small w
  pub after : q ≡ p + length (encode_all w)
  pub here : drop p s ≡ encode_all w ++ drop q s

pub small-append : (a b : List ℕ) → Small a → Small b → Small (a ++ b)
small-append [] b h k = k
small-append (n ∷ a) b h k = (h.0, small-append a b h.1 k)

small-front : (a b : List ℕ) → Small (a ++ b) → Small a
small-front [] b h = tt
small-front (n ∷ a) b h = (h.0, small-front a b h.1)

small-end : (a b : List ℕ) → Small (a ++ b) → Small b
small-end [] b h = h
small-end (n ∷ a) b h = small-end a b h.1

pub encode-append : (a b : List ℕ) → encode_all (a ++ b) ≡ encode_all a ++ encode_all b
unfolding encode_all
encode-append [] b = refl
encode-append (n ∷ a) b = ap (λ (l : List ℕ). encode n ++ l) (encode-append a b) ∙ sym (append_assoc (encode n) (encode_all a) (encode_all b))

-- past the first of two texts
onward : (s a t : List ℕ) (p : ℕ) → drop p s ≡ a ++ t → drop (p + length a) s ≡ t
onward s a t p e = sym (drop-drop (length a) p s) ∙ ap (drop (length a)) e ∙ drop-append_seam a t

row-none : (s : List ℕ) (q : ℕ) → Row s q [] q
unfolding encode_all
row-none s q = record { small = tt; after = sym (add-zero q); here = refl }

row_one : {s : List ℕ} {p v q : ℕ} → Stands s p v q → Row s p (v ∷ []) q
unfolding encode_all
row_one {s} {p} {v} {q} h =
    record {
      small = (h.small, tt);
      after = rw (append-nil (encode v)) h.after;
      here = rw (append-nil (encode v)) h.here;
    }

one-row : {s : List ℕ} {p v q : ℕ} → Row s p (v ∷ []) q → Stands s p v q
unfolding encode_all
one-row {s} {p} {v} {q} h =
    record {
      small = h.small.0;
      after = rw (append-nil (encode v)) at h.after;
      here = rw (append-nil (encode v)) at h.here;
    }

row-then : {s a b : List ℕ} {p m q : ℕ} → Row s p a m → Row s m b q → Row s p (a ++ b) q
row-then {s} {a} {b} {p} {m} {q} h k =
    record {
      small = small-append a b h.small k.small;
      after = rw (encode-append a b, length-append) (omega (arith, h.after, k.after));
      here = rw (encode-append a b, append_assoc) (h.here ∙ ap (λ (l : List ℕ). encode_all a ++ l) k.here);
    }

record Split (s : List ℕ) (p : ℕ) (a b : List ℕ) (q : ℕ) : Type 0 where
  middle : ℕ
  first : Row s p a middle
  second : Row s middle b q

row-split : (a b : List ℕ) {s : List ℕ} {p q : ℕ} → Row s p (a ++ b) q → Split s p a b q
row-split a b {s} {p} {q} h =
    let e : drop p s ≡ encode_all a ++ (encode_all b ++ drop q s) = rw (← append_assoc, ← encode-append) h.here in
    let d : drop (p + length (encode_all a)) s ≡ encode_all b ++ drop q s = onward s (encode_all a) (encode_all b ++ drop q s) p e in
    let l : length (encode_all (a ++ b)) ≡ length (encode_all a) + length (encode_all b) = rw (encode-append a b) (length-append (encode_all a) (encode_all b)) in
    record {
      middle = p + length (encode_all a);
      first = record { small = small-front a b h.small; after = refl; here = e ∙ ap (λ (l : List ℕ). encode_all a ++ l) (sym d) };
      second = record { small = small-end a b h.small; after = omega (arith, h.after, l); here = d };
    }

-- ---- what a record's words must be

pub record ValidShape (w : ShapeWords) : Type 0 where
  pub kind : w.kind ≤ 3
  pub count : length w.numbers ≡ size_of w.kind

pub record Valid (w : Words) : Type 0 where
  pub first : ValidShape w.first
  pub second : ValidShape w.second
  pub count : length w.numbers ≡ 11
  pub flag : w.flag ≤ 1
  pub small : Small (numbers_of w)

-- ---- there

number-there : {s : List ℕ} {p v q : ℕ} → Stands s p v q → number_at s p ≡ Ok (got v q)
unfolding number_at
number-there {s} {p} {v} {q} h = rw (read_back s p v q h)

small-there : {s : List ℕ} {p v q : ℕ} (top : ℕ) → v ≤ top → Stands s p v q → small_at top s p ≡ Ok (got v q)
unfolding small_at
small-there {s} {p} {v} {q} top k h = simp (number-there h, le-leb v top k)

numbers-there : (w : List ℕ) {s : List ℕ} {p q : ℕ} → Row s p w q → numbers_at (length w) s p ≡ Ok (got w q)
unfolding numbers_at encode_all
numbers-there [] {s} {p} {q} h = ap (λ (k : ℕ). Ok (got [] k)) (sym (h.after ∙ add-zero p))
numbers-there (n ∷ w) {s} {p} {q} h = let r = row-split (n ∷ []) w h in simp (number-there (one-row r.first), numbers-there w r.second)

shape-there : (w : ShapeWords) {s : List ℕ} {p q : ℕ} → ValidShape w → Row s p (shape_numbers w) q → shape_words_at s p ≡ Ok (got w q)
unfolding shape_words_at
shape-there w {s} {p} {q} v h =
    let r = row-split (w.kind ∷ []) w.numbers h in
    simp (small-there 3 v.kind (one-row r.first), ← v.count, numbers-there w.numbers r.second)

words-there : (w : Words) {s : List ℕ} {p q : ℕ} → Valid w → Row s p (numbers_of w) q → words_at s p ≡ Ok (got w q)
unfolding words_at
words-there w {s} {p} {q} v h =
    let a = shape_numbers w.first in
    let b = shape_numbers w.second in
    let e = row-split (a ++ b ++ w.numbers) (w.flag ∷ []) h in
    let n = row-split (a ++ b) w.numbers e.first in
    let f = row-split a b n.first in
    let m : numbers_at 11 s n.middle ≡ Ok (got w.numbers e.middle) = rw (← v.count) (numbers-there w.numbers n.second) in
    simp (shape-there w.first v.first f.first, shape-there w.second v.second f.second, m, small-there 1 v.flag (one-row e.second))

-- ---- and back

-- what was read was read by parts
record Took {A B : Type 0} (x : Result (Got A) CaseError) (more : A → ℕ → Result (Got B) CaseError) (g : Got B) : Type 0 where
  first : Got A
  was : x ≡ Ok first
  rest : more first.value first.next ≡ Ok g

took : {A B : Type 0} {x : Result (Got A) CaseError} {more : A → ℕ → Result (Got B) CaseError} {g : Got B} → then x more ≡ Ok g → Took x more g
took {x = Ok h} e = record { first = h; was = refl; rest = e }
took {x = Err d} e = absurd (cc)

only : {A : Type 0} {x g : Got A} → ◌≡◌ {A = Result (Got A) CaseError} (Ok x) (Ok g) → x ≡ g
only e = cc

number-back-at : {s : List ℕ} {g : Got ℕ} (p : ℕ) (x : Result (Got ℕ) NumberError) → Bytes s → decode_number s p ≡ x → number_of p x ≡ Ok g → Row s p (g.value ∷ []) g.next
number-back-at {s} {g} p (Ok h) b e is = let P : Got ℕ → Type 0 = λ k. Row s p (k.value ∷ []) k.next in subst P (only is) (row_one (decoded s p h.value h.next b e))
number-back-at p (Err NumberError.Malformed) b e is = absurd (cc)
number-back-at p (Err NumberError.Ended) b e is = absurd (cc)

number-back : {s : List ℕ} {g : Got ℕ} (p : ℕ) → Bytes s → number_at s p ≡ Ok g → Row s p (g.value ∷ []) g.next
unfolding number_at
number-back {s} p b h = number-back-at p (decode_number s p) b refl h

small-pick : {x g : Got ℕ} (p top : ℕ) (d : Bool) → leb x.value top ≡ d → cond d (Ok (got x.value x.next)) (Err (Malformed p)) ≡ Ok g → (g.value ≤ top) × (x ≡ g)
small-pick {x} {g} p top true e is = let P : Got ℕ → Type 0 = λ k. k.value ≤ top in (subst P (only is) (leb-true x.value top e), only is)
small-pick p top false e is = absurd (cc)

small-back : {s : List ℕ} {g : Got ℕ} (top p : ℕ) → Bytes s → small_at top s p ≡ Ok g → (g.value ≤ top) × Row s p (g.value ∷ []) g.next
unfolding small_at
small-back {s} {g} top p b h =
    let t = took h in
    let k = small-pick p top (leb t.first.value top) refl t.rest in
    let P : Got ℕ → Type 0 = λ k. Row s p (k.value ∷ []) k.next in
    (k.0, subst P k.1 (number-back p b t.was))

numbers-back : {s : List ℕ} (n p : ℕ) {g : Got (List ℕ)} → Bytes s → numbers_at n s p ≡ Ok g → (length g.value ≡ n) × Row s p g.value g.next
unfolding numbers_at
numbers-back {s} zero p b h = let P : Got (List ℕ) → Type 0 = λ k. (length k.value ≡ 0) × Row s p k.value k.next in subst P (only h) (refl, row-none s p)
numbers-back {s} (suc n) p b h =
    let t = took h in
    let u = took t.rest in
    let k = numbers-back n t.first.next b u.was in
    let P : Got (List ℕ) → Type 0 = λ k. (length k.value ≡ suc n) × Row s p k.value k.next in
    subst P (only u.rest) (ap suc k.0, row-then (number-back p b t.was) k.1)

shape-back : {s : List ℕ} {g : Got ShapeWords} (p : ℕ) → Bytes s → shape_words_at s p ≡ Ok g → ValidShape g.value × Row s p (shape_numbers g.value) g.next
unfolding shape_words_at
shape-back {s} p b h =
    let t = took h in
    let u = took t.rest in
    let k = small-back 3 p b t.was in
    let n = numbers-back (size_of t.first.value) t.first.next b u.was in
    let P : Got ShapeWords → Type 0 = λ k. ValidShape k.value × Row s p (shape_numbers k.value) k.next in
    subst P (only u.rest) (record { kind = k.0; count = n.0 }, row-then k.1 n.1)

words_back : {s : List ℕ} {g : Got Words} (p : ℕ) → Bytes s → words_at s p ≡ Ok g → Valid g.value × Row s p (numbers_of g.value) g.next
unfolding words_at
words_back {s} p b h =
    let first = took h in
    let second = took first.rest in
    let numbers = took second.rest in
    let flag = took numbers.rest in
    let a = shape-back p b first.was in
    let d = shape-back first.first.next b second.was in
    let n = numbers-back 11 second.first.next b numbers.was in
    let e = small-back 1 numbers.first.next b flag.was in
    let row = row-then (row-then (row-then a.1 d.1) n.1) e.1 in
    let P : Got Words → Type 0 = λ k. Valid k.value × Row s p (numbers_of k.value) k.next in
    subst P (only flag.rest) (record { first = a.0; second = d.0; count = n.0; flag = e.0; small = row.small }, row)

-- ---- the laws

-- a valid record that is encoded at a place, whatever follows, is read there as itself
pub encoded-case : (w : Words) (s t : List ℕ) (at : ℕ) → Valid w → drop at s ≡ encode_case w ++ t → words_at s at ≡ Ok (got w (at + length (encode_case w)))
unfolding encode_case
encoded-case w s t at v e =
    let d = onward s (encode_all (numbers_of w)) t at e in
    words-there w v (record { small = v.small; after = refl; here = e ∙ ap (λ (l : List ℕ). encode_all (numbers_of w) ++ l) (sym d) })

-- and `read_case` gives what its words stand for
pub encoded-case-read : (f : Format) (w : Words) (s t : List ℕ) (at : ℕ) → Valid w → drop at s ≡ encode_case w ++ t → read_case f s at ≡ Ok (got (case_of f w) (at + length (encode_case w)))
unfolding read_case
encoded-case-read f w s t at v e = simp (encoded-case w s t at v e)

pub encoded-case-between : (f : Format) (w : Words) (p t : List ℕ) → Valid w → read_case f (p ++ (encode_case w ++ t)) (length p) ≡ Ok (got (case_of f w) (length p + length (encode_case w)))
encoded-case-between f w p t v = encoded-case-read f w (p ++ (encode_case w ++ t)) t (length p) v (drop-append_seam p (encode_case w ++ t))

-- a case that was read from the bytes between two places: the bytes are the encoding of valid words, which stand for the case
pub record Encoded (f : Format) (s : List ℕ) (at : ℕ) (c : Case) (next : ℕ) : Type 0 where
  pub words : Words
  pub valid : Valid words
  pub stands-for : c ≡ case_of f words
  pub after : next ≡ at + length (encode_case words)
  pub bytes : take (next - at) (drop at s) ≡ encode_case words

-- what is read whole is the encoding of what it was read as
pub decoded-case : (f : Format) (s : List ℕ) (at : ℕ) (c : Case) (next : ℕ) → Bytes s → read_case f s at ≡ Ok (got c next) → Encoded f s at c next
unfolding read_case encode_case
decoded-case f s at c next b e =
    let t = took e in
    let w = t.first.value in
    let r = words_back at b t.was in
    let same = only t.rest in
    let a : next ≡ at + length (encode_all (numbers_of w)) = sym (ap (λ (g : Got Case). g.next) same) ∙ r.1.after in
    let l : next - at ≡ length (encode_all (numbers_of w)) = omega (arith, a) in
    let d : drop at s ≡ encode_all (numbers_of w) ++ drop next s = r.1.here ∙ ap (λ (g : Got Case). encode_all (numbers_of w) ++ drop g.next s) same in
    record {
      words = w;
      valid = r.0;
      stands-for = sym (ap (λ (g : Got Case). g.value) same);
      after = a;
      bytes = rw (d, l) (take-append_seam (encode_all (numbers_of w)) (drop next s));
    }

-- refusal 4 is given only where no valid record is encoded, and wherever none is
pub refused-only : (f : Format) (s : List ℕ) (at : ℕ) → case_number (read_case f s at) ≡ 4 → (w : Words) (t : List ℕ) → Valid w → drop at s ≡ encode_case w ++ t → ⊥
refused-only f s at h w t v e = let k = ap (λ (x : Result (Got Case) CaseError). case_number x) (encoded-case-read f w s t at v e) in omega (arith, k)

pub refused-whenever : (f : Format) (s : List ℕ) (at : ℕ) → Bytes s → ((w : Words) (t : List ℕ) → Valid w → drop at s ≡ encode_case w ++ t → ⊥) → case_number (read_case f s at) ≡ 4
refused-whenever f s at b none = go (read_case f s at) refl
  where
    go : (x : Result (Got Case) CaseError) → read_case f s at ≡ x → case_number x ≡ 4
    go (Ok g) e =
        let next = g.next in
        let d = decoded-case f s at g.value next b e in
        let l = drop at s in
        absurd (none d.words (drop (next - at) l) d.valid (sym (take-append-drop (next - at) l) ∙ ap (λ (t : List ℕ). t ++ drop (next - at) l) d.bytes))
    go (Err d) e = refl
