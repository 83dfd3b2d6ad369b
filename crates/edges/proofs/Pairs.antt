-- Records as pairs of numbers, there and back. Assumes nothing.
--     length_pairs, room-of-pairs      two numbers a record.        length-records, record-at      as many records as pairs, and what the i-th is
--     records-of, pairs-records        there and back.        records-one      records are known by their numbers
--     pairs-take, records-take         the first k records are the first 2 k numbers
--     pairs_next, pairs-all            a loop that writes one pair in each turn.        pairs-over      pairs over pairs
use mathlib.Core.Path.{◌≡◌, refl, sym, ap, ◌∙◌, subst}
use Prim.Native.Nat.{ℕ, zero, suc, ◌+◌, ◌*◌, ◌/◌, ◌<◌, ◌≤◌, zero-le, min}
use native.Mathlib.Nat.{not-suc-le-zero, le_of_suc-le-suc, le_of_eq}
use native.Mathlib.Numerals.{add-one}
use native.Mathlib.Omega.{arith}
use mathlib.Core.List.{List, [], ◌∷◌}
use lib.ListN.{length, get_or, set, take}
use Rattle.edges.specs.Edges.{edge, over, pairs_of, records}
use Rattle.edges.specs.declared.Edge.{Edge}
use Rattle.edges.proofs.Over.{take_short, over-enough}

-- ---- the places of a pair
twice : (i : ℕ) → suc i * 2 ≡ suc (suc (i * 2))
twice i = omega arith

none : {k : ℕ} → suc k ≡ zero → ⊥
none e = not-suc-le-zero (subst (λ (m : ℕ). m ≤ zero) (sym e) zero-le)

-- a list of an even length has no single last number
odd : (k : ℕ) → 1 ≡ k * 2 → ⊥
odd k e = omega (arith, e)

shorter : (k m : ℕ) → suc (suc m) ≡ suc k * 2 → m ≡ k * 2
shorter k m e = omega (arith, e)

-- ---- there and back
pub length_pairs : (es : List Edge) → length (pairs_of es) ≡ length es * 2
unfolding pairs_of
length_pairs [] = refl
length_pairs (e ∷ es) = ap (λ (k : ℕ). suc (suc k)) (length_pairs es) ∙ sym (twice (length es))

-- as many records as have room in that many places
pub room-of-pairs : (es : List Edge) → length (pairs_of es) / 2 ≡ length es
room-of-pairs es = omega (arith, length_pairs es)

pub records-of : (es : List Edge) → records (pairs_of es) ≡ es
unfolding pairs_of records
records-of [] = refl
records-of (e ∷ es) = ap {B = List Edge} (λ r. e ∷ r) (records-of es)

-- so records are known by their numbers
pub records-one : (es fs : List Edge) → pairs_of es ≡ pairs_of fs → es ≡ fs
records-one es fs e = sym (records-of es) ∙ ap records e ∙ records-of fs

pub length-records : (k : ℕ) (ps : List ℕ) → length ps ≡ k * 2 → length (records ps) ≡ k
unfolding records
length-records zero [] even = refl
length-records (suc k) [] even = absurd (none (sym (even ∙ twice k)))
length-records k (f ∷ []) even = absurd (odd k even)
length-records zero (f ∷ c ∷ ps) even = absurd (none even)
length-records (suc k) (f ∷ c ∷ ps) even = ap suc (length-records k ps (shorter k (length ps) even))

pub pairs-records : (k : ℕ) (ps : List ℕ) → length ps ≡ k * 2 → pairs_of (records ps) ≡ ps
unfolding pairs_of records
pairs-records k [] even = refl
pairs-records k (f ∷ []) even = absurd (odd k even)
pairs-records zero (f ∷ c ∷ ps) even = absurd (none even)
pairs-records (suc k) (f ∷ c ∷ ps) even = ap {B = List ℕ} (λ r. f ∷ c ∷ r) (pairs-records k ps (shorter k (length ps) even))

-- ---- the first k
pub pairs-take : (k : ℕ) (es : List Edge) → pairs_of (take k es) ≡ take (k * 2) (pairs_of es)
unfolding pairs_of
pairs-take zero es = refl
pairs-take (suc k) [] = ap (λ (j : ℕ). take {A = ℕ} j []) (sym (twice k))
pairs-take (suc k) (e ∷ es) = ap {B = List ℕ} (λ r. e.face ∷ e.corner ∷ r) (pairs-take k es) ∙ ap (λ (j : ℕ). take j (e.face ∷ e.corner ∷ pairs_of es)) (sym (twice k))

pub records-take : (k : ℕ) (ps : List ℕ) → take k (records ps) ≡ records (take (k * 2) ps)
unfolding records
records-take zero ps = refl
records-take (suc k) [] = ap (λ (j : ℕ). records (take j [])) (sym (twice k))
records-take (suc k) (f ∷ []) = ap (λ (j : ℕ). records (take j (f ∷ []))) (sym (twice k))
records-take (suc k) (f ∷ c ∷ ps) = ap {B = List Edge} (λ r. edge f c ∷ r) (records-take k ps) ∙ ap (λ (j : ℕ). records (take j (f ∷ c ∷ ps))) (sym (twice k))

-- ---- the i-th record
at_pair : (i : ℕ) (ps : List ℕ) → suc (i * 2) < length ps → get_or (records ps) i (edge 0 0) ≡ edge (get_or ps (i * 2) 0) (get_or ps (suc (i * 2)) 0)
unfolding records
at_pair i [] within = absurd (not-suc-le-zero within)
at_pair i (f ∷ []) within = absurd (not-suc-le-zero (le_of_suc-le-suc within))
at_pair zero (f ∷ c ∷ ps) within = refl
at_pair (suc i) (f ∷ c ∷ ps) within =
    at_pair i ps (omega (arith, within)) ∙ ap (λ (j : ℕ). edge (get_or (f ∷ c ∷ ps) j 0) (get_or (f ∷ c ∷ ps) (suc j) 0)) (sym (twice i))

pub record-at : (i : ℕ) (ps : List ℕ) → i * 2 + 1 < length ps → get_or (records ps) i (edge 0 0) ≡ edge (get_or ps (i * 2) 0) (get_or ps (i * 2 + 1) 0)
record-at i ps within = at_pair i ps (omega (arith, within)) ∙ ap (λ (j : ℕ). edge (get_or ps (i * 2) 0) (get_or ps j 0)) (sym (add-one (i * 2)))

-- ---- written one pair in each turn
put-pair : (i : ℕ) (es : List Edge) (ys : List ℕ) → i < length es
    → set (set (over (pairs_of (take i es)) ys) (i * 2) (get_or es i (edge 0 0)).face) (suc (i * 2)) (get_or es i (edge 0 0)).corner ≡ over (pairs_of (take (suc i) es)) ys
unfolding over pairs_of
put-pair i [] ys within = absurd (not-suc-le-zero within)
put-pair zero (e ∷ es) [] within = refl
put-pair zero (e ∷ es) (y ∷ []) within = refl
put-pair zero (e ∷ es) (y ∷ z ∷ ys) within = refl
put-pair (suc i) (e ∷ es) [] within = ap (λ (k : ℕ). set (set {A = ℕ} [] k (get_or es i (edge 0 0)).face) (suc k) (get_or es i (edge 0 0)).corner) (twice i)
put-pair (suc i) (e ∷ es) (y ∷ []) within = ap (λ (k : ℕ). set (set (e.face ∷ []) k (get_or es i (edge 0 0)).face) (suc k) (get_or es i (edge 0 0)).corner) (twice i)
put-pair (suc i) (e ∷ es) (y ∷ z ∷ ys) within =
    ap (λ (k : ℕ). set (set (e.face ∷ e.corner ∷ over (pairs_of (take i es)) ys) k (get_or es i (edge 0 0)).face) (suc k) (get_or es i (edge 0 0)).corner) (twice i)
    ∙ ap {B = List ℕ} (λ r. e.face ∷ e.corner ∷ r) (put-pair i es ys (le_of_suc-le-suc within))

pub pairs_next : (i : ℕ) (es : List Edge) (ys : List ℕ) → i < length es
    → set (set (over (pairs_of (take i es)) ys) (i * 2) (get_or es i (edge 0 0)).face) (i * 2 + 1) (get_or es i (edge 0 0)).corner ≡ over (pairs_of (take (i + 1) es)) ys
pairs_next i es ys within =
    ap (λ (k : ℕ). set (set (over (pairs_of (take i es)) ys) (i * 2) (get_or es i (edge 0 0)).face) k (get_or es i (edge 0 0)).corner) (add-one (i * 2))
    ∙ put-pair i es ys within ∙ ap (λ (k : ℕ). over (pairs_of (take k es)) ys) (sym (add-one i))

-- a loop that stops where the store or the row ends has written all
pub pairs-all : (m : ℕ) (es : List Edge) (ys : List ℕ) → length ys ≡ m * 2 → over (pairs_of (take (min (length es) m) es)) ys ≡ over (pairs_of es) ys
pairs-all m es ys is = ap (λ (us : List ℕ). over us ys) (ap pairs_of (take_short m es) ∙ pairs-take m es) ∙ over-enough (m * 2) (pairs_of es) ys (le_of_eq is)

-- records written over records are their numbers over numbers
pub pairs-over : (k : ℕ) (ps : List ℕ) (es : List Edge) → length ps ≡ k * 2 → pairs_of (over (records ps) es) ≡ over ps (pairs_of es)
unfolding over pairs_of records
pairs-over k [] es even = refl
pairs-over k (f ∷ []) es even = absurd (odd k even)
pairs-over zero (f ∷ c ∷ ps) es even = absurd (none even)
pairs-over (suc k) (f ∷ c ∷ ps) [] even = refl
pairs-over (suc k) (f ∷ c ∷ ps) (e ∷ es) even = ap {B = List ℕ} (λ r. f ∷ c ∷ r) (pairs-over k ps es (shorter k (length ps) even))
