-- Bytes moved to the start of a buffer, one after the other in their order: a byte that is moved was not written over before (`one-more-front`), since it stands at its new place or
-- after it. Assumes nothing.
use Rattle.std.proofs.Common.{◌≡◌, ℕ, suc, ◌+◌, ◌<◌, ◌≤◌, List, [], ◌∷◌, ◌++◌, add-zero, add-one, length, get_or, take, drop, set, sym, refl, ap, ◌∙◌, arith, length-drop, length-take-le, get_or-drop, get_or-set_other}
use lib.Seq.{sets, take-suc}

-- what stands after the places written to
beyond : (l o : List ℕ) (at j : ℕ) → at + length l ≤ j → get_or (sets o at l) j 0 ≡ get_or o j 0
beyond [] o at j h = refl
beyond (x ∷ l) o at j h = beyond l (set o at x) (suc at) j (omega arith) ∙ get_or-set_other o at j x 0 (λ e. omega arith)

sets-append : (l m o : List ℕ) (at : ℕ) → sets o at (l ++ m) ≡ sets (sets o at l) (at + length l) m
sets-append [] m o at = rw (add-zero at)
sets-append (x ∷ l) m o at = sets-append l m (set o at x) (suc at) ∙ ap (λ (k : ℕ). sets (sets (set o at x) (suc at) l) k m) (omega arith)

-- one byte more
one_more : (o t : List ℕ) (at i : ℕ) → i < length t → set (sets o at (take i t)) (at + i) (get_or t i 0) ≡ sets o at (take (i + 1) t)
one_more o t at i h =
    let k : length (take i t) ≡ i = length-take-le i t (omega arith) in
    sym (rw (add-one, take-suc t i 0, sets-append (take i t) (get_or t i 0 ∷ []) o at, k))

-- a turn of the loop that moves
pub one-more-front : (s : List ℕ) (from i : ℕ) → from + i < length s
    → set (sets s 0 (take i (drop from s))) i (get_or (sets s 0 (take i (drop from s))) (from + i) 0) ≡ sets s 0 (take (i + 1) (drop from s))
one-more-front s from i h =
    let t = drop from s in
    let k : i < length t = omega (arith, length-drop from s) in
    let m : length (take i t) ≡ i = length-take-le i t (omega arith) in
    let z : 0 + length (take i t) ≤ from + i = omega (arith, m) in
    ap (set (sets s 0 (take i t)) i) (beyond (take i t) s 0 (from + i) z ∙ sym (get_or-drop from s i 0))
    ∙ ap (λ (p : ℕ). set (sets s 0 (take i t)) p (get_or t i 0)) (omega arith)
    ∙ one_more s t 0 i k
