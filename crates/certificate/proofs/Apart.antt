-- The theorem of ticket 12: where the checker accepts, no point is in both hulls (`apart`). Shown of the definition `certify`, for any lists of whole numbers, which the code meets on every input. Assumes nothing.
use Prim.Native.Nat.{ℕ, suc, ◌*◌, ◌≤◌, ◌<◌}
use mathlib.Core.Path.{◌≡◌, refl, sym, ap, ◌∙◌}
use mathlib.Core.Bool.{true}
use mathlib.Core.List.{List, [], ◌∷◌, Memᴰ}
use native.Mathlib.Nat.{mul-le-mul}
use native.Mathlib.Omega.{arith}
use lib.IntN.{ℤ, pos, ◌+ℤ◌, ◌*ℤ◌, +ℤ_idr, *ℤ-zero, zero-*ℤ}
use lib.ListN.{length}
use Rattle.certificate.specs.declared.GridVector.{GridVector}
use Rattle.std.specs.Prelude.{Ok}
use Rattle.certificate.specs.Certificate.{every, above, product, corners, separated, certify, certificate_number}
use Rattle.certificate.specs.Hulls.{total, weighted, HullPoint, SameAlong, SamePoint}
use Rattle.certificate.proofs.Tests.{each}
use Rattle.certificate.proofs.Answers.{accepted-only, accepted-number}
use Rattle.certificate.proofs.Whole.{inner, sum-times, times-sum, exchange}
use Rattle.certificate.proofs.Gaps.{Gap, lt-gap, gap-zero, gap-as, gap-sum, gap-times, no_gap}

-- ---- weighted sums
weighted-const : (t : ℤ) (ws : List ℕ) (cs : List GridVector) → length ws ≡ length cs → weighted (λ (c : GridVector). t) ws cs ≡ pos (total ws) *ℤ t
unfolding weighted total
weighted-const t [] cs e = sym (zero-*ℤ t)
weighted-const t (w ∷ ws) [] e = absurd (let h : suc (length ws) ≡ 0 = e in let n : ⊥ = omega arith in n)
weighted-const t (w ∷ ws) (c ∷ cs) e =
    ap (λ (x : ℤ). pos w *ℤ t +ℤ x) (weighted-const t ws cs (let h : suc (length ws) ≡ suc (length cs) = e in omega arith)) ∙ sym (sum-times (pos w) (pos (total ws)) t)

weighted-times : (k : ℤ) (g : GridVector → ℤ) (ws : List ℕ) (cs : List GridVector) → weighted (λ (c : GridVector). k *ℤ g c) ws cs ≡ k *ℤ weighted g ws cs
unfolding weighted
weighted-times k g [] cs = sym (*ℤ-zero k)
weighted-times k g (w ∷ ws) [] = sym (*ℤ-zero k)
weighted-times k g (w ∷ ws) (c ∷ cs) =
    ap (λ (x : ℤ). pos w *ℤ (k *ℤ g c) +ℤ x) (weighted-times k g ws cs)
    ∙ ap (λ (x : ℤ). x +ℤ k *ℤ weighted g ws cs) (exchange (pos w) k (g c))
    ∙ sym (times-sum k (pos w *ℤ g c) (weighted g ws cs))

weighted-sum : (g h : GridVector → ℤ) (ws : List ℕ) (cs : List GridVector) → weighted (λ (c : GridVector). g c +ℤ h c) ws cs ≡ weighted g ws cs +ℤ weighted h ws cs
unfolding weighted
weighted-sum g h [] cs = sym (+ℤ_idr (pos 0))
weighted-sum g h (w ∷ ws) [] = sym (+ℤ_idr (pos 0))
weighted-sum g h (w ∷ ws) (c ∷ cs) =
    ap (λ (x : ℤ). pos w *ℤ (g c +ℤ h c) +ℤ x) (weighted-sum g h ws cs)
    ∙ ap (λ (x : ℤ). x +ℤ (weighted g ws cs +ℤ weighted h ws cs)) (times-sum (pos w) (g c) (h c))
    ∙ inner (pos w *ℤ g c) (pos w *ℤ h c) (weighted g ws cs) (weighted h ws cs)

-- a gap at each corner adds up to as many as the weights
weighted-gap : (g h : GridVector → ℤ) (n : ℕ) (ws : List ℕ) (cs : List GridVector) → length ws ≡ length cs → ((c : GridVector) → Memᴰ c cs → Gap (g c) (h c) n) → Gap (weighted g ws cs) (weighted h ws cs) (total ws * n)
unfolding weighted total
weighted-gap g h n [] cs e gap = gap-as refl refl (omega arith) (gap-zero (pos 0))
weighted-gap g h n (w ∷ ws) [] e gap = absurd (let k : suc (length ws) ≡ 0 = e in let f : ⊥ = omega arith in f)
weighted-gap g h n (w ∷ ws) (c ∷ cs) e gap =
    gap-as refl refl (omega arith)
    (gap-sum (gap-times w (gap c (Memᴰ.head refl))) (weighted-gap g h n ws cs (let k : suc (length ws) ≡ suc (length cs) = e in omega arith) (λ b m. gap b (Memᴰ.tail m))))

-- ---- the product with the direction is the same of the same point
along : (d : GridVector) (ws : List ℕ) (cs : List GridVector) → weighted (product d) ws cs ≡ d.x *ℤ weighted (λ (c : GridVector). c.x) ws cs +ℤ d.y *ℤ weighted (λ (c : GridVector). c.y) ws cs +ℤ d.z *ℤ weighted (λ (c : GridVector). c.z) ws cs
unfolding product
along d ws cs =
    weighted-sum (λ (c : GridVector). d.x *ℤ c.x +ℤ d.y *ℤ c.y) (λ (c : GridVector). d.z *ℤ c.z) ws cs
    ∙ ap (λ (s : ℤ). s +ℤ weighted (λ (c : GridVector). d.z *ℤ c.z) ws cs) (weighted-sum (λ (c : GridVector). d.x *ℤ c.x) (λ (c : GridVector). d.y *ℤ c.y) ws cs)
    ∙ rw (weighted-times d.x (λ (c : GridVector). c.x) ws cs, weighted-times d.y (λ (c : GridVector). c.y) ws cs, weighted-times d.z (λ (c : GridVector). c.z) ws cs)

times-three : (k a b c x y z : ℤ) → k *ℤ (a *ℤ x +ℤ b *ℤ y +ℤ c *ℤ z) ≡ a *ℤ (k *ℤ x) +ℤ b *ℤ (k *ℤ y) +ℤ c *ℤ (k *ℤ z)
times-three k a b c x y z =
    times-sum k (a *ℤ x +ℤ b *ℤ y) (c *ℤ z)
    ∙ ap (λ (s : ℤ). s +ℤ k *ℤ (c *ℤ z)) (times-sum k (a *ℤ x) (b *ℤ y))
    ∙ rw (exchange k a x, exchange k b y, exchange k c z)

same-product : (d : GridVector) {first second : List GridVector} (p : HullPoint first) (q : HullPoint second) → SamePoint p q → SameAlong (product d) p q
same-product d {first} {second} p q same =
    let vs = q.weights in
    let ws = p.weights in
    ap (λ (s : ℤ). pos (total vs) *ℤ s) (along d ws first)
    ∙ times-three (pos (total vs)) d.x d.y d.z (weighted (λ (c : GridVector). c.x) ws first) (weighted (λ (c : GridVector). c.y) ws first) (weighted (λ (c : GridVector). c.z) ws first)
    ∙ rw (same.same_x, same.same_y, same.same_z)
    (sym (ap (λ (s : ℤ). pos (total ws) *ℤ s) (along d vs second)
    ∙ times-three (pos (total ws)) d.x d.y d.z (weighted (λ (c : GridVector). c.x) vs second) (weighted (λ (c : GridVector). c.y) vs second) (weighted (λ (c : GridVector). c.z) vs second)))

-- ---- no point is in both
pub never_both : (d : GridVector) (first second : List GridVector) → separated d first second ≡ true → (p : HullPoint first) (q : HullPoint second) → SamePoint p q → ⊥
unfolding separated above
never_both d first second apart p q same =
    let f = product d in
    let ws = p.weights in
    let vs = q.weights in
    let a = weighted f ws first in
    let over : (b : GridVector) → Memᴰ b second → Gap a (pos (total ws) *ℤ f b) (total ws * 1) =
    λ b m. gap-as refl (weighted-const (f b) ws first p.one_each) (omega arith)
    (weighted-gap f (λ (c : GridVector). f b) 1 ws first p.one_each (λ c n. lt-gap (f c) (f b) (each (above d (f c)) second (each (λ (c' : GridVector). every (above d (product d c')) second) first apart n) m))) in
    let summed = weighted-gap (λ (c : GridVector). a) (λ (c : GridVector). pos (total ws) *ℤ f c) (total ws * 1) vs second q.one_each over in
    let both = gap-as (weighted-const a vs second q.one_each ∙ same-product d p q same) (weighted-times (pos (total ws)) f vs second) (positive (total vs) (total ws) q.positive p.positive) summed in
    no_gap (pos (total ws) *ℤ weighted f vs second) {n = 0} both
  where
    positive : (v w : ℕ) → 0 < v → 0 < w → 1 ≤ v * (w * 1)
    positive v w h k = let m : 1 * 1 ≤ v * w = mul-le-mul h k in omega arith

-- Acceptance means that no point is in both hulls.
pub apart : (first second : List ℤ) (d : GridVector) → certify first second d ≡ Ok tt → (p : HullPoint (corners first)) (q : HullPoint (corners second)) → SamePoint p q → ⊥
apart first second d accepted = never_both d (corners first) (corners second) (accepted-only first second d accepted).2

-- The same of the number that goes over to other languages.
pub apart-by-number : (first second : List ℤ) (d : GridVector) → certificate_number (certify first second d) ≡ 0 → (p : HullPoint (corners first)) (q : HullPoint (corners second)) → SamePoint p q → ⊥
apart-by-number first second d e = apart first second d (accepted-number (certify first second d) e)
