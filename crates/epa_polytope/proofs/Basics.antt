-- Lists of numbers below a bound, and live faces. A place outside a list counts as 0, or as deleted, so no length is asked for. Assumes nothing.
use mathlib.Core.Path.{◌≡◌, refl, ◌∙◌}
use mathlib.Core.List.{List, [], ◌∷◌}
use Prim.Native.Nat.{ℕ, zero, suc, ◌+◌, ◌*◌, ◌<◌, ◌≤◌}
use native.Mathlib.Omega.{arith}
use native.Mathlib.Decide.{ℕ_discrete}
use lib.ListN.{length, get_or, set}
use lib.Seq.{get_or-set_other, sets}
use Rattle.epa_polytope.specs.Stores.{Three, one_if_zero, live_to, neighbour_in, linked_in, face_cells, put_face}
use Rattle.epa_polytope.specs.Silhouette.{Question, pair_put}
use Rattle.epa_polytope.specs.Expansion.{edge_face, edge_corner}
use Rattle.epa_polytope.specs.Bounds.{AllIn, CornersIn, NeighboursIn}

-- what is read where it was written, or where nothing is
pub at_set : (l : List ℕ) (i v n : ℕ) → v < n → get_or (set l i v) i 0 < n
at_set [] i v n h = omega arith
at_set (x ∷ l) zero v n h = h
at_set (x ∷ l) (suc i) v n h = at_set l i v n h

pub in-set : (l : List ℕ) (i v j n : ℕ) → v < n → get_or l j 0 < n → get_or (set l i v) j 0 < n
in-set [] i v j n h k = k
in-set (x ∷ l) zero v zero n h k = h
in-set (x ∷ l) zero v (suc j) n h k = k
in-set (x ∷ l) (suc i) v zero n h k = k
in-set (x ∷ l) (suc i) v (suc j) n h k = in-set l i v j n h k

pub all_set : (l : List ℕ) (i v n c : ℕ) → v < n → AllIn n c l → AllIn n c (set l i v)
all_set l i v n c h a = record { below = λ j k. in-set l i v j n h (a.below j k) }

-- one more place, that is written
pub all_push : (l : List ℕ) (v n c : ℕ) → v < n → AllIn n c l → AllIn n (c + 1) (set l c v)
all_push l v n c h a = record { below = λ j k. by j k (ℕ_discrete j c) }
  where
    by : (j : ℕ) → j < c + 1 → Dec (j ≡ c) → get_or (set l c v) j 0 < n
    by j k (yes e) = rw e (at_set l c v n h)
    by j k (no e) = in-set l c v j n h (a.below j (omega arith))

pub all-fewer : (l : List ℕ) (n c d : ℕ) → d ≤ c → AllIn n c l → AllIn n d l
all-fewer l n c d h a = record { below = λ j k. a.below j (omega arith) }

pub all_none : (l : List ℕ) (n : ℕ) → AllIn n 0 l
all_none l n = record { below = λ j k. let z : ⊥ = omega arith in absurd z }

-- a higher bound, and fewer places
pub all-as : (l : List ℕ) (n m c d : ℕ) → n ≤ m → d ≤ c → AllIn n c l → AllIn m d l
all-as l n m c d h k a = record { below = λ j i. omega (arith, a.below j (omega arith)) }

-- ---- a row of places is written

-- below it nothing is changed
pub sets_below : (xs l : List ℕ) (p q d : ℕ) → q < p → get_or (sets l p xs) q d ≡ get_or l q d
sets_below [] l p q d h = refl
sets_below (x ∷ xs) l p q d h = sets_below xs (set l p x) (suc p) q d (omega arith) ∙ get_or-set_other l p q x d (λ e. omega arith)

-- in it is what was written, or nothing is
pub at-sets : (xs l : List ℕ) (p j n : ℕ) → j < length xs → get_or xs j 0 < n → get_or (sets l p xs) (p + j) 0 < n
at-sets [] l p j n h k = let z : ⊥ = omega arith in absurd z
at-sets (x ∷ xs) l p zero n h k = let e : p + 0 ≡ p = omega arith in rw (e, sets_below xs (set l p x) (suc p) p 0 (omega arith)) (at_set l p x n k)
at-sets (x ∷ xs) l p (suc j) n h k = let e : p + suc j ≡ suc p + j = omega arith in rw e (at-sets xs (set l p x) (suc p) j n (omega arith) k)

-- ---- corners and neighbours

-- a neighbour is written: no corner is changed, and each neighbour is below the bound if the new one is
pub corners-linked : (ids : List ℕ) (i k j n c : ℕ) → k < 3 → CornersIn n c ids → CornersIn n c (linked_in ids i k j)
corners-linked ids i k j n c hk a = record { below = λ x y hx hy. rw (get_or-set_other ids (i * 6 + (3 + k)) (x * 6 + y) j 0 (λ e. omega arith)) (a.below x y hx hy) }

pub neighbours-linked : (ids : List ℕ) (i k j n c : ℕ) → j < n → NeighboursIn n c ids → NeighboursIn n c (linked_in ids i k j)
neighbours-linked ids i k j n c hj a = record { below = λ x y hx hy. in-set ids (i * 6 + (3 + k)) j (x * 6 + (3 + y)) n hj (a.below x y hx hy) }

pub no-corners : (n : ℕ) (ids : List ℕ) → CornersIn n 0 ids
no-corners n ids = record { below = λ x y hx hy. let z : ⊥ = omega arith in absurd z }

pub no-neighbours : (n : ℕ) (ids : List ℕ) → NeighboursIn n 0 ids
no-neighbours n ids = record { below = λ x y hx hy. let z : ⊥ = omega arith in absurd z }

-- a higher bound, and fewer faces
pub corners-as : (ids : List ℕ) (n m c d : ℕ) → n ≤ m → d ≤ c → CornersIn n c ids → CornersIn m d ids
corners-as ids n m c d h k a = record { below = λ x y hx hy. omega (arith, a.below x y (omega arith) hy) }

pub neighbours-as : (ids : List ℕ) (n m c d : ℕ) → n ≤ m → d ≤ c → NeighboursIn n c ids → NeighboursIn m d ids
neighbours-as ids n m c d h k a = record { below = λ x y hx hy. omega (arith, a.below x y (omega arith) hy) }

-- a face is written: the others are as they were, and of it each number is what was written
pub put_other : (ids : List ℕ) (n : ℕ) (corners neighbours : Three) (i k : ℕ) → i < n → k < 6 → get_or (put_face ids n corners neighbours) (i * 6 + k) 0 ≡ get_or ids (i * 6 + k) 0
put_other ids n corners neighbours i k h l = sets_below (face_cells corners neighbours) ids (n * 6) (i * 6 + k) 0 (omega arith)

-- three numbers below a bound
pub record ThreeIn (n : ℕ) (t : Three) : Type 0 where
  pub a : t.a < n
  pub b : t.b < n
  pub c : t.c < n

corner-cell : (corners neighbours : Three) (n k : ℕ) → k < 3 → ThreeIn n corners → get_or (face_cells corners neighbours) k 0 < n
corner-cell corners neighbours n zero l h = h.a
corner-cell corners neighbours n (suc zero) l h = h.b
corner-cell corners neighbours n (suc (suc zero)) l h = h.c
corner-cell corners neighbours n (suc (suc (suc k))) l h = let z : ⊥ = omega arith in absurd z

neighbour-cell : (corners neighbours : Three) (n k : ℕ) → k < 3 → ThreeIn n neighbours → get_or (face_cells corners neighbours) (3 + k) 0 < n
neighbour-cell corners neighbours n zero l h = h.a
neighbour-cell corners neighbours n (suc zero) l h = h.b
neighbour-cell corners neighbours n (suc (suc zero)) l h = h.c
neighbour-cell corners neighbours n (suc (suc (suc k))) l h = let z : ⊥ = omega arith in absurd z

pub corners-put : (ids : List ℕ) (n c : ℕ) (corners neighbours : Three) → ThreeIn n corners → CornersIn n c ids → CornersIn n (c + 1) (put_face ids c corners neighbours)
corners-put ids n c corners neighbours h a = record { below = λ x y hx hy. by x y hx hy (ℕ_discrete x c) }
  where
    by : (x y : ℕ) → x < c + 1 → y < 3 → Dec (x ≡ c) → get_or (put_face ids c corners neighbours) (x * 6 + y) 0 < n
    by x y hx hy (yes e) = rw e (at-sets (face_cells corners neighbours) ids (c * 6) y n (omega arith) (corner-cell corners neighbours n y hy h))
    by x y hx hy (no e) = let l : x < c = apart x c hx e in rw (put_other ids c corners neighbours x y l (omega arith)) (a.below x y l hy)
      where
        apart : (x c : ℕ) → x < c + 1 → (x ≡ c → ⊥) → x < c
        apart x c h e = omega arith

pub neighbours-put : (ids : List ℕ) (n c : ℕ) (corners neighbours : Three) → ThreeIn n neighbours → NeighboursIn n c ids → NeighboursIn n (c + 1) (put_face ids c corners neighbours)
neighbours-put ids n c corners neighbours h a = record { below = λ x y hx hy. by x y hx hy (ℕ_discrete x c) }
  where
    by : (x y : ℕ) → x < c + 1 → y < 3 → Dec (x ≡ c) → get_or (put_face ids c corners neighbours) (x * 6 + (3 + y)) 0 < n
    by x y hx hy (yes e) = rw e (at-sets (face_cells corners neighbours) ids (c * 6) (3 + y) n (omega arith) (neighbour-cell corners neighbours n y hy h))
    by x y hx hy (no e) = let l : x < c = apart x c hx e in rw (put_other ids c corners neighbours x (3 + y) l (omega arith)) (a.below x y l hy)
      where
        apart : (x c : ℕ) → x < c + 1 → (x ≡ c → ⊥) → x < c
        apart x c h e = omega arith

-- the same, where the second neighbour of the new face is not asked about
but-second-cell : (corners neighbours : Three) (n k : ℕ) → k < 3 → (k ≡ 1 → ⊥) → neighbours.a < n → neighbours.c < n → get_or (face_cells corners neighbours) (3 + k) 0 < n
but-second-cell corners neighbours n zero l e a c = a
but-second-cell corners neighbours n (suc zero) l e a c = absurd (e refl)
but-second-cell corners neighbours n (suc (suc zero)) l e a c = c
but-second-cell corners neighbours n (suc (suc (suc k))) l e a c = let z : ⊥ = omega arith in absurd z

pub but-second : (ids : List ℕ) (n c : ℕ) (corners neighbours : Three) → neighbours.a < n → neighbours.c < n → NeighboursIn n c ids
    → (x y : ℕ) → x < c + 1 → y < 3 → (x ≡ c → y ≡ 1 → ⊥) → neighbour_in (put_face ids c corners neighbours) x y < n
but-second ids n c corners neighbours ha hc a x y hx hy e = by (ℕ_discrete x c)
  where
    by : Dec (x ≡ c) → get_or (put_face ids c corners neighbours) (x * 6 + (3 + y)) 0 < n
    by (yes q) = rw q (at-sets (face_cells corners neighbours) ids (c * 6) (3 + y) n (omega arith) (but-second-cell corners neighbours n y hy (e q) ha hc))
    by (no q) = let l : x < c = apart x c hx q in rw (put_other ids c corners neighbours x (3 + y) l (omega arith)) (a.below x y l hy)
      where
        apart : (x c : ℕ) → x < c + 1 → (x ≡ c → ⊥) → x < c
        apart x c h e = omega arith

-- ---- edges

-- n edges, each of a face below N and a corner of it
pub record EdgesIn (N n : ℕ) (l : List ℕ) : Type 0 where
  pub faces : (i : ℕ) → i < n → edge_face l i < N
  pub corners : (i : ℕ) → i < n → edge_corner l i < 3

pub no_edges : (N : ℕ) (l : List ℕ) → EdgesIn N 0 l
no_edges N l = record { faces = λ i h. let z : ⊥ = omega arith in absurd z; corners = λ i h. let z : ⊥ = omega arith in absurd z }

pub edges-put : (N n : ℕ) (l : List ℕ) (q : Question) → q.face < N → q.corner < 3 → EdgesIn N n l → EdgesIn N (n + 1) (pair_put l n q)
edges-put N n l q hf hc a = record { faces = λ i h. face i h (ℕ_discrete i n); corners = λ i h. corner i h (ℕ_discrete i n) }
  where
    first : List ℕ
    first = set l (n * 2) q.face

    face : (i : ℕ) → i < n + 1 → Dec (i ≡ n) → get_or (set first (n * 2 + 1) q.corner) (i * 2) 0 < N
    face i h (yes e) = rw (e, get_or-set_other first (n * 2 + 1) (n * 2) q.corner 0 (λ z. omega arith)) (at_set l (n * 2) q.face N hf)
    face i h (no e) =
        rw (get_or-set_other first (n * 2 + 1) (i * 2) q.corner 0 (λ z. omega arith), get_or-set_other l (n * 2) (i * 2) q.face 0 (λ z. e (omega arith)))
        (a.faces i (omega arith))

    corner : (i : ℕ) → i < n + 1 → Dec (i ≡ n) → get_or (set first (n * 2 + 1) q.corner) (i * 2 + 1) 0 < 3
    corner i h (yes e) = rw e (at_set first (n * 2 + 1) q.corner 3 hc)
    corner i h (no e) =
        rw (get_or-set_other first (n * 2 + 1) (i * 2 + 1) q.corner 0 (λ z. e (omega arith)), get_or-set_other l (n * 2) (i * 2 + 1) q.face 0 (λ z. omega arith))
        (a.corners i (omega arith))

-- ---- live faces

-- a face outside the n is not counted
pub live_out : (n : ℕ) (d : List ℕ) (i v : ℕ) → n ≤ i → live_to n (set d i v) ≡ live_to n d
unfolding live_to
live_out zero d i v h = refl
live_out (suc n) d i v h =
    let e : n ≡ i → ⊥ = λ q. omega arith in
    rw (get_or-set_other d i n v 1 e, live_out n d i v (omega arith))

dead-at : (d : List ℕ) (i : ℕ) → one_if_zero (get_or (set d i 1) i 1) ≡ 0
dead-at [] i = refl
dead-at (x ∷ d) zero = refl
dead-at (x ∷ d) (suc i) = dead-at d i

-- to delete a live face takes one from the live ones
pub live-delete : (n : ℕ) (d : List ℕ) (i : ℕ) → i < n → get_or d i 1 ≡ 0 → live_to n d ≡ suc (live_to n (set d i 1))
unfolding live_to
live-delete zero d i h z = omega arith
live-delete (suc n) d i h z = by (λ l. live-delete n d i l z) (ℕ_discrete n i)
  where
    by : (i < n → live_to n d ≡ suc (live_to n (set d i 1))) → Dec (n ≡ i) → live_to (suc n) d ≡ suc (live_to (suc n) (set d i 1))
    by ih (yes e) = rw e (rw (dead-at d i, z, live_out i d i 1 (omega arith)) (omega arith))
    by ih (no e) = rw (get_or-set_other d i n 1 1 e) (omega (arith, ih (omega (arith, apart e))))
      where
        apart : (n ≡ i → ⊥) → i < n
        apart e = omega arith

-- to delete any face makes none live
pub live-set : (n : ℕ) (d : List ℕ) (i : ℕ) → live_to n (set d i 1) ≤ live_to n d
unfolding live_to
live-set zero d i = omega arith
live-set (suc n) d i = by (live-set n d i) (ℕ_discrete n i)
  where
    by : live_to n (set d i 1) ≤ live_to n d → Dec (n ≡ i) → live_to (suc n) (set d i 1) ≤ live_to (suc n) d
    by ih (yes e) = rw e (rw (dead-at d i, live_out i d i 1 (omega arith)) (omega arith))
    by ih (no e) = rw (get_or-set_other d i n 1 1 e) (omega (arith, ih))

one-most : (x : ℕ) → one_if_zero x ≤ 1
one-most zero = omega arith
one-most (suc x) = omega arith

-- a new face is at most one more
pub live-push : (n : ℕ) (d : List ℕ) → live_to (n + 1) (set d n 0) ≤ live_to n d + 1
unfolding live_to
live-push n d = rw (native.Mathlib.Numerals.add-one n) (rw (live_out n d n 0 (omega arith)) (omega (arith, one-most (get_or (set d n 0) n 1))))
