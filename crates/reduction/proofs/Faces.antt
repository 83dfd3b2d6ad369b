-- Vertices moved in a list, so many vertices from so many places, and the three places of a face of the tetrahedron (`face-kept`), which proofs/Kept.antt puts together. Assumes nothing.
use mathlib.Core.Path.{◌≡◌, refl, sym, ap, ◌∙◌}
use mathlib.Core.Bool.{Bool, true, false, cond}
use mathlib.Core.List.{List, [], ◌∷◌}
use mathlib.Core.Logic.{◌≢◌}
use Prim.Native.Nat.{ℕ, zero, suc, ◌≤◌, ◌<◌}
use native.Mathlib.Omega.{arith}
use lib.Dec.{eqb}
use lib.ListN.{get_or, set}
use lib.Seq.{get_or-set_other, set-get_or}
use lib.Ieee.{Float}
use Rattle.shape.specs.declared.vertex.Vertex.{Vertex}
use Rattle.simplex.specs.declared.voronoi_simplex.VoronoiSimplex.{VoronoiSimplex}
use Rattle.simplex.specs.Simplex.{nowhere, vertex_at, exchanged}
use Rattle.reduction.specs.declared.location.Location.TheVariants.{OnFace}
use Rattle.reduction.specs.Reduction.{overwrite_in, place_in}
use Rattle.reduction.specs.Reduction.{tetrahedron_face}
use Rattle.reduction.specs.Kept.{Copied, kept_of_tetrahedron, among}

-- ---- vertices moved in a list: a place gets what a place no lower holds

pub moved_down : (l : List Vertex) (a b : ℕ) → a ≤ b → get_or (set l a (get_or l b nowhere)) a nowhere ≡ get_or l b nowhere
moved_down [] a b h = refl
moved_down (x ∷ l) zero b h = refl
moved_down (x ∷ l) (suc a) zero h = let z : ⊥ = omega arith in absurd z
moved_down (x ∷ l) (suc a) (suc b) h = moved_down l a b (omega arith)

-- the lower place of two that change
pub low-place : (l : List Vertex) (a b : ℕ) → a < b → get_or (exchanged nowhere l a b) a nowhere ≡ get_or l b nowhere
low-place l a b h = get_or-set_other (set l a (get_or l b nowhere)) b a (get_or l a nowhere) nowhere (λ e. omega arith) ∙ moved_down l a b (omega arith)

-- another place than the two
pub other_place : (l : List Vertex) (a b p : ℕ) → p ≢ a → p ≢ b → get_or (exchanged nowhere l a b) p nowhere ≡ get_or l p nowhere
other_place l a b p n m = get_or-set_other (set l a (get_or l b nowhere)) b p (get_or l a nowhere) nowhere m ∙ get_or-set_other l a p (get_or l b nowhere) nowhere n

-- the first place gets what any place holds
pub to-first-place : (l : List Vertex) (b : ℕ) → get_or (exchanged nowhere l 0 b) 0 nowhere ≡ get_or l b nowhere
to-first-place l zero = ap (λ (m : List Vertex). get_or m 0 nowhere) (ap (λ (m : List Vertex). set m 0 (get_or l 0 nowhere)) (set-get_or l 0 nowhere) ∙ set-get_or l 0 nowhere)
to-first-place l (suc b) = low-place l 0 (suc b) (omega arith)

-- ---- so many vertices from so many places

module _ (s t : VoronoiSimplex) where
  abbrev Copy : ℕ → ℕ → Type 0
  Copy i a = vertex_at t i ≡ vertex_at s a

  pub one_kept : (a : ℕ) → t.dim ≡ 0 → a ≤ s.dim → Copy 0 a → Copied s t (among (a ∷ []))
  one_kept a d la ca = record { not_grown = omega arith; from_live = live; copies = copy; distinct = λ i j li lj e. omega arith }
    where
      live : (i : ℕ) → i ≤ t.dim → among (a ∷ []) i ≤ s.dim
      live zero l = la
      live (suc i) l = absurd (omega arith)

      copy : (i : ℕ) → i ≤ t.dim → Copy i (among (a ∷ []) i)
      copy zero l = ca
      copy (suc i) l = absurd (omega arith)

  pub two-kept : (a b : ℕ) → t.dim ≡ 1 → 1 ≤ s.dim → a ≤ s.dim → b ≤ s.dim → a ≢ b → Copy 0 a → Copy 1 b → Copied s t (among (a ∷ b ∷ []))
  two-kept a b d ls la lb ab ca cb = record { not_grown = omega arith; from_live = live; copies = copy; distinct = apart }
    where
      live : (i : ℕ) → i ≤ t.dim → among (a ∷ b ∷ []) i ≤ s.dim
      live zero l = la
      live (suc zero) l = lb
      live (suc (suc i)) l = absurd (omega arith)

      copy : (i : ℕ) → i ≤ t.dim → Copy i (among (a ∷ b ∷ []) i)
      copy zero l = ca
      copy (suc zero) l = cb
      copy (suc (suc i)) l = absurd (omega arith)

      apart : (i j : ℕ) → i ≤ t.dim → j ≤ t.dim → among (a ∷ b ∷ []) i ≡ among (a ∷ b ∷ []) j → i ≡ j
      apart zero zero li lj e = refl
      apart zero (suc zero) li lj e = absurd (ab e)
      apart zero (suc (suc j)) li lj e = absurd (omega arith)
      apart (suc zero) zero li lj e = absurd (ab (sym e))
      apart (suc zero) (suc zero) li lj e = refl
      apart (suc zero) (suc (suc j)) li lj e = absurd (omega arith)
      apart (suc (suc i)) j li lj e = absurd (omega arith)

  pub three-kept : (a b c : ℕ) → t.dim ≡ 2 → 2 ≤ s.dim → a ≤ s.dim → b ≤ s.dim → c ≤ s.dim → a ≢ b → a ≢ c → b ≢ c → Copy 0 a → Copy 1 b → Copy 2 c
      → Copied s t (among (a ∷ b ∷ c ∷ []))
  three-kept a b c d ls la lb lc ab ac bc ca cb cc' = record { not_grown = omega arith; from_live = live; copies = copy; distinct = apart }
    where
      live : (i : ℕ) → i ≤ t.dim → among (a ∷ b ∷ c ∷ []) i ≤ s.dim
      live zero l = la
      live (suc zero) l = lb
      live (suc (suc zero)) l = lc
      live (suc (suc (suc i))) l = absurd (omega arith)

      copy : (i : ℕ) → i ≤ t.dim → Copy i (among (a ∷ b ∷ c ∷ []) i)
      copy zero l = ca
      copy (suc zero) l = cb
      copy (suc (suc zero)) l = cc'
      copy (suc (suc (suc i))) l = absurd (omega arith)

      apart : (i j : ℕ) → i ≤ t.dim → j ≤ t.dim → among (a ∷ b ∷ c ∷ []) i ≡ among (a ∷ b ∷ c ∷ []) j → i ≡ j
      apart zero zero li lj e = refl
      apart zero (suc zero) li lj e = absurd (ab e)
      apart zero (suc (suc zero)) li lj e = absurd (ac e)
      apart zero (suc (suc (suc j))) li lj e = absurd (omega arith)
      apart (suc zero) zero li lj e = absurd (ab (sym e))
      apart (suc zero) (suc zero) li lj e = refl
      apart (suc zero) (suc (suc zero)) li lj e = absurd (bc e)
      apart (suc zero) (suc (suc (suc j))) li lj e = absurd (omega arith)
      apart (suc (suc zero)) zero li lj e = absurd (ac (sym e))
      apart (suc (suc zero)) (suc zero) li lj e = absurd (bc (sym e))
      apart (suc (suc zero)) (suc (suc zero)) li lj e = refl
      apart (suc (suc zero)) (suc (suc (suc j))) li lj e = absurd (omega arith)
      apart (suc (suc (suc i))) j li lj e = absurd (omega arith)

-- ---- a face

-- the three places of a face of the tetrahedron
pub face-kept : (s : VoronoiSimplex) (i : ℕ) (u v w : Float) → s.dim ≡ 3 → Copied s (tetrahedron_face s i u v w) (among (kept_of_tetrahedron (OnFace i u v w)))
unfolding tetrahedron_face kept_of_tetrahedron overwrite_in place_in
face-kept s i u v w d = by (eqb i 0) (eqb i 1) (eqb i 2)
  where
    vs : List Vertex
    vs = s.vertices

    triple : (t : VoronoiSimplex) (p : List Float) (a b c : ℕ) → a ≤ 3 → b ≤ 3 → c ≤ 3 → a ≢ b → a ≢ c → b ≢ c
        → get_or t.vertices 0 nowhere ≡ get_or vs a nowhere → get_or t.vertices 1 nowhere ≡ get_or vs b nowhere → get_or t.vertices 2 nowhere ≡ get_or vs c nowhere
        → Copied s (place_in t p 2) (among (a ∷ b ∷ c ∷ []))
    triple t p a b c la lb lc ab ac bc x y z = three-kept s (place_in t p 2) a b c refl (omega arith) (omega arith) (omega arith) (omega arith) ab ac bc x y z

    -- the place i gets what the place 3 holds
    kept : (i p : ℕ) → p ≢ i → get_or (set vs i (get_or vs 3 nowhere)) p nowhere ≡ get_or vs p nowhere
    kept i p n = get_or-set_other vs i p (get_or vs 3 nowhere) nowhere n

    by : (b0 b1 b2 : Bool)
        → Copied s
        (cond b0 (place_in s (u ∷ v ∷ w ∷ []) 2)
        (cond b1 (place_in (overwrite_in s 2) (u ∷ v ∷ w ∷ []) 2)
        (cond b2 (place_in (overwrite_in s 1) (u ∷ w ∷ v ∷ []) 2)
        (place_in (overwrite_in s 0) (w ∷ u ∷ v ∷ []) 2))))
        (among (cond b0 (0 ∷ 1 ∷ 2 ∷ []) (cond b1 (0 ∷ 1 ∷ 3 ∷ []) (cond b2 (0 ∷ 3 ∷ 2 ∷ []) (3 ∷ 1 ∷ 2 ∷ [])))))
    by true b1 b2 = triple s _ 0 1 2 (omega arith) (omega arith) (omega arith) (λ e. omega arith) (λ e. omega arith) (λ e. omega arith) refl refl refl
    by false true b2 =
        triple (overwrite_in s 2) _ 0 1 3 (omega arith) (omega arith) (omega arith) (λ e. omega arith) (λ e. omega arith) (λ e. omega arith)
        (kept 2 0 (λ e. omega arith)) (kept 2 1 (λ e. omega arith)) (moved_down vs 2 3 (omega arith))
    by false false true =
        triple (overwrite_in s 1) _ 0 3 2 (omega arith) (omega arith) (omega arith) (λ e. omega arith) (λ e. omega arith) (λ e. omega arith)
        (kept 1 0 (λ e. omega arith)) (moved_down vs 1 3 (omega arith)) (kept 1 2 (λ e. omega arith))
    by false false false =
        triple (overwrite_in s 0) _ 3 1 2 (omega arith) (omega arith) (omega arith) (λ e. omega arith) (λ e. omega arith) (λ e. omega arith)
        (moved_down vs 0 3 (omega arith)) (kept 0 1 (λ e. omega arith)) (kept 0 2 (λ e. omega arith))
