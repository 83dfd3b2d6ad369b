-- The points of a hull, for the theorem on acceptance. A point is given by a non-negative whole weight for each corner, with a positive sum:
-- its coordinates are the weighted sums of the corners', divided by the sum of the weights. Nothing is divided here: two points are compared
-- after multiplying each by the other's sum. Definitions only.
use Rattle.std.specs.Prelude.{ℕ, ◌+◌, ◌<◌, ◌≡◌, List, [], ◌∷◌, ℤ, pos, ◌+ℤ◌, ◌*ℤ◌, length}
use Rattle.certificate.specs.declared.GridVector.{GridVector}

-- the sum of the weights
unfoldable pub total : List ℕ → ℕ
total [] = 0
total (w ∷ ws) = w + total ws

-- the sum of a number of each corner, each times the corner's weight
unfoldable pub weighted : (GridVector → ℤ) → List ℕ → List GridVector → ℤ
weighted g (w ∷ ws) (c ∷ cs) = pos w *ℤ g c +ℤ weighted g ws cs
weighted g (w ∷ ws) [] = pos 0
weighted g [] cs = pos 0

-- a point of the hull of these corners
pub record HullPoint (corners : List GridVector) : Type 0 where
  pub weights : List ℕ
  pub one_each : length weights ≡ length corners
  pub positive : 0 < total weights

-- the weighted sum of a number of each corner: of a coordinate, or of the product with a direction
abbrev pub sum_of : {corners : List GridVector} → (GridVector → ℤ) → HullPoint corners → ℤ
sum_of {corners} g p = weighted g p.weights corners

-- two points agree in such a number
abbrev pub SameAlong : {first second : List GridVector} → (GridVector → ℤ) → HullPoint first → HullPoint second → Type 0
SameAlong g p q = pos (total q.weights) *ℤ sum_of g p ≡ pos (total p.weights) *ℤ sum_of g q

-- p / P is q / Q in each coordinate: Q times p is P times q
pub record SamePoint {first second : List GridVector} (p : HullPoint first) (q : HullPoint second) : Type 0 where
  pub same_x : SameAlong (λ (c : GridVector). c.x) p q
  pub same_y : SameAlong (λ (c : GridVector). c.y) p q
  pub same_z : SameAlong (λ (c : GridVector). c.z) p q
