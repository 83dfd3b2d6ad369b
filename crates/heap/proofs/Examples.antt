-- A NaN among the keys, computed: in which order faces go out. What document 01 knows of equal keys is in the crate known. Assumes nothing.
use mathlib.Core.Path.{◌≡◌, refl}
use mathlib.Core.Bool.{true, false}
use mathlib.Core.List.{[], ◌∷◌}
use lib.IntN.{pos, negsuc}
use lib.Ieee.{Float, nan, fin, lt}
use Rattle.heap.specs.Heap.{swap, rise_in, rise, greater, sink_in, sink, pushed, settled, popped}
use Rattle.heap.specs.Order.{push_all, pop_all, order_of}

abbrev minus_one : Float
minus_one = fin true 1 (pos 0)

abbrev minus_half : Float
minus_half = fin true 1 (negsuc 0)

abbrev zero_f : Float
zero_f = fin false 0 (pos 0)

-- a NaN is less than nothing: face 3, whose key is the greatest, does not rise past it, and goes out after face 2
pub nan-in-between : order_of (minus_one ∷ nan ∷ minus_half ∷ zero_f ∷ []) ≡ 2 ∷ 3 ∷ 1 ∷ 0 ∷ []
unfolding order_of push_all pop_all pushed popped settled rise rise_in sink sink_in greater swap lt
nan-in-between = refl
