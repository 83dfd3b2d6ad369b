-- A new simplex is one, and resetting it is always done, so that the start looks at no answer of `reset`.
use mathlib.Core.Path.{◌≡◌, refl}
use mathlib.Core.Bool.{true}
use Rattle.shape.specs.declared.vertex.Vertex.{Vertex}
use Rattle.simplex.specs.Simplex.{is_simplex, new_simplex, reset_in}
use Rattle.simplex.specs.Operations.{done_with, reset_simplex}

new-simplex : is_simplex new_simplex ≡ true
unfolding is_simplex new_simplex
new-simplex = refl

pub reset-done : (v : Vertex) → reset_simplex new_simplex v ≡ done_with (reset_in new_simplex v)
unfolding reset_simplex
reset-done v = rw new-simplex
