-- The start of a run asks nothing of the silhouette walk: it is the same by either. Assumes nothing.
use mathlib.Core.Path.{◌≡◌, refl}
use Rattle.epa_polytope.specs.Stores.{State}
use Rattle.epa_polytope.specs.Start.{Walk, World, walked_as, VoronoiSimplex, first_far, bootstrap, start_vertices, third, start_two, start_faces, begin}

pub begin-any : (y : Walk) (w : World) (x : VoronoiSimplex) (s : State) → begin (walked_as y w) x s ≡ begin w x s
unfolding begin start_vertices bootstrap first_far start_faces start_two third
begin-any y w x s = refl
