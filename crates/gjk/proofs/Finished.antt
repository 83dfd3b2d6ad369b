-- A refusal leaves the simplex as it came in (`refusal-keeps`). Assumes nothing.
use mathlib.Core.Path.{◌≡◌}
use borrow.Author.Tests.{eq-eqb}
use Rattle.simplex.specs.declared.voronoi_simplex.VoronoiSimplex.{VoronoiSimplex}
use Rattle.gjk.specs.declared.rounds.Gjk.{Gjk}
use Rattle.gjk.specs.Gjk.{gjk_number, finished_by}

-- document 01: a call with refusal 2 leaves the simplex as it came in
pub refusal-keeps : (given : VoronoiSimplex) (run : Gjk) → gjk_number (finished_by given run).result ≡ 2 → (finished_by given run).simplex ≡ given
unfolding finished_by
refusal-keeps given run h = rw (eq-eqb _ _ h)
