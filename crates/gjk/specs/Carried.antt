-- What the code carries and how it ends, as the definition has them. The code keeps the square of the support scale, of which `touching` alone takes the root: a round has one root less.
-- It hands on no simplex before it has a vertex to add, and makes a run's result once: so an ending stands for its result on any simplex. Contracts of private functions alone cite these maps.
-- Definitions only.
use Rattle.std.specs.Prelude.{Result, Ok, Err}
use Rattle.std.specs.Float.{Format}
use Rattle.number.specs.Root.{root}
use Rattle.refusal.specs.declared.WouldPanic.{WouldPanic}
use Rattle.refusal.specs.Refusal.{would_panic}
use Rattle.simplex.specs.declared.voronoi_simplex.VoronoiSimplex.{VoronoiSimplex}
use Rattle.gjk.specs.declared.rounds.GJKResult.{GJKResult}
use Rattle.gjk.specs.declared.rounds.Gjk.{Gjk}
use Rattle.gjk.specs.declared.carried.Carried.{Carried}
use Rattle.gjk.specs.declared.rounds.Ending.{Ending}
use Rattle.gjk.specs.declared.rounds.Ending.TheVariants.{Intersection, ClosestPoints, Proximity, NoIntersection, Refused}
use Rattle.gjk.specs.declared.rounds.Turn.{Turn}
use Rattle.gjk.specs.declared.rounds.Ran.{Ran}
use Rattle.gjk.specs.declared.rounds.Heading.{Heading}
use Rattle.gjk.specs.declared.rounds.Sight.{Sight}
use Rattle.gjk.specs.Gjk as Gjk
use Rattle.gjk.specs.Gjk.{Round, round_of, Search, Part, goes_on, over, ended_with, ◌▷◌, closest_by, added, reduced}

abbrev pub round_by : Format → Carried → Round
round_by f c = round_of c.proj c.old_dir c.max_bound c.best_min_bound (root f c.support_square) c.nb_perturbs c.niter

-- the result that an ending has on a simplex
unfoldable pub result_by : Format → VoronoiSimplex → Ending → Result GJKResult WouldPanic
result_by f s Intersection = Ok GJKResult.Intersection
result_by f s (ClosestPoints prev dir) = closest_by f s prev dir
result_by f s (Proximity dir) = Ok (GJKResult.Proximity dir)
result_by f s (NoIntersection dir) = Ok (GJKResult.NoIntersection dir)
result_by f s Refused = Err would_panic

abbrev pub ran_by : Format → Ran → Gjk
ran_by f r = record { simplex = r.simplex; result = result_by f r.simplex r.ending }

unfoldable pub next_by : Format → VoronoiSimplex → Result Carried Ending → Gjk.Next
next_by f s (Ok c) = Gjk.Onward (round_by f c)
next_by f s (Err e) = Gjk.Ended (result_by f s e)

unfoldable pub turn_by : Format → Turn → Gjk.Turn
turn_by f t = record { simplex = t.simplex; next = next_by f t.simplex t.next }

-- where a turn looks, on any simplex
unfoldable pub headed_by : Format → VoronoiSimplex → Result Heading Ending → Part
headed_by f s (Ok h) = goes_on s (round_by f h.round) h.dir
headed_by f s (Err e) = over (ended_with s (result_by f s e))

-- what becomes of the turn by what it sees
unfoldable pub seen_by : Format → Search → VoronoiSimplex → Result Sight Ending → Gjk.Turn
seen_by f k s (Ok t) = added f k s (round_by f t.round) t.dir t.cso_point ▷ λ s₁ r₁ dir₁. reduced f k s₁ r₁ dir₁ t.min_bound
seen_by f k s (Err e) = ended_with s (result_by f s e)
