-- What the functions of the code do, ask of their caller and answer one another that has no name of its own in the run. Definitions only; who reads the public contracts need not read them.
use Rattle.std.specs.Prelude.{Bool, true, false, not, List, ◌≡◌, ℕ, ◌+◌, ◌≤◌, min, Float, length, get_or, Option, Some, None, Result, Ok, Err}
use Rattle.std.specs.Float.{Format}
use Rattle.heap.specs.declared.Entry.{Entry}
use Rattle.number.specs.Constants.{largest}
use Rattle.shape.specs.declared.vertex.Vertex.{Vertex}
use Rattle.simplex.specs.Simplex.{is_simplex}
use Rattle.simplex.specs.declared.voronoi_simplex.VoronoiSimplex.{VoronoiSimplex}
use Rattle.vector.specs.Vector.{zero_f}
use Rattle.vector.specs.declared.vec3.Vec3.{Vec3}
use Rattle.epa_polytope.specs.declared.types.Begun.{Begun}
use Rattle.epa_polytope.specs.declared.types.Best.{Best}
use Rattle.epa_polytope.specs.declared.types.End.TheVariants as End
use Rattle.epa_polytope.specs.declared.types.Store.TheVariants.{Edges, Pending}
use Rattle.epa_polytope.specs.declared.types.PlainSoFar.{PlainSoFar}
use Rattle.epa_polytope.specs.declared.types.Made.{Made}
use Rattle.epa_polytope.specs.declared.types.FaceId.{FaceId}
use Rattle.epa_polytope.specs.declared.types.Finish.{Finish}
use Rattle.epa_polytope.specs.declared.types.Popped.{Popped}
use Rattle.epa_polytope.specs.declared.types.Site.TheVariants.{NotASimplex}
use Rattle.epa_polytope.specs.declared.types.Tally.{Tally}
use Rattle.epa_polytope.specs.declared.types.Three.{Three}
use Rattle.epa_polytope.specs.declared.types.Visited.{Visited}
use Rattle.epa_polytope.specs.Promises.{Step, entry_of, finish}
use Rattle.epa_polytope.specs.Silhouette.{WalkAnswer, recorded_of}
use Rattle.epa_polytope.specs.Expansion.{passed_tally}
use Rattle.epa_polytope.specs.Start.{World, begin, first_far, start_vertices, queue_start}
use Rattle.epa_polytope.specs.Steps.{Act, Nil, stop_if, ◌>>◌, Numbers, push_face, enqueue, Out, onward}
use Rattle.epa_polytope.specs.Stores.{Lists, State, state_of, none_yet, done_count}

-- ---- steps of the start two at a time

-- two faces are pushed
abbrev pub push_two : Three → Three → Made → Three → Three → Made → Act Nil
push_two corners1 neighbours1 m1 corners2 neighbours2 m2 = push_face corners1 neighbours1 m1 >> push_face corners2 neighbours2 m2

-- the faces 0 and 1 are queued, at key 0
abbrev pub queue_both : Act Nil
queue_both = enqueue 0 zero_f >> enqueue 1 zero_f

-- of the starting faces i and j those are queued that hold the projection
abbrev pub queue_two : Numbers → Float → ℕ → Bool → ℕ → Bool → Act Nil
queue_two w tol i h1 j h2 = queue_start w tol i h1 >> queue_start w tol j h2

-- ---- the start

-- the second vertex, for the point of the first
abbrev pub second_of : World → Vec3 → Option Vertex
second_of w p = first_far w p 6 0

-- `start_vertices`, of what has to be a simplex: the first two steps of `begin`
abbrev pub simplex_vertices : World → VoronoiSimplex → Act Nil
simplex_vertices w x = stop_if (not (is_simplex x)) (End.Panics NotASimplex) >> start_vertices w x

-- the tolerance goes on with what the first faces leave
abbrev pub ready_of : Step → Float → Result Begun Finish
ready_of (Ok c) tol = Ok (record { tol = tol; tally = c })
ready_of (Err x) tol = Err x

-- ---- a pass is over

-- how a run goes on after it, with the tally c
abbrev pub finished_if : Bool → WalkAnswer → Tally → Step
finished_if true a c = Err (finish (End.NoRoom Pending) c)
finished_if false (Ok n) c = Ok c
finished_if false (Err e) c = Err (finish (End.NoRoom Edges) c)

abbrev pub finished_of : Tally → ℕ → PlainSoFar → Step
finished_of c room r = finished_if r.short r.answer (passed_tally (recorded_of room r.answer) r.held r.missed c)

-- ---- a live face is popped

-- the heap's entries have a place each
abbrev pub HeapWithin : Tally → List ℕ → List Float → Type 0
HeapWithin c hi hk = c.heap ≤ min (length hi) (length hk)

-- the entry that is popped, as the definition has it
abbrev pub maybe_entry : Option FaceId → Option Entry
maybe_entry (Some e) = Some (entry_of e)
maybe_entry None = None

-- what `pop_live` leaves, of what the code returns
abbrev pub pop_out : Lists → Popped → Out (Option Entry)
pop_out l r = onward (maybe_entry r.entry) (state_of l r.tally)

-- ---- an expansion is complete

-- the answer with one more complete
abbrev pub completed_of : Result Visited Finish → Result Visited Finish
completed_of (Ok v) = Ok (record { best = v.best; tally = done_count (v.tally.done + 1) v.tally })
completed_of (Err x) = Err x

-- ---- the loop

-- there is a turn more: the heap's entries have a place each, and at most a hundred expansions are complete
pub record CanExpand (c : Tally) (hi : List ℕ) (hk : List Float) : Type 0 where
  pub within : HeapWithin c hi hk
  pub early : c.done ≤ 100

-- what the expansions begin with, by the heap's faces
abbrev pub first_best : Format → List ℕ → Best
first_best f hi = record { face = get_or hi 0 0; bound = largest f; last = zero_f }

-- the stores are those of a run, of some simplex over some lent lists, that has its first faces
pub record Started (w : World) (tol : Float) (s : State) : Type 0 where
  pub simplex : VoronoiSimplex
  pub lent : Lists
  pub ran : begin w simplex (state_of lent none_yet) ≡ onward tol s
