-- The steps of a start from two or three vertices, told of the lists and the answer that the code leaves: for any numbers, and any shapes. Assumes nothing.
use mathlib.Core.Path.{◌≡◌, sym, ◌∙◌}
use mathlib.Core.Bool.{Bool, true, false}
use lib.Dec.{eqb}
use Rattle.vector.specs.declared.vec3.Vec3.{Vec3}
use Rattle.vector.specs.Vector.{zero_v, sub_v, equal_v, normalize_or_zero_v}
use Rattle.shape.specs.declared.vertex.Vertex.{Vertex}
use Rattle.epa_polytope.specs.declared.types.Finish.{Finish}
use Rattle.epa_polytope.specs.declared.types.Tally.{Tally}
use Rattle.epa_polytope.specs.declared.types.Made.{Made}
use Rattle.epa_polytope.specs.declared.types.Site.TheVariants.{NoThirdVertex}
use Rattle.epa_polytope.specs.declared.types.End.TheVariants.{Panics}
use Rattle.epa_polytope.specs.Promises.{Step, finish}
use Rattle.std.specs.Prelude.{Ok, Err}
use Rattle.epa_polytope.specs.Stores.{Lists, state_of, vertex_at}
use Rattle.epa_polytope.specs.Steps.{Numbers, three, push_vertex, made_of, stop_if, do_if, look, ◌>>=◌, ◌>>◌}
use Rattle.epa_polytope.specs.Start.{World, format_of, across, third, two_faces, start_two}
use Rattle.epa_polytope.specs.Promises.{Does, step_out}
use Rattle.epa_polytope.proofs.Doing.{looked, goes_on}
use Rattle.epa_polytope.specs.Code.{push_two, queue_both}
use Rattle.epa_polytope.proofs.Pairing.{ends_so, pair-goes-on, pair_ends}

-- ---- the direction of two vertices, u, which is none, or a third vertex is pushed across it

module _ (w : World) (l : Lists) (c : Tally) {x0 x1 : Vertex} {d u : Vec3} {none : Bool} (i0 : x0 ≡ vertex_at l.vertices 0) (i1 : x1 ≡ vertex_at l.vertices 1)
    (is_d : d ≡ sub_v (format_of w) x1.point x0.point) (is_u : u ≡ normalize_or_zero_v (format_of w) d) (is_none : none ≡ equal_v u zero_v) where
  is : u ≡ normalize_or_zero_v (format_of w) (sub_v (format_of w) (vertex_at l.vertices 1).point (vertex_at l.vertices 0).point)
  is = is_u ∙ rw (is_d, i1, i0)

  pub spans-none : none ≡ true → Does step_out (third w) l c l (Err (finish (Panics NoThirdVertex) c))
  unfolding third stop_if look ◌>>=◌ ◌>>◌
  spans-none t = record { same = rw (← is, sym is_none ∙ t) }

  pub third-pushed : {y : Vec3} {v : Vertex} {l' : Lists} {r : Step} → none ≡ false → y ≡ across (format_of w) u → v ≡ w.supp y → Does step_out (push_vertex v) l c l' r → Does step_out (third w) l c l' r
  unfolding third stop_if look ◌>>=◌ ◌>>◌
  third-pushed t iy iv g = record { same = rw (← is, sym is_none ∙ t, ← iy, ← iv) g.same }

-- ---- the two faces are made of the three vertices

module _ (w : Numbers) (l : Lists) (c : Tally) {m1 m2 : Made} {l1 : Lists} {r1 : Step} (i1 : m1 ≡ made_of w (state_of l c) 0 1 2) (i2 : m2 ≡ made_of w (state_of l c) 0 2 1)
    (made : Does step_out (push_two (three 0 1 2) (three 1 1 1) m1 (three 0 2 1) (three 0 0 0) m2) l c l1 r1) where
  pub two-not-made : {e : Finish} → r1 ≡ Err e → Does step_out (two_faces w) l c l1 (Err e)
  unfolding two_faces
  two-not-made t = looked _ (rw (← i1, ← i2) (pair_ends _ _ _ made t))

  pub two_made : {x : Tally} {l2 : Lists} {r2 : Step} → r1 ≡ Ok x → Does step_out queue_both l1 x l2 r2 → Does step_out (two_faces w) l c l2 r2
  unfolding two_faces
  two_made t queued = looked _ (rw (← i1, ← i2) (pair-goes-on _ _ _ made t queued))

-- ---- a third vertex comes first

module _ (w : World) (l : Lists) (c : Tally) {l1 : Lists} {r1 : Step} (grown : Does step_out (do_if (eqb c.vertices 2) (third w)) l c l1 r1) where
  pub no_third : {e : Finish} → r1 ≡ Err e → Does step_out (start_two w) l c l1 (Err e)
  unfolding start_two
  no_third t = looked _ (ends_so _ grown t)

  pub two_started : {x : Tally} {l2 : Lists} {r2 : Step} → r1 ≡ Ok x → Does step_out (two_faces w.numbers) l1 x l2 r2 → Does step_out (start_two w) l c l2 r2
  unfolding start_two
  two_started t faces = looked _ (goes_on _ grown t faces)
