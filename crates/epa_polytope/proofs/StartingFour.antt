-- The steps of a start from four vertices, told of the lists and the answer that the code leaves: for any numbers. Assumes nothing.
use mathlib.Core.Path.{◌≡◌, refl, ◌∙◌}
use mathlib.Core.Bool.{Bool, true, false, cond, not, ◌||◌}
use mathlib.Core.List.{List}
use Prim.Native.Nat.{ℕ}
use lib.Ieee.{Float, neg}
use Rattle.vector.specs.declared.vec3.Vec3.{Vec3}
use Rattle.vector.specs.Vector.{dot_v}
use Rattle.shape.specs.declared.vertex.Vertex.{Vertex}
use Rattle.epa_polytope.specs.declared.types.Finish.{Finish}
use Rattle.epa_polytope.specs.declared.types.Tally.{Tally}
use Rattle.epa_polytope.specs.declared.types.Made.{Made}
use Rattle.epa_polytope.specs.declared.types.Lost.TheVariants.{KeyAtStart, NoneHolds}
use Rattle.epa_polytope.specs.declared.types.End.TheVariants.{Nothing}
use Rattle.epa_polytope.specs.Promises.{Step, finish}
use Rattle.std.specs.Prelude.{Ok, Err}
use Rattle.epa_polytope.specs.Stores.{Lists, state_of, with_vertices, vertex_at, put_vertex, normal_of}
use Rattle.epa_polytope.specs.Steps.{Numbers, queue_face, made_of, stop_if, do_if, put, look, ◌>>=◌}
use Rattle.epa_polytope.specs.Start.{winds_inward, exchanged, exchange, four_faces, queue_start, queue_four, start_four}
use Rattle.epa_polytope.specs.Promises.{Does, step_out}
use Rattle.epa_polytope.proofs.Doing.{looked, goes_on, done-if, not_done}
use Rattle.epa_polytope.specs.Code.{queue_two}
use Rattle.epa_polytope.proofs.Pairing.{ends_so, pair-goes-on, pair_ends}

-- ---- a starting face that holds the projection, and one that does not

module _ (w : Numbers) (tol : Float) (i : ℕ) (l : Lists) (c : Tally) {holds : Bool} where
  pub start-held : {normal : Vec3} {x : Vertex} {dist : Float} {l' : Lists} {r : Step} → holds ≡ true → normal ≡ normal_of l.face_floats i → x ≡ vertex_at l.vertices i
      → dist ≡ dot_v w.format normal x.point → Does step_out (queue_face KeyAtStart tol i (neg dist)) l c l' r → Does step_out (queue_start w tol i holds) l c l' r
  unfolding queue_start
  start-held {dist = dist} t is_normal ix is_dist q =
      let is : dist ≡ dot_v w.format (normal_of l.face_floats i) (vertex_at l.vertices i).point = is_dist ∙ rw (is_normal, ix) in
      done-if t (looked _ (rw (← is) q))

  pub start_left : holds ≡ false → Does step_out (queue_start w tol i holds) l c l (Ok c)
  unfolding queue_start
  start_left t = not_done _ t

-- ---- two pairs of starting faces, of which either may end the run; one of the four has to hold

-- the last line of `queue_four`
module _ {h : Bool} (l : Lists) (c : Tally) where
  some-hold : h ≡ true → Does step_out (stop_if (not h) (Nothing NoneHolds)) l c l (Ok c)
  unfolding stop_if
  some-hold t = record { same = rw t }

  none-do : h ≡ false → Does step_out (stop_if (not h) (Nothing NoneHolds)) l c l (Err (finish (Nothing NoneHolds) c))
  unfolding stop_if
  none-do t = record { same = rw t }

module _ (w : Numbers) (tol : Float) (h1 h2 h3 h4 : Bool) {l l1 : Lists} {c : Tally} {r1 : Step} (first : Does step_out (queue_two w tol 0 h1 1 h2) l c l1 r1) where
  pub first-pair-ends : {e : Finish} → r1 ≡ Err e → Does step_out (queue_four w tol h1 h2 h3 h4) l c l1 (Err e)
  unfolding queue_four
  first-pair-ends t = pair_ends _ _ _ first t

  module _ {x1 : Tally} {l2 : Lists} {r2 : Step} (t1 : r1 ≡ Ok x1) (second : Does step_out (queue_two w tol 2 h3 3 h4) l1 x1 l2 r2) where
    pub second-pair-ends : {e : Finish} → r2 ≡ Err e → Does step_out (queue_four w tol h1 h2 h3 h4) l c l2 (Err e)
    unfolding queue_four
    second-pair-ends t = pair-goes-on _ _ _ first t1 (pair_ends _ _ _ second t)

    pub one_holds : {x2 : Tally} → r2 ≡ Ok x2 → (h1 || h2 || h3 || h4) ≡ true → Does step_out (queue_four w tol h1 h2 h3 h4) l c l2 (Ok x2)
    unfolding queue_four
    one_holds t is = pair-goes-on _ _ _ first t1 (pair-goes-on _ _ _ second t (some-hold _ _ is))

    pub none-holds : {x2 : Tally} → r2 ≡ Ok x2 → (h1 || h2 || h3 || h4) ≡ false → Does step_out (queue_four w tol h1 h2 h3 h4) l c l2 (Err (finish (Nothing NoneHolds) x2))
    unfolding queue_four
    none-holds t is = pair-goes-on _ _ _ first t1 (pair-goes-on _ _ _ second t (none-do _ _ is))

-- ---- the vertices 1 and 2 are read, and each written in the other's place

pub exchange-written : (l : List Float) {l1 l2 : List Float} {v1 v2 : Vertex} → v1 ≡ vertex_at l 1 → v2 ≡ vertex_at l 2 → l1 ≡ put_vertex l 1 v2 → l2 ≡ put_vertex l1 2 v1 → l2 ≡ exchanged l
unfolding exchanged
exchange-written l i1 i2 w1 w2 = w2 ∙ rw (w1, i1, i2)

-- ---- the four faces are made of the vertices v, 1 and 2 exchanged where they wind inward

module _ (w : Numbers) (l : Lists) (c : Tally) {v : List Float} (wound : v ≡ cond (winds_inward w.format l.vertices) (exchanged l.vertices) l.vertices) where
  winds-outward : Does step_out (do_if (winds_inward w.format l.vertices) exchange) l c (with_vertices v l) (Ok c)
  unfolding do_if exchange put look ◌>>=◌
  winds-outward = by (winds_inward w.format l.vertices) wound
    where
      by : (b : Bool) → v ≡ cond b (exchanged l.vertices) l.vertices → Does step_out (do_if b exchange) l c (with_vertices v l) (Ok c)
      by true e = record { same = rw e }
      by false e = record { same = rw e }

  module _ (tol : Float) {m1 m2 m3 m4 : Made} {l1 : Lists} {r1 : Step} (i1 : m1 ≡ made_of w (state_of (with_vertices v l) c) 0 1 2)
      (i2 : m2 ≡ made_of w (state_of (with_vertices v l) c) 1 3 2) (i3 : m3 ≡ made_of w (state_of (with_vertices v l) c) 0 2 3) (i4 : m4 ≡ made_of w (state_of (with_vertices v l) c) 0 3 1)
      (made : Does step_out (four_faces m1 m2 m3 m4) (with_vertices v l) c l1 r1) where
    pub four-not-made : {e : Finish} → r1 ≡ Err e → Does step_out (start_four w tol) l c l1 (Err e)
    unfolding start_four
    four-not-made t = looked _ (goes_on _ winds-outward refl (looked _ (rw (← i1, ← i2, ← i3, ← i4) (ends_so _ made t))))

    pub four-started : {x : Tally} {l2 : Lists} {r2 : Step} → r1 ≡ Ok x → Does step_out (queue_four w tol m1.holds m2.holds m3.holds m4.holds) l1 x l2 r2 → Does step_out (start_four w tol) l c l2 r2
    unfolding start_four
    four-started t queued = looked _ (goes_on _ winds-outward refl (looked _ (rw (← i1, ← i2, ← i3, ← i4) (goes_on _ made t queued))))
