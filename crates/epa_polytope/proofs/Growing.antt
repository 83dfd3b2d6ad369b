-- The new faces, told of the lists and the answer that the code leaves: for any numbers. Assumes nothing.
use mathlib.Core.Path.{◌≡◌, refl, ap, ◌∙◌}
use mathlib.Core.Bool.{Bool, true, false}
use mathlib.Core.List.{List}
use Prim.Native.Nat.{ℕ, ◌+◌, ◌-◌, ◌%◌, ◌^◌, ◌<◌, ◌≤◌, suc}
use lib.ListN.{length, get_or}
use lib.Ieee.{Float, lt, neg}
use lib.Dec.{leb}
use borrow.Author.Tests.{leb-false, eq-eqb, ne_eqb}
use native.Mathlib.Omega.{arith}
use Rattle.vector.specs.declared.vec3.Vec3.{Vec3}
use Rattle.vector.specs.Vector.{dot_v}
use Rattle.shape.specs.declared.vertex.Vertex.{Vertex}
use Rattle.epa_polytope.specs.declared.types.Finish.{Finish}
use Rattle.epa_polytope.specs.declared.types.Tally.{Tally}
use Rattle.epa_polytope.specs.declared.types.Expansion.{Expansion}
use Rattle.epa_polytope.specs.declared.types.Made.{Made}
use Rattle.epa_polytope.specs.declared.types.Lost.TheVariants.{KeyLater}
use Rattle.epa_polytope.specs.declared.types.Found.TheVariants.{NewFaceNearer}
use Rattle.epa_polytope.specs.declared.types.End.{End}
use Rattle.epa_polytope.specs.Promises.{Step, finish}
use Rattle.std.specs.Prelude.{Ok, Err}
use Rattle.epa_polytope.proofs.Lists.{next_one, next-two}
use Rattle.epa_polytope.specs.Stores.{Lists, state_of, with_face_ids, face_room, corner_in, linked_in, vertex_at, normal_of}
use Rattle.epa_polytope.specs.Steps.{Numbers, Out, Nil, next, three, answer_of, answer, stop, queue_face, push_face, ok, stop_if, branch, do_if, put, look, ◌>>=◌, ◌>>◌}
use Rattle.epa_polytope.specs.Expansion.{queue_new, link, edge_face, edge_corner, grow_at, grow, grow_all}
use Rattle.epa_polytope.specs.declared.types.Question.{Question}
use Rattle.epa_polytope.specs.PlainWalk.{question_at}
use Rattle.epa_polytope.specs.Promises.{Does, step_out}

-- ---- a new face lies so far along its normal as its first corner; it is nearer than the one that is expanded, or queued

module _ (w : Numbers) (u : Expansion) (i : ℕ) (l : Lists) (run : Tally) {j : ℕ} {x : Vertex} {normal : Vec3} {dist : Float} (ij : j ≡ corner_in l.face_ids i 0)
    (ix : x ≡ vertex_at l.vertices j) (is_normal : normal ≡ normal_of l.face_floats i) (is_dist : dist ≡ dot_v w.format normal x.point) where
  is : dist ≡ dot_v w.format (normal_of l.face_floats i) (vertex_at l.vertices (corner_in l.face_ids i 0)).point
  is = is_dist ∙ rw (is_normal, ix, ij)

  pub new-nearer : {e : End} → lt dist u.dist ≡ true → e ≡ answer_of w.format NewFaceNearer l u.face → Does step_out (queue_new w u i) l run l (Err (finish e run))
  unfolding queue_new branch answer stop look ◌>>=◌
  new-nearer t q = record { same = rw (← is, t, q) }

  pub new-queued : {l' : Lists} {r : Step} → lt dist u.dist ≡ false → Does step_out (queue_face KeyLater u.tol i (neg dist)) l run l' r → Does step_out (queue_new w u i) l run l' r
  unfolding queue_new branch look ◌>>=◌
  new-queued t q = record { same = rw (← is, t) q.same }

-- ---- one new face

-- the face m between the new vertex and an edge of the face f is linked, and pushed or refused with the answer r; the key is left
pub record FacePushed (w : Numbers) (u : Expansion) (f c : ℕ) (l : Lists) (run : Tally) (m : Made) (l' : Lists) (r : Step) : Type 0 where
  pub goes_on : next (step_out l' r) (λ _. do_if m.holds (queue_new w u run.faces)) ≡ grow_at w u f c (state_of l run)

-- the edge's vertices are x and y. The code's neighbours j and k are the definition's where there is room for a face; where there is none, and
-- the sum may wrap, they are not looked at
pub face-pushed : (w : Numbers) (u : Expansion) (f c : ℕ) (l : Lists) (run : Tally) {m : Made} {x y j k : ℕ} {ids1 : List ℕ} {l' : Lists} {r : Step}
    → x ≡ corner_in l.face_ids f ((c % 3 + 2) % 3) → y ≡ corner_in l.face_ids f ((c % 3 + 1) % 3)
    → m ≡ w.maker (vertex_at l.vertices x).point (vertex_at l.vertices y).point (vertex_at l.vertices u.point).point
    → ids1 ≡ linked_in l.face_ids f ((c % 3 + 1) % 3) run.faces
    → j ≡ (run.faces + 1) % 2 ^ 64 → k ≡ run.faces - 1 → length ids1 < 2 ^ 64
    → Does step_out (push_face (three x y u.point) (three f j k) m) (with_face_ids ids1 l) run l' r → FacePushed w u f c l run m l' r
unfolding grow_at link push_face ◌>>=◌ ◌>>◌ look put stop_if
face-pushed w u f c l run {m} {x} {y} {j} {k} {ids1} {l'} {r} ix iy im il ij ik fits g = record { goes_on = by (leb (face_room (with_face_ids ids1 l)) run.faces) refl }
  where
    by : (b : Bool) → leb (face_room (with_face_ids ids1 l)) run.faces ≡ b → next (step_out l' r) (λ _. do_if m.holds (queue_new w u run.faces)) ≡ grow_at w u f c (state_of l run)
    by true t = rw (← next_one c, ← next-two c, ← ix, ← iy, ← im, ← il, t, rw t at g.same)
    by false t =
        let e : j ≡ run.faces + 1 = omega (arith, leb-false (face_room (with_face_ids ids1 l)) run.faces t) in
        rw (← next_one c, ← next-two c, ← ix, ← iy, ← im, ← il, rw (e, ik) at g.same)

module _ {w : Numbers} {u : Expansion} {f c : ℕ} {l : Lists} {run : Tally} {m : Made} {l' : Lists} {r : Step} (h : FacePushed w u f c l run m l' r) where
  pub grow-refused : {e : Finish} → r ≡ Err e → Does step_out (grow_at w u f c) l run l' (Err e)
  grow-refused t = record { same = rw t at h.goes_on }

  pub grow-plain : {x : Tally} → r ≡ Ok x → m.holds ≡ false → Does step_out (grow_at w u f c) l run l' (Ok x)
  unfolding do_if
  grow-plain t q = record { same = rw (t, q) at h.goes_on }

  pub grow-queued : {x : Tally} {l2 : Lists} {r2 : Step} → r ≡ Ok x → m.holds ≡ true → Does step_out (queue_new w u run.faces) l' x l2 r2 → Does step_out (grow_at w u f c) l run l2 r2
  unfolding do_if
  grow-queued t q g = record { same = g.same ∙ (rw (t, q) at h.goes_on) }

-- ---- an edge's face is live, or not

module _ (w : Numbers) (u : Expansion) (i : ℕ) (l : Lists) (run : Tally) {q : Question} {d : ℕ} (is_edge : q ≡ question_at l.edges i) (is_dead : d ≡ get_or l.deleted q.face 1) where
  of-edge : (q.face ≡ edge_face l.edges i) × (q.corner ≡ edge_corner l.edges i)
  of-edge = (ap (λ (x : Question). x.face) is_edge, ap (λ (x : Question). x.corner) is_edge)

  pub grow-dead : (d ≡ 0 → ⊥) → Does step_out (grow w u i) l run l (Ok run)
  unfolding grow do_if ◌>>=◌ look
  grow-dead z = record { same = rw (← of-edge.0, ← is_dead, ne_eqb d 0 z) }

  pub grow-live : d ≡ 0 → {l' : Lists} {r : Step} → Does step_out (grow_at w u q.face q.corner) l run l' r → Does step_out (grow w u i) l run l' r
  unfolding grow do_if ◌>>=◌ look
  grow-live z g = record { same = rw (← of-edge.0, ← of-edge.1, ← is_dead, eq-eqb d 0 z) g.same }

-- ---- all edges: the loop's invariant, and its turns. The lists are l0 at first, and l now

pub record GrowLoop (w : Numbers) (u : Expansion) (all : ℕ) (l0 : Lists) (run0 : Tally) (l : Lists) (run : Tally) (i : ℕ) : Type 0 where
  pub within : i ≤ all
  pub goes_on : grow_all w u (all - i) i (state_of l run) ≡ grow_all w u all 0 (state_of l0 run0)

pub loop-starts : (w : Numbers) (u : Expansion) (all : ℕ) (l : Lists) (run : Tally) → GrowLoop w u all l run l run 0
loop-starts w u all l run = record { within = omega arith; goes_on = let e : all - 0 ≡ all = omega arith in rw e }

module _ {w : Numbers} {u : Expansion} {all : ℕ} {l0 : Lists} {run0 : Tally} {l : Lists} {run : Tally} {i : ℕ} (h : GrowLoop w u all l0 run0 l run i) where
  module _ {l' : Lists} {r : Step} (more : i < all) (g : Does step_out (grow w u i) l run l' r) where
    one-turn : {y : Step} → r ≡ y → next (step_out l' y) (λ _. grow_all w u (all - (i + 1)) (i + 1)) ≡ grow_all w u all 0 (state_of l0 run0)
    unfolding grow_all ◌>>◌
    one-turn t =
        let e : all - i ≡ suc (all - (i + 1)) = omega arith in
        ap (λ (o : Out Nil). next o (λ _. grow_all w u (all - (i + 1)) (i + 1))) (rw t at g.same) ∙ (rw e at h.goes_on)

    pub loop-turns : {x : Tally} → r ≡ Ok x → GrowLoop w u all l0 run0 l' x (i + 1)
    loop-turns t = record { within = omega arith; goes_on = one-turn t }

    pub loop-ends : {e : Finish} → r ≡ Err e → Does step_out (grow_all w u all 0) l0 run0 l' (Err e)
    loop-ends t = record { same = one-turn t }

  pub loop-done : all ≤ i → Does step_out (grow_all w u all 0) l0 run0 l (Ok run)
  unfolding grow_all ok
  loop-done z =
      let e : all - i ≡ 0 = omega arith in
      record { same = rw e at h.goes_on }
