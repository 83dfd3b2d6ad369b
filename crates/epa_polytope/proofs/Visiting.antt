-- A visit of the face that was popped, told of the lists and the answer that the code leaves: for any numbers and any support function. Assumes nothing.
use mathlib.Core.Path.{◌≡◌, refl}
use mathlib.Core.Bool.{true, false}
use Prim.Native.Nat.{ℕ}
use lib.Ieee.{Float, neg}
use Rattle.vector.specs.declared.vec3.Vec3.{Vec3}
use Rattle.vector.specs.Vector.{dot_v}
use Rattle.shape.specs.declared.vertex.Vertex.{Vertex}
use Rattle.heap.specs.declared.Entry.{Entry}
use Rattle.epa_polytope.specs.declared.types.Tally.{Tally}
use Rattle.epa_polytope.specs.declared.types.Best.{Best}
use Rattle.epa_polytope.specs.declared.types.Found.TheVariants.{Converged, Stuck}
use Rattle.epa_polytope.specs.declared.types.End.{End}
use Rattle.epa_polytope.specs.Promises.{Step, finish}
use Rattle.std.specs.Prelude.{Result, Ok, Err}
use Rattle.epa_polytope.specs.declared.types.Visited.{Visited}
use Rattle.epa_polytope.specs.declared.types.Finish.{Finish}
use Rattle.epa_polytope.specs.Stores.{Lists, normal_of}
use Rattle.epa_polytope.specs.Steps.{answer_of, answer, stop, pure, push_vertex, do_if, look, ◌>>=◌, ◌>>◌}
use Rattle.epa_polytope.specs.Start.{World, format_of}
use Rattle.epa_polytope.specs.Expansion.{expand}
use Rattle.epa_polytope.specs.Run.{bettered, has_converged, is_stuck, settle, visit}
use Rattle.epa_polytope.specs.Promises.{Does, step_out, visit_out}
use Rattle.epa_polytope.proofs.Doing.{looked, not_done, goes_on, ends-here}

-- ---- the candidate is known, and b1 is the best face and bound after it

module _ (w : World) (tol : Float) (b : Best) (e : Entry) (p : ℕ) (c : Float) (l : Lists) (run : Tally) {b1 : Best} (is : b1 ≡ bettered b e.face c) where
  pub converges : {x : End} → has_converged (format_of w) b1.bound (neg e.key) ≡ true → x ≡ answer_of (format_of w) Converged l b1.face
      → Does visit_out (settle w tol b e p c) l run l (Err (finish x run))
  unfolding settle do_if answer stop look ◌>>=◌ ◌>>◌
  converges t q = record { same = rw (← is, t, q) }

  module _ (t : has_converged (format_of w) b1.bound (neg e.key) ≡ false) where
    pub gets-stuck : {x : End} → is_stuck (format_of w) (neg e.key) b.last c b1.bound ≡ true → x ≡ answer_of (format_of w) Stuck l b1.face
        → Does visit_out (settle w tol b e p c) l run l (Err (finish x run))
    unfolding settle do_if answer stop look ◌>>=◌ ◌>>◌
    gets-stuck t1 q = record { same = rw (← is, t, t1, q) }

    module _ {l1 : Lists} {r : Step} (t1 : is_stuck (format_of w) (neg e.key) b.last c b1.bound ≡ false)
        (g : Does step_out (expand w.walk_by w.numbers (record { face = e.face; dist = neg e.key; point = p; tol = tol })) l run l1 r) where
      pub settle-ended : {x : Finish} → r ≡ Err x → Does visit_out (settle w tol b e p c) l run l1 (Err x)
      unfolding settle
      settle-ended t2 = rw (← is) (goes_on _ (not_done _ t) refl (goes_on _ (not_done _ t1) refl (ends-here _ g _ refl t2)))

      pub settled : {y : Tally} → r ≡ Ok y → Does visit_out (settle w tol b e p c) l run l1 (Ok (record { best = record { face = b1.face; bound = b1.bound; last = neg e.key }; tally = y }))
      unfolding settle pure
      settled t2 = rw (← is) (goes_on _ (not_done _ t) refl (goes_on _ (not_done _ t1) refl (goes_on _ g t2 (record { same = refl }))))

-- ---- the new vertex x is pushed, or refused

module _ (w : World) (tol : Float) (b : Best) (e : Entry) (l : Lists) (run : Tally) {normal : Vec3} {x : Vertex} {l1 : Lists} {r : Step}
    (is_normal : normal ≡ normal_of l.face_floats e.face) (is_far : x ≡ w.supp normal) (g : Does step_out (push_vertex x) l run l1 r) where
  pub visit-ended : {z : Finish} → r ≡ Err z → Does visit_out (visit w tol b e) l run l1 (Err z)
  unfolding visit
  visit-ended t = looked _ (rw (← is_normal, ← is_far) (ends-here _ g _ refl t))

  pub visited : {y : Tally} {c : Float} {l2 : Lists} {r2 : Result Visited Finish} → r ≡ Ok y → c ≡ dot_v (format_of w) x.point normal
      → Does visit_out (settle w tol b e run.vertices c) l1 y l2 r2 → Does visit_out (visit w tol b e) l run l2 r2
  unfolding visit
  visited t is_c h = looked _ (rw (← is_normal, ← is_far, ← is_c) (goes_on _ g t h))
