-- An expansion is counted where it is complete, and by nothing else. Assumes nothing.
use mathlib.Core.Path.{◌≡◌}
use Rattle.std.specs.Prelude.{Option, None, Some}
use Prim.Native.Nat.{ℕ, zero, suc, ◌+◌, ◌≤◌}
use native.Mathlib.Omega.{arith}
use lib.Ieee.{Float}
use Rattle.heap.specs.declared.Entry.{Entry}
use mathlib.Core.Bool.{Bool, true, false}
use Rattle.epa_polytope.specs.Silhouette.{WalkAnswer}
use Rattle.epa_polytope.specs.Start.{World}
use Rattle.epa_polytope.specs.Stores.{State}
use Rattle.epa_polytope.specs.Steps.{End, Found, converged, stuck, new_face_nearer, heap_empty, ◌>>=◌, ◌>>◌, look, put, answer}
use Rattle.epa_polytope.specs.Expansion.{Expansion, delete, queue_new, grow_at, grow, grow_all, clear_edges, close_ring, regrow, expand, passed_if, silhouette}
use Rattle.epa_polytope.specs.Run.{Best, pop_entry, pop_live, settle, visit, visit_if, complete, iterate}
use Rattle.epa_polytope.proofs.Steps.{Meets, goes, ends, meets-bind, meets-then, meets-look, meets-put, meets-pure, meets-ok, meets-stop, meets-stop_if, meets-do_if, meets-branch, meets-link, meets-face, meets-queue, meets-vertex}
use Rattle.epa_polytope.proofs.Moves.{Keeps, left, pass_from, with_pass}
use Rattle.epa_polytope.specs.Silhouette.{Ok, Err}

-- ---- the expansions that a run counts are those it completes

done-delete : (k : ℕ) (s : State) (i : ℕ) → k ≤ s.tally.done → k ≤ (left (delete i s)).tally.done
unfolding delete ◌>>=◌ look put
done-delete k s i h = h

done-clear : (k : ℕ) (s : State) → k ≤ s.tally.done → k ≤ (left (clear_edges s)).tally.done
unfolding clear_edges ◌>>=◌ look put
done-clear k s h = h

done-complete : (k : ℕ) (s : State) → k ≤ s.tally.done → k ≤ (left (complete s)).tally.done
unfolding complete ◌>>=◌ look put
done-complete k s h = omega arith

-- no move takes an expansion back
pub done-moves : (k : ℕ) → Keeps (λ s. k ≤ s.tally.done)
done-moves k = record {
  on_vertex = λ s v _ h. h;
  on_exchange = λ s _ h. h;
  on_face = λ s corners neighbours m _ h. h;
  on_queue = λ s e _ _ h. h;
  on_pop = λ s n _ h. h;
  on_delete = λ s i _ h. done-delete k s i h;
  on_pass = λ y w s p i _ _ _ h. h;
  on_link = λ s i c j _ _ h. h;
  on_clear = λ s h. done-clear k s h;
  on_complete = λ s h. done-complete k s h;
}

-- ---- and no others: what ends an expansion before it is complete leaves the count of them as it was

module _ (w : World) (k : ℕ) where
  abbrev D : {A : Type 0} → A → State → Type 0
  D a t = t.tally.done ≡ k

  abbrev DE : End → State → Type 0
  DE e t = t.tally.done ≡ k

  done-answer : {A : Type 0} (Q : A → State → Type 0) (why : Found) (i : ℕ) (t : State) → t.tally.done ≡ k → Meets Q DE (answer w.numbers why i t)
  unfolding answer
  done-answer Q why i t h = meets-look DE Q _ t (meets-stop DE Q _ t h)

  done-pop_live : (n : ℕ) (t : State) → t.tally.done ≡ k → Meets D DE (pop_live n t)
  unfolding pop_live pop_entry ◌>>◌ put
  done-pop_live zero t h = meets-pure DE _ _ t h
  done-pop_live (suc n) t h =
      meets-bind DE D _ _ _ t (meets-look DE _ _ t (meets-pure DE _ _ _ h)) λ e t1 h1.
      meets-look DE _ _ t1 (meets-branch DE _ _ _ _ t1 (λ _. meets-pure DE _ _ t1 h1) (λ _. done-pop_live n t1 h1))

  done-gone : (i : ℕ) (t : State) → t.tally.done ≡ k → Meets D DE (delete i t)
  unfolding delete
  done-gone i t h = meets-look DE _ _ t (meets-put DE _ _ t h)

  done-passed : (b : Bool) (a : WalkAnswer) (t : State) → t.tally.done ≡ k → Meets D DE (passed_if b a t)
  done-passed true (Ok n) t h = ends h
  done-passed true (Err _) t h = ends h
  done-passed false (Ok n) t h = goes h
  done-passed false (Err _) t h = ends h

  done-silhouette : (p i : ℕ) (t : State) → t.tally.done ≡ k → Meets D DE (silhouette w.walk_by w.numbers p i t)
  unfolding silhouette
  done-silhouette p i t h =
      let u = pass_from w.walk_by w.numbers t p i in
      done-passed u.short u.walk.answer (with_pass w.walk_by w.numbers t p i) h

  done-queue_new : (u : Expansion) (i : ℕ) (t : State) → t.tally.done ≡ k → Meets D DE (queue_new w.numbers u i t)
  unfolding queue_new
  done-queue_new u i t h =
      meets-look DE _ _ t (meets-branch DE _ _ _ _ t (λ _. done-answer _ new_face_nearer _ t h) (λ _. meets-queue DE _ _ _ i _ t h (λ _. h) (λ _. h)))

  done-grow_at : (u : Expansion) (f c : ℕ) (t : State) → t.tally.done ≡ k → Meets D DE (grow_at w.numbers u f c t)
  unfolding grow_at
  done-grow_at u f c t h =
      meets-look DE _ _ t
      (meets-then DE D _ _ _ t (meets-link DE _ _ _ _ t h) λ _ t1 h1.
      meets-then DE D _ _ _ t1 (meets-face DE _ _ _ _ t1 (λ _. h1) (λ _. h1)) λ _ t2 h2.
      meets-do_if DE _ _ _ t2 (λ _. done-queue_new u _ t2 h2) (λ _. h2))

  done-grow_all : (u : Expansion) (n i : ℕ) (t : State) → t.tally.done ≡ k → Meets D DE (grow_all w.numbers u n i t)
  unfolding grow_all grow
  done-grow_all u zero i t h = meets-ok DE _ t h
  done-grow_all u (suc n) i t h =
      meets-then DE D _ _ _ t (meets-look DE _ _ t (meets-do_if DE _ _ _ t (λ _. done-grow_at u _ _ t h) (λ _. h))) λ _ t1 h1.
      done-grow_all u n (i + 1) t1 h1

  done-clear_edges : (t : State) → t.tally.done ≡ k → Meets D DE (clear_edges t)
  unfolding clear_edges
  done-clear_edges t h = meets-look DE _ _ t (meets-put DE _ _ t h)

  done-regrow : (u : Expansion) (t : State) → t.tally.done ≡ k → Meets D DE (regrow w.numbers u t)
  unfolding regrow close_ring
  done-regrow u t h =
      meets-look DE _ _ t
      (meets-then DE D _ _ _ t (meets-stop_if DE _ _ _ t (λ _. h) (λ _. h)) λ _ t1 h1.
      meets-then DE D _ _ _ t1 (done-grow_all u _ 0 t1 h1) λ _ t2 h2.
      meets-look DE _ _ t2
      (meets-then DE D _ _ _ t2 (meets-stop_if DE _ _ _ t2 (λ _. h2) (λ _. h2)) λ _ t3 h3.
      meets-then DE D _ _ _ t3 (meets-link DE _ _ _ _ t3 h3) λ _ t4 h4.
      meets-then DE D _ _ _ t4 (meets-link DE _ _ _ _ t4 h4) λ _ t5 h5.
      done-clear_edges t5 h5))

  done-visit_if : (tol : Float) (b : Best) (o : Option Entry) (t : State) → t.tally.done ≡ k → Meets D DE (visit_if w tol b o t)
  unfolding visit settle expand
  done-visit_if tol b None t h = done-answer _ heap_empty _ t h
  done-visit_if tol b (Some e) t h =
      meets-look DE _ _ t
      (meets-then DE D _ _ _ t (meets-vertex DE _ _ t (λ _. h) (λ _. h)) λ _ t1 h1.
      meets-then DE D _ _ _ t1 (meets-do_if DE _ _ _ t1 (λ _. done-answer _ converged _ t1 h1) (λ _. h1)) λ _ t2 h2.
      meets-then DE D _ _ _ t2 (meets-do_if DE _ _ _ t2 (λ _. done-answer _ stuck _ t2 h2) (λ _. h2)) λ _ t3 h3.
      meets-then DE D _ _ _ t3
      (meets-then DE D _ _ _ t3 (done-gone _ t3 h3) λ _ t4 h4.
      meets-then DE D _ _ _ t4 (done-silhouette _ _ t4 h4) λ _ t5 h5.
      done-regrow _ t5 h5) λ _ t6 h6.
      meets-pure DE _ _ t6 h6)

  -- an expansion is counted where it is complete, and not where it ends the run
  pub done-iterate : (tol : Float) (b : Best) (t : State) → t.tally.done ≡ k → Meets (λ _ u. u.tally.done ≡ suc k) DE (iterate w tol b t)
  unfolding iterate complete
  done-iterate tol b t h =
      meets-look DE _ _ t
      (meets-bind DE D _ _ _ t (done-pop_live _ t h) λ o t1 h1.
      meets-bind DE D _ _ _ t1 (done-visit_if tol b o t1 h1) λ b1 t2 h2.
      meets-then DE (λ _ u. u.tally.done ≡ suc k) _ _ _ t2 (meets-look DE _ _ t2 (meets-put DE _ _ t2 (omega arith))) λ _ t3 h3.
      meets-pure DE _ _ t3 h3)
