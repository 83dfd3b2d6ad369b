-- The expansions one after another, told of the lists and the answers that the code leaves: at each turn what is left of them does the same as all did at first, and the stores are those of a run,
-- so that the heap's entries have a place each and no count is above 101. For any world. Assumes nothing.
use mathlib.Core.Path.{◌≡◌, refl, sym, ap, subst, ◌∙◌}
use Rattle.std.specs.Prelude.{Option, Some, None, Result, Ok, Err}
use Prim.Native.Nat.{ℕ, suc, ◌+◌, ◌-◌, ◌<◌, ◌≤◌}
use native.Mathlib.Numerals.{add-one}
use native.Mathlib.Omega.{arith}
use lib.Ieee.{Float}
use Rattle.simplex.specs.declared.voronoi_simplex.VoronoiSimplex.{VoronoiSimplex}
use Rattle.heap.specs.declared.Entry.{Entry}
use Rattle.epa_polytope.specs.declared.types.Best.{Best}
use Rattle.epa_polytope.specs.declared.types.End.{End}
use Rattle.epa_polytope.specs.declared.types.FaceId.{FaceId}
use Rattle.epa_polytope.specs.declared.types.Found.TheVariants.{EnoughExpansions, HeapEmpty}
use Rattle.epa_polytope.specs.declared.types.Store.TheVariants.{Heap as the_heap}
use Rattle.epa_polytope.specs.declared.types.Tally.{Tally}
use Rattle.epa_polytope.specs.declared.types.Visited.{Visited}
use Rattle.epa_polytope.specs.Stores.{Lists, State, state_of, none_yet}
use Rattle.epa_polytope.specs.Steps.{Out, onward, Act, next, answer_of, answer, pure, stop, look, put, ◌>>=◌, ◌>>◌}
use Rattle.epa_polytope.specs.Start.{World, format_of}
use Rattle.epa_polytope.specs.Run.{pop_live, visit, visit_if, complete, iterate, loop, expansions}
use Rattle.epa_polytope.specs.Demand3.{opened, one_more, run_to}
use Rattle.epa_polytope.specs.Promises.{Does, finish, visit_out, finish_out, entry_of}
use Rattle.epa_polytope.proofs.Start.{empty-lent, meets-run_to}
use Rattle.epa_polytope.proofs.Lengths.{SameLength, same-rooms, same-moves, long-itself}
use Rattle.epa_polytope.proofs.Counted.{done-iterate}
use Rattle.epa_polytope.proofs.Rule.{in-range}
use Rattle.epa_polytope.specs.declared.types.Finish.{Finish}
use Rattle.epa_polytope.specs.declared.types.Popped.{Popped}
use Rattle.epa_polytope.specs.Code.{pop_out, maybe_entry, completed_of, CanExpand, first_best, Started}

-- ---- the next live face is popped and expanded

-- an expansion that goes on is complete
abbrev completing : Best → Act Best
completing b = complete >> pure b

completed-out : (l : Lists) (r : Result Visited Finish) → visit_out l (completed_of r) ≡ next (visit_out l r) completing
unfolding complete pure look put ◌>>=◌ ◌>>◌
completed-out l (Ok v) = refl
completed-out l (Err x) = refl

module _ (w : World) (tol : Float) (b : Best) {l l1 : Lists} {c : Tally} {x : Popped} (g : Does pop_out (pop_live c.heap) l c l1 x) where
  -- what is done with the entry that was popped
  pops : {y : Option FaceId} → x.entry ≡ y → next (visit_if w tol b (maybe_entry y) (state_of l1 x.tally)) completing ≡ iterate w tol b (state_of l c)
  unfolding iterate look ◌>>=◌
  pops t =
      ap (λ (o : Out (Option Entry)). next o (λ e s. next (visit_if w tol b e s) completing))
      (subst (λ (z : Option FaceId). onward (maybe_entry z) (state_of l1 x.tally) ≡ pop_live c.heap (state_of l c)) t g.same)

  pub none_left : {e : End} → x.entry ≡ None → e ≡ answer_of (format_of w) HeapEmpty l1 b.face → Does visit_out (iterate w tol b) l c l1 (Err (finish e x.tally))
  unfolding answer stop look ◌>>=◌
  none_left t q = record { same = rw q (pops t) }

  module _ {i : FaceId} {l2 : Lists} {r : Result Visited Finish} (t : x.entry ≡ Some i) (h : Does visit_out (visit w tol b (entry_of i)) l1 x.tally l2 r) where
    pub iterated : {y : Result Visited Finish} → r ≡ y → Does visit_out (iterate w tol b) l c l2 (completed_of y)
    iterated {y} q = record { same = completed-out l2 y ∙ ap (λ (o : Out Best). next o completing) (rw q at h.same) ∙ pops t }

    pub iterated-ends : {f : Finish} → r ≡ Err f → Does visit_out (iterate w tol b) l c l2 (Err f)
    iterated-ends q = iterated q

    pub iterated-on : {v z : Visited} → r ≡ Ok v → Ok z ≡ completed_of (Ok v) → Does visit_out (iterate w tol b) l c l2 (Ok z)
    iterated-on q is = rw is (iterated q)

  -- an expansion does not count itself
  pub visited-early : {i : FaceId} {l2 : Lists} {r : Result Visited Finish} {v : Visited} → c.done ≤ 100 → x.entry ≡ Some i → Does visit_out (visit w tol b (entry_of i)) l1 x.tally l2 r → r ≡ Ok v
      → v.tally.done ≤ 100
  visited-early few t h q =
      let does = iterated t h q in
      let held = (rw (sym does.same) at (done-iterate w c.done tol b (state_of l c) refl)).held in
      omega (arith, few, held)

-- ---- the stores of a run

-- those of a run, of some simplex over some lent lists, that has completed k expansions
pub record Reached (w : World) (tol : Float) (k : ℕ) (b : Best) (s : State) : Type 0 where
  pub simplex : VoronoiSimplex
  pub lent : Lists
  pub ran : run_to w simplex k (state_of lent none_yet) ≡ onward (record { tol = tol; best = b }) s

reached-first : {w : World} {tol : Float} (l : Lists) (c : Tally) → Started w tol (state_of l c) → Reached w tol 0 (first_best (format_of w) l.heap_ids) (state_of l c)
unfolding run_to opened ◌>>=◌ look pure
reached-first {w} l c h = record { simplex = h.simplex; lent = h.lent; ran = ap (λ (o : Out Float). next o (opened w)) h.ran }

reached-next : {w : World} {tol : Float} {k : ℕ} {b b1 : Best} {s t : State} → Reached w tol k b s → iterate w tol b s ≡ onward b1 t → Reached w tol (suc k) b1 t
unfolding run_to one_more ◌>>=◌ pure
reached-next {w} {tol} h e = record {
  simplex = h.simplex;
  lent = h.lent;
  ran = rw h.ran (ap (λ (o : Out Best). next o (λ b. pure (record { tol = tol; best = b }))) e);
}

-- the heap's entries have a place each, and no more expansions are complete than it completed
can-expand : {w : World} {tol : Float} {k : ℕ} {b : Best} (l : Lists) (c : Tally) → k ≤ 100 → Reached w tol k b (state_of l c) → CanExpand c l.heap_ids l.heap_keys
can-expand {w} {tol} {k} {b} l c few h =
    let x = h.lent in
    let m = (rw h.ran at (meets-run_to (λ s. SameLength x s.lists) (same-moves x) w h.simplex (state_of x none_yet) (empty-lent x) (long-itself x) k (omega arith))).held in
    let room = (in-range w h.simplex x k (omega arith) _ _ h.ran).1.counts the_heap in
    record { within = omega (arith, room, same-rooms x l m.ready.kept the_heap); early = omega (arith, m.ready.completed) }

-- ---- the loop

-- after i turns: the lists are l0 at first, and l now
pub record ExpandLoop (w : World) (tol : Float) (l0 : Lists) (c0 : Tally) (l : Lists) (c : Tally) (b : Best) (i : ℕ) : Type 0 where
  pub within : i ≤ 101
  pub reached : Reached w tol i b (state_of l c)
  pub goes_on : loop w tol (101 - i) b (state_of l c) ≡ expansions w tol (state_of l0 c0)

from_first : (w : World) (tol : Float) (l : Lists) (c : Tally) → loop w tol 101 (first_best (format_of w) l.heap_ids) (state_of l c) ≡ expansions w tol (state_of l c)
unfolding expansions look ◌>>=◌
from_first w tol l c = refl

pub loop-starts : {w : World} {tol : Float} (l : Lists) (c : Tally) {b : Best} → Started w tol (state_of l c) → b ≡ first_best (format_of w) l.heap_ids → ExpandLoop w tol l c l c b 0
loop-starts {w} {tol} l c h e = record { within = omega arith; reached = rw e (reached-first l c h); goes_on = rw e (from_first w tol l c) }

module _ {w : World} {tol : Float} {l0 : Lists} {c0 : Tally} {l : Lists} {c : Tally} {b : Best} {i : ℕ} (h : ExpandLoop w tol l0 c0 l c b i) where
  pub turn-ready : i < 101 → CanExpand c l.heap_ids l.heap_keys
  turn-ready more = can-expand l c (omega arith) h.reached

  pub loop-done : {e : End} → 101 ≤ i → e ≡ answer_of (format_of w) EnoughExpansions l b.face → Does finish_out (expansions w tol) l0 c0 l (finish e c)
  unfolding loop answer stop look ◌>>=◌
  loop-done z q =
      let none : 101 - i ≡ 0 = omega arith in
      record { same = rw q (rw none at h.goes_on) }

  module _ {l' : Lists} {r : Result Visited Finish} (more : i < 101) (g : Does visit_out (iterate w tol b) l c l' r) where
    one-turn : {y : Result Visited Finish} → r ≡ y → next (visit_out l' y) (loop w tol (101 - (i + 1))) ≡ expansions w tol (state_of l0 c0)
    unfolding loop ◌>>=◌
    one-turn t =
        let e : 101 - i ≡ suc (101 - (i + 1)) = omega arith in
        ap (λ (o : Out Best). next o (loop w tol (101 - (i + 1)))) (rw t at g.same) ∙ (rw e at h.goes_on)

    pub loop-ends : {x : Finish} → r ≡ Err x → Does finish_out (expansions w tol) l0 c0 l' x
    loop-ends t = record { same = one-turn t }

    pub loop-turns : {x : Visited} → r ≡ Ok x → ExpandLoop w tol l0 c0 l' x.tally x.best (i + 1)
    loop-turns t =
        record { within = omega arith; reached = rw (add-one i) (reached-next h.reached (sym (rw t at g.same))); goes_on = one-turn t }
