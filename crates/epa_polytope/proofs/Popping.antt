-- Entries go out of the heap until one is of a live face, told of the lists and the answer that the code leaves: at each turn what is left of the heap does the same as all did at first.
-- Assumes nothing.
use mathlib.Core.Path.{◌≡◌, refl, sym, ap, subst, ◌∙◌}
use mathlib.Core.Bool.{Bool, true, false, cond}
use mathlib.Core.List.{List}
use Rattle.std.specs.Prelude.{Option, Some, None, Result, Ok, Err}
use Rattle.std.specs.Result.{result_unwrap_or}
use Prim.Native.Nat.{ℕ, zero, suc, ◌<◌, ◌≤◌, min}
use native.Mathlib.Omega.{arith}
use lib.ListN.{length, get_or}
use lib.Dec.{ltb, eqb}
use lib.Ieee.{Float}
use borrow.Author.Tests.{eq-eqb, ne_eqb, ltb-false}
use Rattle.heap.specs.declared.Entry.{Entry}
use Rattle.heap.specs.Heap.{Heap, heap, entry_at, popped}
use Rattle.heap.specs.Calls.{After, after, leaves, popped_of, pop_of, pop_in}
use Rattle.heap.specs.declared.Popped.{Popped}
use Rattle.refusal.specs.Refusal.{no_room}
use Rattle.refusal.specs.declared.NoRoom.{NoRoom}
use Rattle.epa_polytope.specs.Stores.{Lists, state_of, with_heap, heap_count}
use Rattle.epa_polytope.specs.Steps.{Out, branch, pure, look, put, ◌>>=◌, ◌>>◌}
use Rattle.epa_polytope.specs.Run.{pop_entry, pop_live}
use Rattle.epa_polytope.specs.Promises.{Does}
use Rattle.epa_polytope.specs.declared.types.Tally.{Tally}
use Rattle.epa_polytope.proofs.Heaps.{inside-popped}
use Rattle.epa_polytope.specs.Code.{pop_out}

-- ---- a pop, where the heap's entries have a place each

-- the entry of p goes out of a heap of k, and its count is left
pub record First (hi : List ℕ) (hk : List Float) (k : ℕ) (hi' : List ℕ) (hk' : List Float) (p : Popped) : Type 0 where
  pub one_fewer : k ≡ suc p.count
  pub is : entry_at (heap hi hk k) 0 ≡ p.entry
  pub rest : heap hi' hk' p.count ≡ popped (heap hi hk k) p.count

-- what a pop answers
abbrev Answer : Type 0
Answer = Result (Option Popped) NoRoom

no-first : {p : Popped} → ◌≡◌ {A = Answer} (Ok (Some p)) (Ok None) → ⊥
no-first e = let z : ◌≡◌ {A = ℕ} 0 1 = cc in omega arith

refused : {p : Popped} {e : NoRoom} → ◌≡◌ {A = Answer} (Ok (Some p)) (Err e) → ⊥
refused e = let z : ◌≡◌ {A = ℕ} 0 1 = cc in omega arith

same_first : {p q : Popped} → ◌≡◌ {A = Answer} (Ok (Some p)) (Ok (Some q)) → q ≡ p
same_first e = cc

as-heap : (h : Heap) (n : ℕ) → h.count ≡ n → heap h.faces h.keys n ≡ h
as-heap h n e = rw (sym e)

-- what a pop answers and leaves, of a heap of n + 1
abbrev pop_by : List ℕ → List Float → ℕ → Bool → After Answer
pop_by hi hk n b =
    let h = heap hi hk (suc n) in
    cond b (leaves (popped h n) (Ok (Some (popped_of (entry_at h 0) n)))) (leaves h (Err no_room))

first_out : (hi : List ℕ) (hk : List Float) (k : ℕ) (hi' : List ℕ) (hk' : List Float) (p : Popped) → after hi' hk' (Ok (Some p)) ≡ pop_of (heap hi hk k) → First hi hk k hi' hk' p
unfolding pop_of pop_in
first_out hi hk zero hi' hk' p e = absurd (no-first (ap (λ (x : After Answer). x.answer) e))
first_out hi hk (suc n) hi' hk' p e = by (ltb n (min (length hi) (length hk))) e
  where
    by : (b : Bool) → after hi' hk' (Ok (Some p)) ≡ pop_by hi hk n b → First hi hk (suc n) hi' hk' p
    by true e =
        let h = heap hi hk (suc n) in
        let s : popped_of (entry_at h 0) n ≡ p = same_first (ap (λ (x : After Answer). x.answer) e) in
        let e1 : hi' ≡ (popped h n).faces = ap (λ (x : After Answer). x.faces) e in
        let e2 : hk' ≡ (popped h n).keys = ap (λ (x : After Answer). x.keys) e in
        let back : heap hi' hk' n ≡ popped h n = rw (e1, e2) (as-heap (popped h n) n (inside-popped h n).counts) in
        record { one_fewer = ap (λ (q : Popped). suc q.count) s; is = ap (λ (q : Popped). q.entry) s; rest = subst (λ (q : Popped). heap hi' hk' q.count ≡ popped h q.count) s back }
    by false e = absurd (refused (ap (λ (x : After Answer). x.answer) e))

none_out : (hi : List ℕ) (hk : List Float) (k : ℕ) (hi' : List ℕ) (hk' : List Float) (x : Answer) → k ≤ min (length hi) (length hk)
    → ((p : Popped) → x ≡ Ok (Some p) → ⊥) → after hi' hk' x ≡ pop_of (heap hi hk k) → (k ≡ 0) × (hi' ≡ hi) × (hk' ≡ hk)
unfolding pop_of pop_in
none_out hi hk zero hi' hk' x l t e = (refl, ap (λ (y : After Answer). y.faces) e, ap (λ (y : After Answer). y.keys) e)
none_out hi hk (suc n) hi' hk' x l t e = by (ltb n (min (length hi) (length hk))) refl e
  where
    by : (b : Bool) → ltb n (min (length hi) (length hk)) ≡ b → after hi' hk' x ≡ pop_by hi hk n b → (suc n ≡ 0) × (hi' ≡ hi) × (hk' ≡ hk)
    by true q e = absurd (t _ (ap (λ (y : After Answer). y.answer) e))
    by false q e = let o : ⊥ = omega (arith, ltb-false n (min (length hi) (length hk)) q) in absurd o

-- ---- the loop. The lists are l0 at first, and l now

pub record PopLoop (l0 : Lists) (c0 : Tally) (l : Lists) (c : Tally) : Type 0 where
  pub within : c.heap ≤ min (length l.heap_ids) (length l.heap_keys)
  pub goes_on : pop_live c.heap (state_of l c) ≡ pop_live c0.heap (state_of l0 c0)

pub pop-starts : (l : Lists) (c : Tally) → c.heap ≤ min (length l.heap_ids) (length l.heap_keys) → PopLoop l c l c
pop-starts l c h = record { within = h; goes_on = refl }

-- what the code takes of an answer: an entry, or none
none-unlike : {p : Popped} → ◌≡◌ {A = Option Popped} None (Some p) → ⊥
none-unlike e = let z : ◌≡◌ {A = ℕ} 0 1 = cc in omega arith

got : (x : Answer) (p : Popped) → result_unwrap_or x None ≡ Some p → x ≡ Ok (Some p)
got (Ok o) p t = ap (λ (y : Option Popped). Ok y) t
got (Err e) p t = absurd (none-unlike t)

module _ {l0 : Lists} {c0 : Tally} {l : Lists} {c : Tally} (h : PopLoop l0 c0 l c) {hi' : List ℕ} {hk' : List Float} {x : Answer}
    (e : after hi' hk' x ≡ pop_of (heap l.heap_ids l.heap_keys c.heap)) {o : Option Popped} (taken : o ≡ result_unwrap_or x None) where
  pub pop-empty : o ≡ None → Does pop_out (pop_live c0.heap) l0 c0 (with_heap hi' hk' l) (record { entry = None; tally = c })
  unfolding pop_live pure
  pop-empty t =
      let z = none_out l.heap_ids l.heap_keys c.heap hi' hk' x h.within (λ p q. none-unlike (sym t ∙ taken ∙ ap (λ (y : Answer). result_unwrap_or y None) q)) e in
      let g = subst (λ (i : ℕ). pop_live i (state_of l c) ≡ pop_live c0.heap (state_of l0 c0)) z.0 h.goes_on in
      record { same = rw (z.1, z.2) g }

  module _ {p : Popped} (is-one : o ≡ Some p) where
    t : x ≡ Ok (Some p)
    t = got x p (sym taken ∙ is-one)

    one : First l.heap_ids l.heap_keys c.heap hi' hk' p
    one = first_out l.heap_ids l.heap_keys c.heap hi' hk' p (ap (λ (y : Answer). after hi' hk' y) (sym t) ∙ e)

    -- what is done with an entry x that was popped, and the heap y that was left
    abbrev by_entry : Entry → Heap → Out (Option Entry)
    by_entry x y = branch (eqb (get_or l.deleted x.face 1) 0) (pure (Some x)) (pop_live p.count) (state_of (with_heap y.faces y.keys l) (heap_count y.count c))

    goes : by_entry p.entry (heap hi' hk' p.count) ≡ pop_live c0.heap (state_of l0 c0)
    unfolding pop_live pop_entry ◌>>=◌ ◌>>◌ look put pure
    goes =
        let g = subst (λ (j : ℕ). pop_live j (state_of l c) ≡ pop_live c0.heap (state_of l0 c0)) one.one_fewer h.goes_on in
        let g1 = subst (λ (x : Entry). by_entry x (popped (heap l.heap_ids l.heap_keys c.heap) p.count) ≡ pop_live c0.heap (state_of l0 c0)) one.is g in
        subst (λ (y : Heap). by_entry p.entry y ≡ pop_live c0.heap (state_of l0 c0)) (sym one.rest) g1

    pub pop-live : {z : ℕ} → z ≡ get_or l.deleted p.entry.face 1 → z ≡ 0
        → Does pop_out (pop_live c0.heap) l0 c0 (with_heap hi' hk' l) (record { entry = Some (record { id = p.entry.face; neg_dist = p.entry.key }); tally = heap_count p.count c })
    unfolding branch pure
    pop-live is live = record { same = rw (eq-eqb (get_or l.deleted p.entry.face 1) 0 (sym is ∙ live)) at goes }

    pub pop-less : p.count < c.heap
    pop-less = let q = one.one_fewer in omega arith

    pub pop-again : {z : ℕ} → z ≡ get_or l.deleted p.entry.face 1 → (z ≡ 0 → ⊥) → length hi' ≡ length l.heap_ids → length hk' ≡ length l.heap_keys
        → PopLoop l0 c0 (with_heap hi' hk' l) (heap_count p.count c)
    unfolding branch
    pop-again is dead ki kk = record {
      within = let q = one.one_fewer in let k = h.within in omega (arith, ki, kk);
      goes_on = rw (ne_eqb (get_or l.deleted p.entry.face 1) 0 (λ o. dead (is ∙ o))) at goes;
    }
