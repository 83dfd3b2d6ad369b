-- `pop` is `pop_of`, by what `peek` answers, and told as that; what it leaves is what `take_last` leaves.
use Prim.Native.Nat.{◌+◌, ◌-◌}
use mathlib.Core.Path.{◌≡◌, refl, sym, ap, ◌∙◌}
use native.Mathlib.Omega.{arith}
use Rattle.std.specs.Prelude.{Option, Some, Result, Ok}
use Rattle.refusal.specs.declared.NoRoom.{NoRoom}
use Rattle.number.proofs.Told.{told}
use Rattle.heap.specs.declared.Popped.{Popped}
use Rattle.heap.specs.Heap.{Heap, heap, popped}
use Rattle.heap.specs.Calls.{After, leaves, popped_of}
use Rattle.heap.proofs.Answers.{first_out}
use Rattle.heap.proofs.pop.Goals as goal

pub overflow_sub-last : goal.overflow_sub-last
overflow_sub-last c = let a = c.args in let f = first_out (heap a.faces.now a.keys.now a.count) c.in-Some.is c.in_ok-entry.ensures.answer in omega (arith, f.counts)

pub take_last-requires : goal.take_last-requires
take_last-requires c =
    let a = c.args in
    let f = first_out (heap a.faces.now a.keys.now a.count) c.in-Some.is c.in_ok-entry.ensures.answer in
    omega (arith, f.counts, f.within)

pub returns-clause-answer : goal.returns-clause-answer
returns-clause-answer c =
    let a = c.args in
    let f = first_out (heap a.faces.now a.keys.now a.count) c.in-Some.is c.in_ok-entry.ensures.answer in
    let n : a.count - 1 ≡ f.rest = omega (arith, f.counts) in
    let all : a.count - 1 + 1 ≡ a.count = omega (arith, f.counts) in
    let gone : heap c.take_last.new.faces c.take_last.new.keys (a.count - 1) ≡ popped (heap a.faces.now a.keys.now a.count) f.rest = c.take_last.ensures ∙ rw (all, n) refl in
    ap (λ (g : Heap). leaves g (Ok (Some (popped_of c.in-Some.entry (a.count - 1))))) gone ∙ rw n (sym f.pops)

pub returns-clause-told : goal.returns-clause-told
returns-clause-told c = told (ap (λ (x : After (Result (Option Popped) NoRoom)). x.answer) (returns-clause-answer c))
