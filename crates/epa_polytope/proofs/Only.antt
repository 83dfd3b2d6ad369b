-- The contracts of the walks leave no choice: what meets one is one content of each list and one answer, field by field (`walked-only`, `walking-only`); and so does a contract of what is
-- read off lists that are not lent (`reads_only`). Of the run's other steps see `does-only` of Doing.antt. Assumes nothing.
use mathlib.Core.Path.{◌≡◌, sym, ap, ◌∙◌}
use mathlib.Core.List.{List}
use Prim.Native.Nat.{ℕ}
use Rattle.epa_polytope.specs.declared.types.WalkSoFar.{WalkSoFar}
use Rattle.epa_polytope.specs.Stores.{Lists}
use Rattle.epa_polytope.specs.Silhouette.{Walked, walked_by}
use Rattle.epa_polytope.specs.PlainWalk.{PlainSoFar, Walking, walking_by}
use Rattle.epa_polytope.specs.Promises.{Reads}

-- whatever the lists hold that are not lent
pub reads_only : {R : Type 0} (d : Lists → R) (slices : Lists → Lists) {x y : R} → Lists → Reads d x slices → Reads d y slices → x ≡ y
reads_only d slices k g h = g k ∙ sym (h k)

pub record OneWalk (d1 d2 e1 e2 : List ℕ) (r1 r2 : WalkSoFar) : Type 0 where
  pub deleted : d1 ≡ d2
  pub edges : e1 ≡ e2
  pub missed : r1.missed ≡ r2.missed
  pub answer : r1.answer ≡ r2.answer

pub walked-only : {d1 d2 e1 e2 : List ℕ} {r1 r2 : WalkSoFar} (x : Walked) → walked_by d1 e1 r1 ≡ x → walked_by d2 e2 r2 ≡ x → OneWalk d1 d2 e1 e2 r1 r2
walked-only x g h =
    let e = g ∙ sym h in
    record { deleted = ap (λ (y : Walked). y.deleted) e; edges = ap (λ (y : Walked). y.edges) e; missed = ap (λ (y : Walked). y.missed) e; answer = ap (λ (y : Walked). y.answer) e }

pub record OnePlainWalk (d1 d2 e1 e2 p1 p2 : List ℕ) (r1 r2 : PlainSoFar) : Type 0 where
  pub deleted : d1 ≡ d2
  pub edges : e1 ≡ e2
  pub pending : p1 ≡ p2
  pub missed : r1.missed ≡ r2.missed
  pub answer : r1.answer ≡ r2.answer
  pub held : r1.held ≡ r2.held
  pub short : r1.short ≡ r2.short

pub walking-only : {d1 d2 e1 e2 p1 p2 : List ℕ} {r1 r2 : PlainSoFar} (x : Walking) → walking_by d1 e1 p1 r1 ≡ x → walking_by d2 e2 p2 r2 ≡ x → OnePlainWalk d1 d2 e1 e2 p1 p2 r1 r2
walking-only x g h =
    let e = g ∙ sym h in
    record {
      deleted = ap (λ (y : Walking). y.walk.deleted) e;
      edges = ap (λ (y : Walking). y.walk.edges) e;
      pending = ap (λ (y : Walking). y.pending) e;
      missed = ap (λ (y : Walking). y.walk.missed) e;
      answer = ap (λ (y : Walking). y.walk.answer) e;
      held = ap (λ (y : Walking). y.held) e;
      short = ap (λ (y : Walking). y.short) e;
    }
