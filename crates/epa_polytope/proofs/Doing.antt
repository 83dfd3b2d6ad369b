-- Steps in sequence, told of what the code leaves and answers after each (`Does`); and that what a contract says leaves no choice (`does-only`). Assumes nothing.
use mathlib.Core.Path.{◌≡◌, refl, sym, ap, subst, ◌∙◌}
use mathlib.Core.Bool.{Bool, true, false}
use mathlib.Core.List.{[]}
use Rattle.epa_polytope.specs.Promises.{Step, finish}
use Rattle.std.specs.Prelude.{Result, Ok, Err, IsErrAnd}
use Rattle.epa_polytope.specs.declared.types.Begun.{Begun}
use Rattle.epa_polytope.specs.declared.types.Visited.{Visited}
use Rattle.epa_polytope.specs.declared.types.Finish.{Finish}
use lib.Ieee.{Float}
use Rattle.epa_polytope.specs.Run.{Best}
use Rattle.epa_polytope.specs.Stores.{Lists, Tally, State, state_of}
use Rattle.epa_polytope.specs.Steps.{End, Out, onward, ended, next, Act, Nil, ◌>>=◌, ◌>>◌, look, stop_if, do_if, branch}
use Rattle.epa_polytope.specs.Promises.{Does, step_out, begin_out, visit_out}
use Rattle.epa_polytope.proofs.Moves.{left}

-- lists for those that a function is not lent, which may be any
abbrev pub nothing-else : Lists
nothing-else = record { vertices = []; face_ids = []; face_floats = []; deleted = []; edges = []; heap_ids = []; heap_keys = []; pending = [] }

-- ---- one answer

-- what answers of the kind R tell of a step can be read back
pub record Readable {A R : Type 0} (out : Lists → R → Out A) : Type 0 where
  pub read : Out A → R
  pub answered : (l : Lists) (r : R) → read (out l r) ≡ r
  pub kept : (l : Lists) (r : R) → (left (out l r)).lists ≡ l

-- TWO ANSWERS THAT MEET ONE CONTRACT are the same, and so are the lists that they leave
pub does-only : {A R : Type 0} {out : Lists → R → Out A} → Readable out → {a : Act A} {l : Lists} {c : Tally} (l1 l2 : Lists) (r1 r2 : R) → Does out a l c l1 r1 → Does out a l c l2 r2
    → (l1 ≡ l2) × (r1 ≡ r2)
does-only {A} {R} {out} g l1 l2 r1 r2 h1 h2 =
    let e : out l1 r1 ≡ out l2 r2 = h1.same ∙ sym h2.same in
    (sym (g.kept l1 r1) ∙ ap (λ (o : Out A). (left o).lists) e ∙ g.kept l2 r2, sym (g.answered l1 r1) ∙ ap g.read e ∙ g.answered l2 r2)

abbrev step_in : Out Nil → Step
step_in (onward _ s) = Ok s.tally
step_in (ended e s) = Err (finish e s.tally)

pub steps-readable : Readable step_out
steps-readable = record { read = step_in; answered = answer-read; kept = lists-kept }
  where
    answer-read : (l : Lists) (r : Step) → step_in (step_out l r) ≡ r
    answer-read l (Ok c) = refl
    answer-read l (Err x) = refl

    lists-kept : (l : Lists) (r : Step) → (left (step_out l r)).lists ≡ l
    lists-kept l (Ok c) = refl
    lists-kept l (Err x) = refl

abbrev begin_in : Out Float → Result Begun Finish
begin_in (onward tol s) = Ok (record { tol = tol; tally = s.tally })
begin_in (ended e s) = Err (finish e s.tally)

pub begins-readable : Readable begin_out
begins-readable = record { read = begin_in; answered = answer-read; kept = lists-kept }
  where
    answer-read : (l : Lists) (r : Result Begun Finish) → begin_in (begin_out l r) ≡ r
    answer-read l (Ok b) = refl
    answer-read l (Err x) = refl

    lists-kept : (l : Lists) (r : Result Begun Finish) → (left (begin_out l r)).lists ≡ l
    lists-kept l (Ok b) = refl
    lists-kept l (Err x) = refl

abbrev visit_in : Out Best → Result Visited Finish
visit_in (onward b s) = Ok (record { best = b; tally = s.tally })
visit_in (ended e s) = Err (finish e s.tally)

pub visits-readable : Readable visit_out
visits-readable = record { read = visit_in; answered = answer-read; kept = lists-kept }
  where
    answer-read : (l : Lists) (r : Result Visited Finish) → visit_in (visit_out l r) ≡ r
    answer-read l (Ok v) = refl
    answer-read l (Err x) = refl

    lists-kept : (l : Lists) (r : Result Visited Finish) → (left (visit_out l r)).lists ≡ l
    lists-kept l (Ok v) = refl
    lists-kept l (Err x) = refl

-- ---- steps in sequence

-- what a function that is lent some of the lists does, at the lists l: `refl` says that l has the lent ones in their places
pub here : {A R : Type 0} {out : Lists → R → Out A} {a : Act A} {l0 l1 : Lists → Lists} {c : Tally} {r : R} → ((k : Lists) → Does out a (l0 k) c (l1 k) r) → (l : Lists) → l0 l ≡ l
    → Does out a l c (l1 l) r
here {A} {R} {out} {a} {l0} {l1} {c} {r} g l e = subst (λ (x : Lists). Does out a x c (l1 l) r) e (g l)

-- and what a function that only reads answers
pub read_here : {R : Type 0} (d : Lists → R) {l0 : Lists → Lists} {r : R} → ((k : Lists) → r ≡ d (l0 k)) → (l : Lists) → l0 l ≡ l → r ≡ d l
read_here d g l e = g l ∙ ap d e

-- after a first step that answers no more than the tally, or the run's end
module _ {B R : Type 0} {out : Lists → R → Out B} {a : Act Nil} (b : Act B) {l l1 : Lists} {c : Tally} {r : Step} (does : Does step_out a l c l1 r) where
  -- it goes on, and the second does the rest
  pub goes_on : {x : Tally} {l2 : Lists} {r2 : R} → r ≡ Ok x → Does out b l1 x l2 r2 → Does out (a >> b) l c l2 r2
  unfolding ◌>>◌
  goes_on t h = record { same = h.same ∙ ap (λ (o : Out Nil). next o (λ _. b)) (sym (ap (step_out l1) t) ∙ does.same) }

  -- it ends the run: the answer r2 says so
  pub ends-here : {x : Finish} (r2 : R) → out l1 r2 ≡ ended x.end (state_of l1 x.tally) → r ≡ Err x → Does out (a >> b) l c l1 r2
  unfolding ◌>>◌
  ends-here r2 tells t = record { same = tells ∙ ap (λ (o : Out Nil). next o (λ _. b)) (sym (ap (step_out l1) t) ∙ does.same) }

module _ {A R : Type 0} {out : Lists → R → Out A} where
  -- the stores are looked at
  pub looked : (k : State → Act A) {l l' : Lists} {c : Tally} {r : R} → Does out (k (state_of l c)) l c l' r → Does out (look >>= k) l c l' r
  unfolding look ◌>>=◌
  looked k h = record { same = h.same }

  -- the way that is taken where two part
  pub first_way : {b : Bool} {a : Act A} (k : Act A) {l l' : Lists} {c : Tally} {r : R} → b ≡ true → Does out a l c l' r → Does out (branch b a k) l c l' r
  unfolding branch
  first_way k t h = record { same = rw t h.same }

  pub second_way : {b : Bool} (a : Act A) {k : Act A} {l l' : Lists} {c : Tally} {r : R} → b ≡ false → Does out k l c l' r → Does out (branch b a k) l c l' r
  unfolding branch
  second_way a t h = record { same = rw t h.same }

  -- a run that ends if b holds
  pub stopped : {b : Bool} {e : End} (a : Act A) {l : Lists} {c : Tally} (r : R) → out l r ≡ ended e (state_of l c) → b ≡ true → Does out (stop_if b e >> a) l c l r
  unfolding stop_if ◌>>◌
  stopped a r tells t = record { same = rw t tells }

  pub not_stopped : {b : Bool} (e : End) {a : Act A} {l l' : Lists} {c : Tally} {r : R} → b ≡ false → Does out a l c l' r → Does out (stop_if b e >> a) l c l' r
  unfolding stop_if ◌>>◌
  not_stopped e t h = record { same = rw t h.same }

-- a step that is taken if b holds
pub done-if : {b : Bool} {a : Act Nil} {l l' : Lists} {c : Tally} {r : Step} → b ≡ true → Does step_out a l c l' r → Does step_out (do_if b a) l c l' r
unfolding do_if
done-if t h = record { same = rw t h.same }

pub not_done : {b : Bool} (a : Act Nil) {l : Lists} {c : Tally} → b ≡ false → Does step_out (do_if b a) l c l (Ok c)
unfolding do_if
not_done a t = record { same = rw t }

-- ---- what `?` hands on

-- the answer that a `?` returns is the refusal that it found
pub hands-on : {A R : Type 0} {out : Lists → Result R Finish → Out A} {a : Act A} {l l' : Lists} {c : Tally} {x : Finish} {r : Result R Finish} → IsErrAnd r (λ y. y ≡ x)
    → Does out a l c l' (Err x) → Does out a l c l' r
hands-on {r = Ok _} h d = absurd h
hands-on {r = Err _} h d = rw h d
