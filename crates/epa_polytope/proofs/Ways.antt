-- Ways out that no run takes: 'stuck' never decides, and the first peek finds a face. Assumes nothing.
use mathlib.Core.Path.{◌≡◌, refl, sym, ap, ◌∙◌}
use mathlib.Core.Bool.{Bool, true, false, cond, ◌&&◌, ◌||◌}
use Prim.Native.Nat.{ℕ, zero, suc, ◌+◌, ◌/◌, ◌<◌}
use native.Mathlib.Omega.{arith}
use lib.Ieee.{Float, Format, lt}
use borrow.Author.Tests.{not-false}
use Rattle.number.proofs.Order.{lt_irrefl}
use Rattle.number.specs.Constants.{epsilon}
use Rattle.number.specs.Small.{absolute}
use Rattle.vector.specs.Vector.{◌⊖◌}
use Rattle.heap.proofs.Steps.{swap-count}
use Rattle.heap.specs.declared.Entry.{Entry}
use Rattle.heap.specs.Heap.{Heap, heap, put as put_entry, swap, less, rise_in, rise, pushed, entry}
use Rattle.epa_polytope.specs.Start.{World, queue_start, four_faces, queue_four, start_four, two_faces, start_two, start_faces}
use Rattle.epa_polytope.specs.Stores.{State, heap_of}
use Rattle.epa_polytope.specs.Steps.{Lost, End, Out, Nil, push_face, enqueue, queue_face, do_if}
use Rattle.epa_polytope.specs.Run.{Best, bettered, is_stuck}
use Rattle.epa_polytope.proofs.Steps.{Meets, goes, ends, meets-then, meets-look, meets-stop_if, meets-do_if, meets-enqueue, meets-queue, meets-branch, meets-map}

-- ---- 'stuck'

and-false : (a b : Bool) → b ≡ false → (a && b) ≡ false
and-false true b e = e
and-false false b e = refl

not-below : (c bound : Float) (b : Bool) → lt c bound ≡ b → lt c (cond b c bound) ≡ false
not-below c bound true e = lt_irrefl c
not-below c bound false e = e

cond-bound : (y : Bool) (i : ℕ) (c : Float) (b : Best) → (cond y (record { face = i; bound = c; last = b.last }) b).bound ≡ cond y c b.bound
cond-bound true i c b = refl
cond-bound false i c b = refl

-- 'STUCK' NEVER DECIDES: the bound has just been lowered to the candidate, or the candidate is not below it
pub never_stuck : (f : Format) (dist last c : Float) (b : Best) (i : ℕ) → is_stuck f dist last c (bettered b i c).bound ≡ false
unfolding is_stuck bettered
never_stuck f dist last c b i =
    and-false (lt (absolute (◌⊖◌ f dist last)) (epsilon f)) _ (ap (λ (x : Float). lt c x) (cond-bound (lt c b.bound) i c b) ∙ not-below c b.bound (lt c b.bound) refl)

-- ---- the first peek

pub rise-count : (n : ℕ) (h : Heap) (i : ℕ) → (rise_in n h i).count ≡ h.count
unfolding rise_in
rise-count zero h i = refl
rise-count (suc n) h zero = refl
rise-count (suc n) h (suc i) = by (less h (i / 2) (suc i)) (rise-count n (swap h (suc i) (i / 2)) (i / 2) ∙ swap-count h (suc i) (i / 2))
  where
    by : (b : Bool) → (rise_in n (swap h (suc i) (i / 2)) (i / 2)).count ≡ h.count → (cond b (rise_in n (swap h (suc i) (i / 2)) (i / 2)) h).count ≡ h.count
    by true e = e
    by false e = refl

pub pushed-count : (h : Heap) (e : Entry) → (pushed h e).count ≡ h.count + 1
unfolding pushed rise
pushed-count h e = rise-count (suc h.count) (put_entry (heap h.faces h.keys (h.count + 1)) h.count e) h.count

abbrev Ever : End → State → Type 0
Ever e t = Unit {0}

-- the heap has an entry, if b
abbrev FilledIf : Bool → Nil → State → Type 0
FilledIf b a t = b ≡ true → 0 < t.tally.heap

abbrev Filled : Nil → State → Type 0
Filled a t = 0 < t.tally.heap

abbrev Anything : {A : Type 0} → A → State → Type 0
Anything a t = Unit {0}

fills : (why : Lost) (tol : Float) (i : ℕ) (key : Float) (s : State) → Meets Filled Ever (queue_face why tol i key s)
fills why tol i key s = meets-queue Ever _ why tol i key s tt (λ _. tt) (λ _. omega (arith, pushed-count (heap_of s) (entry i key)))

fills-enqueue : (i : ℕ) (key : Float) (s : State) → Meets Filled Ever (enqueue i key s)
fills-enqueue i key s = meets-enqueue Ever _ i key s (λ _. tt) (λ _. omega (arith, pushed-count (heap_of s) (entry i key)))

one_of : (a b : Bool) → (a || b) ≡ true → (P : Type 0) → (a ≡ true → P) → (b ≡ true → P) → P
one_of true b e P p q = p refl
one_of false b e P p q = q e

anything : (o : Out Nil) → Meets Anything Ever o
anything (Out.onward a s) = goes tt
anything (Out.ended e s) = ends tt

module _ (w : World) (tol : Float) where
  -- what was in it stays, and it has an entry if the face holds the projection
  fills-start : (i : ℕ) (before holds : Bool) (s : State) → FilledIf before tt s
      → Meets (λ _ t. FilledIf (before || holds) tt t) Ever (queue_start w.numbers tol i holds s)
  unfolding queue_start
  fills-start i before holds s h =
      meets-do_if Ever _ holds _ s
      (λ _. meets-look Ever _ _ s (meets-map Ever (λ _ t k e. k) (fills _ tol i _ s)))
      (λ no e. one_of before holds e _ h (λ yes. let z : ◌≡◌ {A = Bool} true false = sym yes ∙ no in absurd (mathlib.Core.Bool.true≢false z)))

  fills-four : (a b c d : Bool) (s : State) → Meets Filled Ever (queue_four w.numbers tol a b c d s)
  unfolding queue_four
  fills-four a b c d s =
      meets-then Ever (λ _ t. FilledIf (false || a) tt t) _ _ _ s (fills-start 0 false a s (λ e. absurd (mathlib.Core.Bool.true≢false (sym e)))) λ _ s1 h1.
      meets-then Ever (λ _ t. FilledIf (false || a || b) tt t) _ _ _ s1 (fills-start 1 (false || a) b s1 h1) λ _ s2 h2.
      meets-then Ever (λ _ t. FilledIf (false || a || b || c) tt t) _ _ _ s2 (fills-start 2 (false || a || b) c s2 h2) λ _ s3 h3.
      meets-then Ever (λ _ t. FilledIf (false || a || b || c || d) tt t) _ _ _ s3 (fills-start 3 (false || a || b || c) d s3 h3) λ _ s4 h4.
      meets-stop_if Ever _ _ _ s4 (λ _. tt) (λ e. h4 (not-false _ e))

  pub fills-start_four : (s : State) → Meets Filled Ever (start_four w.numbers tol s)
  unfolding start_four
  fills-start_four s =
      meets-look Ever _ _ s
      (meets-then Ever Anything _ _ _ s (anything (do_if _ _ s)) λ _ s1 h1.
      meets-look Ever _ _ s1
      (meets-then Ever Anything _ _ _ s1 (anything (four_faces _ _ _ _ s1)) λ _ s2 h2. fills-four _ _ _ _ s2))

  pub fills-start_two : (s : State) → Meets Filled Ever (start_two w s)
  unfolding start_two two_faces
  fills-start_two s =
      meets-look Ever _ _ s
      (meets-then Ever Anything _ _ _ s (anything (do_if _ _ s)) λ _ s1 h1.
      meets-look Ever _ _ s1
      (meets-then Ever Anything _ _ _ s1 (anything (push_face _ _ _ s1)) λ _ s2 h2.
      meets-then Ever Anything _ _ _ s2 (anything (push_face _ _ _ s2)) λ _ s3 h3.
      meets-then Ever Anything _ _ _ s3 (anything (enqueue 0 _ s3)) λ _ s4 h4.
      fills-enqueue 1 _ s4))

  -- THE FIRST PEEK FINDS A FACE: where the start goes on, the heap has an entry
  pub peek-finds : (dim : ℕ) (s : State) → Meets Filled Ever (start_faces w dim tol s)
  unfolding start_faces
  peek-finds dim s = meets-branch Ever _ _ _ _ s (λ _. fills-start_four s) (λ _. fills-start_two s)
