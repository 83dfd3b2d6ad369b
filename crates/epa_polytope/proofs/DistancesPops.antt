-- The entries that a run pops, one after another, each against the one before it (`Chain`). Two things are followed through the loop, by what is known of the heap: with no NaN key, that each key
-- popped was made and is at most the one before it (`chained`); and with no NaN among the popped keys alone, that no key is refused (`loop-not-later`). Of any run. Assumes nothing.
use mathlib.Core.Path.{◌≡◌, refl, ◌∙◌}
use mathlib.Core.Bool.{Bool, true, false, cond}
use mathlib.Core.List.{List, [], ◌∷◌, ◌++◌}
use Rattle.std.specs.Prelude.{Option, Some}
use Prim.Native.Nat.{ℕ, zero, suc, ◌<◌}
use native.Mathlib.Omega.{arith}
use lib.Dec.{eqb}
use lib.ListN.{length}
use lib.Ieee.{Float, le, neg}
use Rattle.number.proofs.Order.{lt-neg-neg, neg-not-nan, lt_irrefl, not-less-trans, le-of-not-less}
use Rattle.heap.specs.declared.Entry.{Entry}
use Rattle.heap.specs.Heap.{Heap, entry_at, pushed, popped}
use Rattle.heap.specs.Ordered.{key_at, Held, NotNan, AtMost, Ordered}
use Rattle.heap.proofs.Rising.{pushed-held, popped-held}
use Rattle.heap.proofs.Ordered.{pushed-ordered, popped-ordered, first-greatest}
use Rattle.epa_polytope.specs.Stores.{State, heap_of, deleted_at}
use Rattle.epa_polytope.specs.Steps.{End, Out, onward, ended, next, ◌>>=◌, ◌>>◌, pure, look, put, branch}
use Rattle.epa_polytope.specs.Start.{World}
use Rattle.epa_polytope.specs.Run.{Best, pop_entry, pop_live, iterate, loop}
use Rattle.epa_polytope.specs.Demand3.{Carried, one_more, rest}
use Rattle.epa_polytope.specs.Distances.{along, each_expansion, popped_from, popped_in, keys_of_expansion, Every, distance_of, NeverFalls}
use Rattle.epa_polytope.proofs.Heaps.{inside-popped}
use Rattle.epa_polytope.proofs.Moves.{with_pop}
use Rattle.epa_polytope.proofs.Steps.{Meets, goes, meets-bind}
use Rattle.epa_polytope.proofs.DistancesWalks.{NotLater, IsKey, every_append, meets-along, meets-answer, meets-one_more}

-- ---- entries in a row

-- R of each key and the one before it, the first against b
abbrev pub Chain : (Float → Float → Type 0) → Float → List Entry → Type 0
Chain R b [] = Unit {0}
Chain R b (e ∷ l) = R b e.key × Chain R e.key l

-- the last key, and b if there is none
abbrev pub last_of : Float → List Entry → Float
last_of b [] = b
last_of b (e ∷ l) = last_of e.key l

module _ (R : Float → Float → Type 0) where
  chain-append : (b : Float) (l m : List Entry) → Chain R b l → Chain R (last_of b l) m → Chain R b (l ++ m)
  chain-append b [] m c d = d
  chain-append b (e ∷ l) m c d = (c.0, chain-append e.key l m c.1 d)

  -- what each step of a chain keeps, the last has
  chain-last : (Q : Float → Type 0) → ((a b : Float) → Q a → R a b → Q b) → (b : Float) (l : List Entry) → Q b → Chain R b l → Q (last_of b l)
  chain-last Q step b [] q c = q
  chain-last Q step b (e ∷ l) q c = chain-last Q step e.key l (step b e.key q c.0) c.1

  chain-along : {A : Type 0} (P : A → State → Type 0) (E : End → State → Type 0) (b : Float) (o : Out A) (f : A → State → List Entry) → Meets P E o → ((a : A) (t : State) → P a t → Chain R b (f a t))
      → Chain R b (along o f)
  chain-along P E b (onward a t) f m h = h a t m.held
  chain-along P E b (ended e t) f m h = tt

-- ---- pops

-- I b: what is known of a heap all of whose keys come after b. A pop leaves it, with the key popped in the place of b
module _ (R : Float → Float → Type 0) (I : Float → Heap → Type 0)
    (pop : (b : Float) (h : Heap) (n : ℕ) → h.count ≡ suc n → I b h → R b (key_at h 0) × I (key_at h 0) (popped h n)) where
  -- what the pops of l leave, where o is what comes of them
  pub record Pops (b : Float) (l : List Entry) (o : Out (Option Entry)) : Type 0 where
    pub chain : Chain R b l
    pub leaves : Meets (λ x t. IsKey x (last_of b l) × I (last_of b l) (heap_of t)) NotLater o

  -- after the entry x, with more to come if it is of a deleted face
  one-popped : (b : Float) (x : Entry) (n : ℕ) (t : State) (live : Bool) → R b x.key → I x.key (heap_of t) → Pops x.key (popped_from n t) (pop_live n t)
      → Pops b (x ∷ cond live [] (popped_from n t)) (branch live (pure (Some x)) (pop_live n) t)
  unfolding branch pure
  one-popped b x n t true r i more = record { chain = (r, tt); leaves = goes (refl, i) }
  one-popped b x n t false r i more = record { chain = (r, more.chain); leaves = more.leaves }

  -- THE POPS UP TO A LIVE FACE, from a heap of n
  pub pops : (b : Float) (n : ℕ) (s : State) → s.tally.heap ≡ n → I b (heap_of s) → Pops b (popped_from n s) (pop_live n s)
  unfolding popped_from pop_live pop_entry ◌>>=◌ ◌>>◌ look put pure
  pops b zero s e h = record { chain = tt; leaves = goes (tt, h) }
  pops b (suc n) s e h =
      let p = pop b (heap_of s) n e h in
      let x = entry_at (heap_of s) 0 in
      let t = with_pop s n in
      one-popped b x n t (eqb (deleted_at t x.face) 0) p.0 p.1 (pops x.key n t (inside-popped (heap_of s) n).counts p.1)

-- ---- with no NaN key

-- a key that is at most the one before it, and has Q
abbrev pub Falls : (Float → Type 0) → Float → Float → Type 0
Falls Q b k = AtMost b k × Q k

-- Q is known of each key that is made, and says at least that it is not NaN
module _ (Q : Float → Type 0) (real : (k : Float) → Q k → NotNan k) where
  -- each key has Q and is at most b, and they are in order
  pub record Queue (b : Float) (h : Heap) : Type 0 where
    pub each : Held Q h
    pub order : Ordered h
    pub most : Held (AtMost b) h

  pub all-real : {h : Heap} → Held Q h → Held NotNan h
  all-real a = record { each = λ i l. real _ (a.each i l) }

  queue-popped : (b : Float) (h : Heap) (n : ℕ) → h.count ≡ suc n → Queue b h → Falls Q b (key_at h 0) × Queue (key_at h 0) (popped h n)
  queue-popped b h n e q = (
    (q.most.each 0 (omega arith), q.each.each 0 (omega arith)),
    record {
      each = popped-held Q h n e q.each;
      order = popped-ordered h n e (all-real q.each) q.order;
      most = popped-held (AtMost (key_at h 0)) h n e (first-greatest h (all-real q.each) q.order);
    },
  )

  queue-pushed : (b : Float) (h : Heap) (e : Entry) → h.count < length h.keys → Q e.key → AtMost b e.key → Queue b h → Queue b (pushed h e)
  queue-pushed b h e room r m q = record {
    each = pushed-held Q h e room r q.each;
    order = pushed-ordered h e room (real _ r) (all-real q.each) q.order;
    most = pushed-held (AtMost b) h e room m q.most;
  }

  -- a key that comes after one that is at most the tolerance is at most the tolerance
  abbrev Low : Float → Float → Type 0
  Low tol k = NotNan k × AtMost tol k

  low-falls : (tol a b : Float) → Low tol a → Falls Q a b → Low tol b
  low-falls tol a b l f = (real b f.1, not-less-trans tol a b l.0 l.1 f.0)

  -- THE KEYS POPPED, from a heap whose keys are at most b, each against the one before it
  pub chained : (w : World) (tol : Float) (n : ℕ) (g : Carried) (s : State) (b : Float) → g.tol ≡ tol → Low tol b → Queue b (heap_of s)
      → Every Q (each_expansion w (keys_of_expansion w) n g s) → Chain (Falls Q) b (each_expansion w popped_in n g s)
  unfolding each_expansion
  chained w tol zero g s b c l q made = tt
  chained w tol (suc n) g s b c l q made =
      let these = popped_in g s in
      let k = last_of b these in
      let p = pops (Falls Q) Queue queue-popped b s.tally.heap s refl q in
      let low : Low tol k = chain-last (Falls Q) (Low tol) (low-falls tol) b these l p.chain in
      let both = every_append Q (keys_of_expansion w g s) _ made in
      let m = meets-one_more w tol k low.0 low.1 Q (Queue k) (λ h e room r most _ i. queue-pushed k h e room r most i) g c s p.leaves both.0 in
      chain-append (Falls Q) b these _ p.chain
      (chain-along (Falls Q) _ NotLater k (one_more w g s) _ (meets-along Q (one_more w g s) (each_expansion w (keys_of_expansion w) n) both.1 m) λ g' t y.
      chained w tol n g' t k y.0.0 low y.0.1 y.1)

-- ---- what a chain comes to

-- each key in it has Q
pub chain-every : (Q : Float → Type 0) (b : Float) (l : List Entry) → Chain (Falls Q) b l → Every (λ e. Q e.key) l
chain-every Q b [] c = tt
chain-every Q b (e ∷ l) c = (c.0.1, chain-every Q e.key l c.1)

-- the keys after b are at most b, so the distances are at least b's
at_least : (b k : Float) → NotNan b → Falls NotNan b k → le (neg b) (neg k) ≡ true
at_least b k r f = le-of-not-less (neg b) (neg k) (neg-not-nan b ∙ r) (neg-not-nan k ∙ f.1) (lt-neg-neg k b ∙ f.0)

all_after : (a b : Float) (l : List Entry) → NotNan a → NotNan b → AtMost a b → Chain (Falls NotNan) b l → Every (λ later. le (neg a) (distance_of later) ≡ true) l
all_after a b [] r q m c = tt
all_after a b (e ∷ l) r q m c =
    let k : AtMost a e.key = not-less-trans a b e.key q m c.0.0 in
    (at_least a e.key r (k, c.0.1), all_after a e.key l r c.0.1 k c.1)

pub chain-rises : (b : Float) (l : List Entry) → Chain (Falls NotNan) b l → NeverFalls l
chain-rises b [] c = tt
chain-rises b (e ∷ l) c = (all_after e.key e.key l c.0.1 c.0.1 (lt_irrefl e.key) c.1, chain-rises e.key l c.1)

-- ---- with no NaN among the popped keys alone

module _ (w : World) (tol : Float) (real : NotNan tol) where
  -- each key is at most the tolerance, and so is each that is popped
  abbrev Under : Float → Heap → Type 0
  Under b h = Held (AtMost tol) h

  abbrev Taken : Float → Float → Type 0
  Taken b k = AtMost tol k

  under-popped : (b : Float) (h : Heap) (n : ℕ) → h.count ≡ suc n → Under b h → Taken b (key_at h 0) × Under (key_at h 0) (popped h n)
  under-popped b h n e u = (u.each 0 (omega arith), popped-held (AtMost tol) h n e u)

  last-real : (b : Float) (l : List Entry) → NotNan b → Every (λ e. NotNan e.key) l → NotNan (last_of b l)
  last-real b [] r h = r
  last-real b (e ∷ l) r h = last-real e.key l h.0 h.1

  -- nothing need be known of the keys made
  abbrev Any : Float → Type 0
  Any k = Unit {0}

  any : (l : List Float) → Every Any l
  any [] = tt
  any (k ∷ l) = (tt, any l)

  -- the loop is one expansion, and the rest
  one-and-rest : (n : ℕ) (g : Carried) (s : State) → rest w (suc n) g s ≡ ◌>>=◌ (one_more w g) (rest w n) s
  unfolding loop rest one_more ◌>>=◌ pure
  one-and-rest n g s = by (iterate w g.tol g.best s)
    where
      by : (o : Out Best) → next o (loop w g.tol n) ≡ next (next o (λ b. pure (record { tol = g.tol; best = b }))) (rest w n)
      by (ended e t) = refl
      by (onward b t) = refl

  -- NO KEY IS REFUSED from here on
  pub loop-not-later : (n : ℕ) (g : Carried) (s : State) → g.tol ≡ tol → Held (AtMost tol) (heap_of s) → Every (λ e. NotNan e.key) (each_expansion w popped_in n g s)
      → Meets (λ _ _. Unit {0}) NotLater (rest w n g s)
  unfolding each_expansion rest loop
  loop-not-later zero g s c u h = meets-answer _ w.numbers _ g.best.face s
  loop-not-later (suc n) g s c u h =
      let these = popped_in g s in
      let k = last_of tol these in
      let p = pops Taken Under under-popped tol s.tally.heap s refl u in
      let both = every_append (λ (e : Entry). NotNan e.key) these _ h in
      let low : AtMost tol k = chain-last Taken (AtMost tol) (λ a b q r. r) tol these (lt_irrefl tol) p.chain in
      let m = meets-one_more w tol k (last-real tol these real both.0) low Any (Under k) (λ x e room _ _ t i. pushed-held (AtMost tol) x e room t i) g c s p.leaves (any (keys_of_expansion w g s)) in
      rw (one-and-rest n g s)
      (meets-bind NotLater _ _ _ _ s (meets-along (λ (e : Entry). NotNan e.key) (one_more w g s) (each_expansion w popped_in n) both.1 m) λ g' t y.
      loop-not-later n g' t y.0.0 y.0.1 y.1)
