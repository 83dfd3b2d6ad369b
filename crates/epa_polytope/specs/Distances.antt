-- Ticket 9: the faces that a run pops, skipped ones too, and the keys that it makes, as lists that are read off what the run's own steps leave. Definitions only; proofs/Distances.antt shows that
-- with no NaN among the keys the popped distances never get smaller. A key is the negated distance of a face (`FaceId` of epa3.rs).
use Rattle.std.specs.Prelude.{◌≡◌, true, cond, List, [], ◌∷◌, ◌++◌, ℕ, zero, suc, ◌+◌, eqb, get_or, Float}
use Rattle.std.specs.Float.{nan}
use Rattle.std.specs.Float.Ieee.{le, neg}
use Rattle.vector.specs.Vector.{dot_v}
use Rattle.heap.specs.declared.Entry.{Entry}
use Rattle.epa_polytope.specs.Stores.{Lists, State, state_of, none_yet, normal_at, point_at, corner_at, deleted_at}
use Rattle.epa_polytope.specs.Steps.{Numbers, Out, onward, ended}
use Rattle.epa_polytope.specs.Start.{World, VoronoiSimplex}
use Rattle.epa_polytope.specs.Expansion.{Expansion, grow}
use Rattle.epa_polytope.specs.Run.{pop_entry}
use Rattle.epa_polytope.specs.Demand3.{Carried, run_to, one_more, up_to_pass, the_pass, Joined, up_to_queue}

-- ---- lists off a run

-- what a step gives a list of, if it goes on; nothing, if the run ends there
abbrev pub along : {A B : Type 0} → Out A → (A → State → List B) → List B
along (onward a s) f = f a s
along (ended e s) f = []

-- f before each expansion, of n more at most
unfoldable pub each_expansion : {B : Type 0} → World → (Carried → State → List B) → ℕ → Carried → State → List B
each_expansion w f zero g s = []
each_expansion w f (suc n) g s = f g s ++ along (one_more w g s) (each_expansion w f n)

-- ---- the entries popped

-- from a heap of n, until one is of a live face: the entries of deleted faces, which are skipped, and that one, if there is one (`pop_live`)
unfoldable pub popped_from : ℕ → State → List Entry
popped_from zero s = []
popped_from (suc n) s = along (pop_entry n s) (λ e t. e ∷ cond (eqb (deleted_at t e.face) 0) [] (popped_from n t))

abbrev pub popped_in : Carried → State → List Entry
popped_in g s = popped_from s.tally.heap s

-- all that a run over the lent lists l pops, in order
unfoldable pub popped_by : World → VoronoiSimplex → Lists → List Entry
popped_by w x l = along (run_to w x 0 (state_of l none_yet)) (each_expansion w popped_in 101)

-- ---- the keys made

-- the first n keys of a list, the last first
unfoldable pub keys_to : ℕ → List Float → List Float
keys_to zero ks = []
keys_to (suc n) ks = get_or ks n nan ∷ keys_to n ks

-- of a new face, if it is to be queued
unfoldable pub key_of : Numbers → Joined → State → List Float
key_of w j s = cond j.queues (neg (dot_v w.format (normal_at s j.face) (point_at s (corner_at s j.face 0))) ∷ []) []

-- of the new faces of n edges, from the i-th on
unfoldable pub keys_of_edges : Numbers → Expansion → ℕ → ℕ → State → List Float
keys_of_edges w u zero i s = []
keys_of_edges w u (suc n) i s = along (up_to_queue w u i s) (key_of w) ++ along (grow w u i s) (λ _ t. keys_of_edges w u n (i + 1) t)

-- of an expansion: of each edge that its silhouette pass recorded
unfoldable pub keys_of_expansion : World → Carried → State → List Float
keys_of_expansion w g s = along (up_to_pass w g s) (λ p t. along (the_pass w p t) (λ _ v. keys_of_edges w.numbers p.expansion v.tally.edges 0 v))

-- all that a run makes: those that the heap holds after the start, which pops none, and those of each expansion
unfoldable pub keys_made : World → VoronoiSimplex → Lists → List Float
keys_made w x l = along (run_to w x 0 (state_of l none_yet)) (λ g s. keys_to s.tally.heap s.lists.heap_keys ++ each_expansion w (keys_of_expansion w) 101 g s)

-- ---- what is said of them

-- Q of every member of a list
abbrev pub Every : {A : Type 0} → (A → Type 0) → List A → Type 0
Every Q [] = Unit {0}
Every Q (x ∷ l) = Q x × Every Q l

-- the distance of a popped face: its key negated, the Rust's `curr_dist`
abbrev pub distance_of : Entry → Float
distance_of e = neg e.key

-- THE DISTANCES NEVER GET SMALLER: each is at most every later one (`le` is Rust's `<=`, false of a NaN: of two or more none is NaN)
abbrev pub NeverFalls : List Entry → Type 0
NeverFalls [] = Unit {0}
NeverFalls (e ∷ l) = Every (λ later. le (distance_of e) (distance_of later) ≡ true) l × NeverFalls l
