-- The one form of the contracts: what a function leaves and answers is what a step of the run does. Definitions only.
-- A function that is lent some of the lists does so whatever the others hold: its contract is for all k : Lists, of k with the lent lists in their places.
use Rattle.std.specs.Prelude.{Bool, true, false, ◌≡◌, List, ℕ, Float, Result, Ok, Err}
use Rattle.std.specs.Borrow.{MutBor}
use denote.Triple.Both.{Both}
use Rattle.vector.specs.declared.pose.Pose.{Pose}
use Rattle.shape.specs.declared.support.Shape.{Shape}
use Rattle.heap.specs.declared.Entry.{Entry}
use Rattle.heap.specs.Heap.{entry}
use Rattle.std.specs.Float.{binary32}
use Rattle.epa_polytope.specs.declared.types.Begun.{Begun}
use Rattle.epa_polytope.specs.declared.types.Visited.{Visited}
use Rattle.epa_polytope.specs.declared.types.Finish.{Finish}
use Rattle.epa_polytope.specs.declared.types.FaceId.{FaceId}
use Rattle.epa_polytope.specs.Stores.{Lists, Tally, state_of, with_pending, lend}
use Rattle.epa_polytope.specs.Steps.{Numbers, numbers_of, End, Out, onward, ended, Act, Nil, Over}
use Rattle.epa_polytope.specs.Start.{Walk, recursive, plain, World, world_of, walked_as}
use Rattle.epa_polytope.specs.Run.{Best}

-- the numbers of the code
abbrev pub single : Numbers
single = numbers_of binary32

-- and two shapes over them: by the recursive walk, and by a given one
abbrev pub single_world : Pose → Shape → Shape → World
single_world = world_of binary32

abbrev pub single_by : Walk → Pose → Shape → Shape → World
single_by y m g1 g2 = walked_as y (single_world m g1 g2)

-- the walk that the code asks for by a bool: whether it is the plain one
abbrev pub walk_of : Bool → Walk
walk_of true = plain
walk_of false = recursive

-- ---- what a function does

-- the step a takes the lists l and the tally c to the lists l' and the answer r, of which `out` says what step of the run it tells
pub record Does {A R : Type 0} (out : Lists → R → Out A) (a : Act A) (l : Lists) (c : Tally) (l' : Lists) (r : R) : Type 0 where
  pub same : out l' r ≡ a (state_of l c)

-- how the run ended, and how far it came: the code's refusal to go on
abbrev pub finish : End → Tally → Finish
finish e c = record { end = e; tally = c }

-- of an answer that is no more than the tally, or the run's end
abbrev pub Step : Type 0
Step = Result Tally Finish

abbrev pub step_out : Lists → Step → Out Nil
step_out l (Ok c) = onward tt (state_of l c)
step_out l (Err x) = ended x.end (state_of l x.tally)

-- of the start's, which goes on with the tolerance of the keys
abbrev pub begin_out : Lists → Result Begun Finish → Out Float
begin_out l (Ok b) = onward b.tol (state_of l b.tally)
begin_out l (Err x) = ended x.end (state_of l x.tally)

-- of an expansion's, which goes on with what is carried to the next
abbrev pub visit_out : Lists → Result Visited Finish → Out Best
visit_out l (Ok v) = onward v.best (state_of l v.tally)
visit_out l (Err x) = ended x.end (state_of l x.tally)

-- of a whole run's, which only ends
abbrev pub finish_out : Lists → Finish → Out Over
finish_out l x = ended x.end (state_of l x.tally)

-- a face with its key, as the heap has it
abbrev pub entry_of : FaceId → Entry
entry_of e = entry e.id e.neg_dist

-- ---- the slices

-- a slice that a function is lent, as its contract names it: when it is called, and when it returns
abbrev pub Lent : Type 0 → Type 0
Lent X = Both (MutBor (List X)) (MutBor (List X))

pub data Moment : Type 0 where
  called : Moment
  returned : Moment

abbrev pub when : {X : Type 0} → Moment → Lent X → List X
when called s = s.entry.now
when returned s = s.exit.now

-- all but the pending questions lent, and all
abbrev pub lent : Moment → Lent Float → Lent ℕ → Lent Float → Lent ℕ → Lent ℕ → Lent ℕ → Lent Float → Lists → Lists
lent m v i x d e hi hk k = lend (when m v) (when m i) (when m x) (when m d) (when m e) (when m hi) (when m hk) k

abbrev pub lent_all : Moment → Lent Float → Lent ℕ → Lent Float → Lent ℕ → Lent ℕ → Lent ℕ → Lent Float → Lent ℕ → Lists → Lists
lent_all m v i x d e hi hk p k = lent m v i x d e hi hk (with_pending (when m p) k)

-- ---- the contract

-- a function that is lent some of the lists does the step a, whatever the others hold: `slices` puts the lent ones, as they are at a moment, in the places of k's
abbrev pub Gives : {A R : Type 0} → (Lists → R → Out A) → Act A → Tally → R → (Moment → Lists → Lists) → Type 0
Gives out a c r slices = (k : Lists) → Does out a (slices called k) c (slices returned k) r

abbrev pub Leaves : Act Nil → Tally → Step → (Moment → Lists → Lists) → Type 0
Leaves = Gives step_out

-- a function that only reads answers what d says of the lists, whatever those hold that it is not lent
abbrev pub Reads : {R : Type 0} → (Lists → R) → R → (Lists → Lists) → Type 0
Reads d r slices = (k : Lists) → r ≡ d (slices k)
