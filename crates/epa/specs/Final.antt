-- What a whole run answers and leaves in the lists that it is lent: `EPA::closest_points` of src/query/epa/epa3.rs over two shapes of the closed choice. Any format. Definitions only.
use Rattle.std.specs.Prelude.{◌≡◌, List, [], ℕ, Float}
use Rattle.std.specs.Float.{Format}
use Rattle.vector.specs.Vector.{zero_v}
use Rattle.vector.specs.declared.vec3.Vec3.{Vec3}
use Rattle.vector.specs.declared.pose.Pose.{Pose}
use Rattle.shape.specs.declared.support.Shape.{Shape}
use Rattle.shape.specs.Support.{from_shapes}
use Rattle.simplex.specs.declared.voronoi_simplex.VoronoiSimplex.{VoronoiSimplex}
use Rattle.epa_polytope.specs.Stores.{Lists, State, live_to}
use Rattle.epa_polytope.specs.Steps.{Out, onward, ended, Over, refusal}
use Rattle.epa_polytope.specs.Run.{closest_points}
use Rattle.epa_polytope.specs.declared.types.Walk.{Walk}
use Rattle.epa_polytope.specs.Promises.{Lent, Moment, called, returned, when}
use Rattle.epa_polytope.specs.declared.types.End.{End}
use Rattle.epa_polytope.specs.declared.types.End.TheVariants.{Answers as answers, Nothing as nothing, Panics as panics, NoRoom as no_room}
use Rattle.epa_polytope.specs.declared.types.Finish.{Finish}
use Rattle.epa_polytope.specs.declared.types.Store.{Store}
use Rattle.epa_polytope.specs.declared.types.Tally.{Tally}
use Rattle.epa_stores.specs.Lent.{LentAll, held}
use Rattle.counts.specs.declared.Counts.{Counts}
use Rattle.epa.specs.declared.types.Answer.{Answer}

-- ---- an answer, and the content of every list

pub record Final (A : Type 0) : Type 0 where
  pub answer : A
  pub lists : Lists

abbrev pub final : {A : Type 0} → A → Lists → Final A
final x l = record { answer = x; lists = l }

-- the same lists, with what is made of the answer
abbrev pub answered : {A B : Type 0} → (A → B) → Final A → Final B
answered f x = final (f x.answer) x.lists

-- ---- a run's answer

-- the counts: expansions completed, faces made, faces live at the end, the most edges recorded in one pass, and the lookups that missed
abbrev pub counts_at : List ℕ → Tally → Counts
counts_at deleted c = record { expansions = c.done; made = c.faces; live = live_to c.faces deleted; edges = c.most; missed = c.missed }

abbrev pub answer_at : List ℕ → Finish → Answer
answer_at deleted x = record { end = x.end; counts = counts_at deleted x.tally }

abbrev pub final_at : End → State → Final Answer
final_at e s = final (record { end = e; counts = counts_at s.lists.deleted s.tally }) s.lists

-- document 01's number of an answer, and its values: two points and the normal, zeros where there are none, and the counts
abbrev pub answer_number : Answer → ℕ
answer_number x = refusal x.end

pub record Values : Type 0 where
  pub point1 : Vec3
  pub point2 : Vec3
  pub normal : Vec3
  pub counts : Counts

abbrev pub values : Vec3 → Vec3 → Vec3 → Counts → Values
values p1 p2 n c = record { point1 = p1; point2 = p2; normal = n; counts = c }

unfoldable pub end_values : End → Counts → Values
end_values (answers why p1 p2 n) c = values p1 p2 n c
end_values (nothing why) c = values zero_v zero_v zero_v c
end_values (panics site) c = values zero_v zero_v zero_v c
end_values (no_room store) c = values zero_v zero_v zero_v c

abbrev pub answer_values : Answer → Values
answer_values x = end_values x.end x.counts

-- a run only ends
abbrev pub final_of : Out Over → Final Answer
final_of (ended e s) = final_at e s
final_of (onward x s) = absurd x

-- THE RUN of two shapes by either walk, the second in a pose, from a simplex, over lent lists
abbrev pub penetration : Walk → Format → Pose → Shape → Shape → VoronoiSimplex → Lists → Final Answer
penetration y f m g1 g2 x l = final_of (closest_points y f (from_shapes f m g1 g2) x l)

-- an answer that is not refused for room
abbrev pub HadRoom : Answer → Type 0
HadRoom x = (y : Store) → x.end ≡ no_room y → ⊥

-- ---- the contract of a whole call

-- eight lists
abbrev pub lists_of : List Float → List ℕ → List Float → List ℕ → List ℕ → List ℕ → List Float → List ℕ → Lists
lists_of v i x d e hi hk p = record { vertices = v; face_ids = i; face_floats = x; deleted = d; edges = e; heap_ids = hi; heap_keys = hk; pending = p }

-- as they are lent, at a moment; and where no place is lent for a question
abbrev pub all_lent : Moment → Lent Float → Lent ℕ → Lent Float → Lent ℕ → Lent ℕ → Lent ℕ → Lent Float → Lent ℕ → Lists
all_lent m v i x d e hi hk p = lists_of (when m v) (when m i) (when m x) (when m d) (when m e) (when m hi) (when m hk) (when m p)

abbrev pub four_lent : Moment → Lent Float → Lent ℕ → Lent Float → Lent ℕ → Lent ℕ → Lent ℕ → Lent Float → Lists
four_lent m v i x d e hi hk = lists_of (when m v) (when m i) (when m x) (when m d) (when m e) (when m hi) (when m hk) []

-- what is answered and left is what d makes of the lists
abbrev pub Ends : {A : Type 0} → (Lists → Final A) → A → (Moment → Lists) → Type 0
Ends d r slices = final r (slices returned) ≡ d (slices called)

-- the same of a function that is lent all stores in one value
abbrev pub EndsAll : {A : Type 0} → (Lists → Final A) → A → LentAll → Type 0
EndsAll d r s = final r (held s.exit.now) ≡ d (held s.entry.now)
