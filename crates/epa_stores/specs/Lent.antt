-- The contracts of functions that are lent all stores in one value: `Promises` of `epa_polytope` has those of functions that are lent some lists. Definitions only.
use Rattle.std.specs.Prelude.{◌≡◌, Float}
use Rattle.std.specs.Borrow.{MutBor}
use denote.Triple.Both.{Both}
use Rattle.shape.specs.declared.pair.Pair.{Pair}
use Rattle.epa_polytope.specs.declared.types.Tally.{Tally}
use Rattle.epa_polytope.specs.declared.types.Walk.{Walk}
use Rattle.epa_polytope.specs.Start.{World}
use Rattle.epa_polytope.specs.Steps.{Out, Act, Nil}
use Rattle.epa_polytope.specs.Stores.{Lists}
use Rattle.epa_polytope.specs.Promises.{Step, Does, step_out, single_world, single_by}
use Rattle.epa_stores.specs.declared.stores.Stores.{Stores}

-- ---- the stores

-- what the eight lists hold
abbrev pub held : Stores → Lists
held s =
    record {
      vertices = s.vertices.now;
      face_ids = s.ids.now;
      face_floats = s.floats.now;
      deleted = s.deleted.now;
      edges = s.edges.now;
      heap_ids = s.heap_ids.now;
      heap_keys = s.heap_keys.now;
      pending = s.pending.now;
    }

-- they are the same eight lists, whatever they hold
pub record SameLists (s t : Stores) : Type 0 where
  pub vertices : s.vertices.ghost_name ≡ t.vertices.ghost_name
  pub ids : s.ids.ghost_name ≡ t.ids.ghost_name
  pub floats : s.floats.ghost_name ≡ t.floats.ghost_name
  pub deleted : s.deleted.ghost_name ≡ t.deleted.ghost_name
  pub edges : s.edges.ghost_name ≡ t.edges.ghost_name
  pub heap_ids : s.heap_ids.ghost_name ≡ t.heap_ids.ghost_name
  pub heap_keys : s.heap_keys.ghost_name ≡ t.heap_keys.ghost_name
  pub pending : s.pending.ghost_name ≡ t.pending.ghost_name

-- ---- the contract

-- the stores as a contract names them: when the function is called, and when it returns
abbrev pub LentAll : Type 0
LentAll = Both (MutBor Stores) (MutBor Stores)

-- a function that is lent all stores does the step a: `Gives` and `Leaves` of all lists
abbrev pub GivesAll : {A R : Type 0} → (Lists → R → Out A) → Act A → Tally → R → LentAll → Type 0
GivesAll out a c r s = Does out a (held s.entry.now) c (held s.exit.now) r

abbrev pub LeavesAll : Act Nil → Tally → Step → LentAll → Type 0
LeavesAll = GivesAll step_out

-- and leaves the same lists in the value, so that its caller's are written
abbrev pub Kept : LentAll → Type 0
Kept s = SameLists s.exit.now s.entry.now

-- ---- the two shapes

-- two shapes over the numbers of the code: by the recursive walk, and by a given one
abbrev pub pair_world : Pair → World
pair_world p = single_world p.pos12 p.g1 p.g2

abbrev pub pair_by : Walk → Pair → World
pair_by y p = single_by y p.pos12 p.g1 p.g2
