-- A run over lists that are lent with the silhouette's store as a list of records (document 01, "The silhouette store is a list of records, each a face number and a corner"). Definitions only.
-- The store is seen as the list of its records' numbers. The run goes on the numbers of its first 206 records: a pass records at most 206 edges (document 01's demand 3).
use Rattle.std.specs.Prelude.{List, ◌++◌, ℕ, take, drop, Float}
use Rattle.edges.specs.declared.Edge.{Edge}
use Rattle.edges.specs.Edges.{pairs_of}
use Rattle.epa_polytope.specs.Stores.{Lists, with_edges}
use Rattle.epa_polytope.specs.Promises.{Lent, Moment, when}
use Rattle.epa.specs.Final.{Final, final, lists_of}

-- ---- the lists

-- as they are lent at a moment: seven, and the records' numbers
abbrev pub records_lent : Moment → Lent Float → Lent ℕ → Lent Float → Lent ℕ → Lent Edge → Lent ℕ → Lent Float → Lent ℕ → Lists
records_lent m v i x d es hi hk p = lists_of (when m v) (when m i) (when m x) (when m d) (pairs_of (when m es)) (when m hi) (when m hk) (when m p)

-- ---- the run

-- the lists with the numbers of the first 206 records for the edges
abbrev pub first_edges : Lists → Lists
first_edges l = with_edges (take 412 l.edges) l

-- what a run leaves there, and the places beyond as they were
abbrev pub beyond : {A : Type 0} → List ℕ → Final A → Final A
beyond es x = final x.answer (with_edges (x.lists.edges ++ drop 412 es) x.lists)

-- WHAT IS RUN ON EIGHT LISTS, run on the first 206 records of a store
abbrev pub on_first : {A : Type 0} → (Lists → Final A) → Lists → Final A
on_first run l = beyond l.edges (run (first_edges l))
