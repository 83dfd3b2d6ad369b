-- DEMAND 3, sentence by sentence, of any run: any format, any support function and face maker, any simplex, any lent stores. `Within f k` has the sizes of k expansions from f starting
-- faces: at most f + 2k live, at most f + kf + k(k+1) made. `faces_at_start x` is 4 for a simplex of dimension 3, else 2. The proofs stand in Bounded.antt, Start.antt and Lengths.antt. Assumes nothing.
use mathlib.Core.Path.{◌≡◌}
use Rattle.std.specs.Prelude.{Some}
use Prim.Native.Nat.{ℕ, ◌+◌, ◌*◌, ◌<◌, ◌≤◌}
use native.Mathlib.Omega.{arith}
use lib.ListN.{length}
use Rattle.epa_polytope.specs.Stores.{Lists, State, Store, the_vertices, the_faces, the_edges, the_heap, the_pending, room_for}
use Rattle.epa_polytope.specs.Steps.{End, no_room, onward, ended}
use Rattle.epa_polytope.specs.Start.{recursive, World, VoronoiSimplex}
use Rattle.epa_polytope.specs.Run.{run}
use Rattle.epa_polytope.specs.Bounds.{faces_at_start, Within, suffices, Ample, AmpleFour}
use Rattle.epa_polytope.specs.Demand3.{Completes, state_after, WithinAtEnd, Pass, FewEdges, Growth, Joined, up_to_queue}
use Rattle.epa_polytope.proofs.Start as Start
use Rattle.epa_polytope.proofs.Lengths as Lengths
use Rattle.epa_polytope.proofs.Bounded as Bounded
use Rattle.epa_polytope.proofs.Panics as Panics

module _ (w : World) (x : VoronoiSimplex) (l : Lists) where
  -- A RUN THAT COMES TO ITS FIRST EXPANSION has made its f starting faces
  pub started_with : (t : State) → state_after w x l 0 ≡ Some t → t.tally.faces ≡ faces_at_start x
  started_with = Bounded.started_with w x l

  -- AFTER k EXPANSIONS at most f + 2k faces are live, and at most f + kf + k(k+1) were ever made
  pub after-expansions : (k : ℕ) → k ≤ 101 → (t : State) → state_after w x l k ≡ Some t → (t.tally.done ≡ k) × Within (faces_at_start x) k t
  after-expansions = Bounded.after-expansions w x l

  -- COUNTING ONE UNDER WAY: after k expansions, before and after the pass of the next, the sizes are those of k + 1,
  pub under-way : (k : ℕ) → k ≤ 100 → (before after : State) → Pass w x l k before after → Within (faces_at_start x) (k + 1) before × Within (faces_at_start x) (k + 1) after
  under-way = Bounded.under-way w x l

  -- and so they are with the new faces of i edges,
  pub between-edges : (k : ℕ) → k ≤ 100 → (after : State) (i : ℕ) (t : State) → Growth w x l k after i t → Within (faces_at_start x) (k + 1) t
  between-edges = Bounded.between-edges w x l

  -- and between the push of an edge's face and that of its heap entry
  pub before-queued : (k : ℕ) → k ≤ 100 → (after : State) (i : ℕ) (t : State) (g : Growth w x l k after i t) → i < after.tally.edges → (j : Joined) (v : State)
      → up_to_queue w.numbers g.pass.passing.expansion i t ≡ onward j v → Within (faces_at_start x) (k + 1) v
  before-queued = Bounded.before-queued w x l

  -- WHERE A RUN ENDS, with k expansions, counting one under way, the sizes are those of k, and k is at most 101
  pub at-the-end : (e : End) (t : State) → run w x l ≡ ended e t → WithinAtEnd w x l e t
  at-the-end = Bounded.at-the-end w x l

  -- AT MOST 101 EXPANSIONS COMPLETE,
  pub at-most-101 : (e : End) (t : State) → run w x l ≡ ended e t → t.tally.done ≤ 101
  at-most-101 = Start.few-complete w x l

  -- and the expansions that a run counts are those that it completes, no more and no fewer
  pub counts_all : (k : ℕ) → k ≤ 101 → (u : State) → state_after w x l k ≡ Some u → (e : End) (t : State) → run w x l ≡ ended e t → k ≤ t.tally.done
  counts_all = Bounded.counts_all w x l

  pub completes-counted : (e : End) (t : State) → run w x l ≡ ended e t → Completes w x l 0 → Completes w x l t.tally.done
  completes-counted = Bounded.completes-counted w x l

  -- A SILHOUETTE PASS RECORDS AT MOST THREE EDGES MORE THAN THE FACES IT DELETES
  pub pass-records : (k : ℕ) → k ≤ 100 → (before after : State) → Pass w x l k before after → FewEdges before after
  pass-records = Bounded.pass-records w x l

  -- SO 105 VERTICES, 10,710 FACES, 206 EDGES OR 10,710 HEAP ENTRIES ALWAYS SUFFICE: no run is refused for a place in a store that has so many
  pub always-suffices : (y : Store) → suffices y ≤ room_for y l → (t : State) → run w x l ≡ ended (no_room y) t → ⊥
  always-suffices = Lengths.always-suffices w x l

  pub never-refused : Ample l → (y : Store) (t : State) → run w x l ≡ ended (no_room y) t → ⊥
  never-refused enough y = always-suffices y (enough y)

  -- by the recursive walk, with no place for a question
  pub four-suffice : w.walk_by ≡ recursive → AmpleFour l → (y : Store) (t : State) → run w x l ≡ ended (no_room y) t → ⊥
  four-suffice e enough the_vertices t q = always-suffices the_vertices (enough the_vertices (λ z. let n : ◌≡◌ {A = ℕ} 0 1 = cc in absurd (omega arith))) t q
  four-suffice e enough the_faces t q = always-suffices the_faces (enough the_faces (λ z. let n : ◌≡◌ {A = ℕ} 0 1 = cc in absurd (omega arith))) t q
  four-suffice e enough the_edges t q = always-suffices the_edges (enough the_edges (λ z. let n : ◌≡◌ {A = ℕ} 0 1 = cc in absurd (omega arith))) t q
  four-suffice e enough the_heap t q = always-suffices the_heap (enough the_heap (λ z. let n : ◌≡◌ {A = ℕ} 0 1 = cc in absurd (omega arith))) t q
  four-suffice e enough the_pending t q = let p = Panics.refused-by-plain w x l t q in let z : ◌≡◌ {A = ℕ} 0 1 = cc in absurd (omega arith)

-- the room, by the lengths of the lists
pub lent-ample : (l : Lists) → 105 * 9 ≤ length l.vertices → 10710 * 6 ≤ length l.face_ids → 10710 * 6 ≤ length l.face_floats → 10710 ≤ length l.deleted
    → 206 * 2 ≤ length l.edges → 10710 ≤ length l.heap_ids → 10710 ≤ length l.heap_keys → 206 * 2 ≤ length l.pending → Ample l
lent-ample l v i n d e hf hk p the_vertices = omega arith
lent-ample l v i n d e hf hk p the_faces = omega arith
lent-ample l v i n d e hf hk p the_edges = omega arith
lent-ample l v i n d e hf hk p the_heap = omega arith
lent-ample l v i n d e hf hk p the_pending = omega arith
