-- The steps of an expansion, told of the lists and the answer that the code leaves: for any numbers. Assumes nothing.
use mathlib.Core.Path.{◌≡◌, refl, ap, ◌∙◌}
use mathlib.Core.Bool.{Bool, true, false}
use mathlib.Core.List.{List}
use Prim.Native.Nat.{ℕ, ◌-◌, ◌/◌}
use lib.ListN.{length, set}
use borrow.Author.Tests.{eq-eqb, ne_eqb}
use Rattle.epa_polytope.specs.declared.types.Finish.{Finish}
use Rattle.epa_polytope.specs.declared.types.Tally.{Tally}
use Rattle.epa_polytope.specs.declared.types.Expansion.{Expansion}
use Rattle.epa_polytope.specs.declared.types.PlainSoFar.{PlainSoFar}
use Rattle.epa_polytope.specs.Silhouette.{WalkAnswer}
use Rattle.epa_polytope.specs.declared.types.Lost.TheVariants.{AllDeleted, NoSilhouette}
use Rattle.epa_polytope.specs.declared.types.End.TheVariants.{Nothing}
use Rattle.epa_polytope.specs.Promises.{Step, finish}
use Rattle.std.specs.Prelude.{Ok, Err}
use Rattle.epa_polytope.specs.Stores.{Lists, state_of, with_face_ids, with_deleted, with_edges, with_pending, edge_count, linked_in}
use Rattle.epa_polytope.specs.Silhouette.{walked, Facing, facing_from, recorded_of}
use Rattle.epa_polytope.specs.PlainWalk.{Walking, walking, walking_by}
use Rattle.epa_polytope.specs.Start.{Walk}
use Rattle.epa_polytope.specs.Code.{finished_if, finished_of}
use Rattle.epa_polytope.specs.Steps.{Numbers, stop_if, put, look, ◌>>=◌, ◌>>◌}
use Rattle.epa_polytope.specs.Expansion.{blank, clear_edges, close_ring, link, grow_all, regrow, delete, mesh_of, pass_by, passed_tally, passed_if, passed, silhouette, expand}
use Rattle.epa_polytope.specs.Promises.{Does, step_out}
use Rattle.epa_polytope.proofs.Doing.{looked, stopped, not_stopped, goes_on, ends-here}

-- ---- the ring

pub edges-cleared : (l : Lists) (run : Tally) {edges : List ℕ} → edges ≡ blank run.edges l.edges → Does step_out clear_edges l run (with_edges edges l) (Ok (edge_count 0 run))
unfolding clear_edges ◌>>=◌ look put
edges-cleared l run e = record { same = rw e }

module _ (first : ℕ) (l : Lists) (run : Tally) where
  pub none_made : run.faces ≡ first → Does step_out (close_ring first) l run l (Err (finish (Nothing AllDeleted) run))
  unfolding close_ring
  none_made e = looked _ (stopped _ _ refl (eq-eqb run.faces first e))

  pub ring-closed : {last : ℕ} {ids1 ids2 : List ℕ} {l' : Lists} {r : Step} → (run.faces ≡ first → ⊥) → last ≡ run.faces - 1
      → ids1 ≡ linked_in l.face_ids first 2 last → ids2 ≡ linked_in ids1 last 1 first → Does step_out clear_edges (with_face_ids ids2 l) run l' r → Does step_out (close_ring first) l run l' r
  unfolding close_ring link ◌>>=◌ ◌>>◌ look put stop_if
  ring-closed {last} {ids1} {ids2} some e1 e2 e3 c =
      let links : ids2 ≡ linked_in (linked_in l.face_ids first 2 (run.faces - 1)) (run.faces - 1) 1 first = e3 ∙ rw (e2, e1) in
      record { same = rw (ne_eqb run.faces first some, ← links) c.same }

-- ---- the new faces

module _ (w : Numbers) (u : Expansion) (l : Lists) (run : Tally) where
  pub no_edges : run.edges ≡ 0 → Does step_out (regrow w u) l run l (Err (finish (Nothing NoSilhouette) run))
  unfolding regrow
  no_edges e = looked _ (stopped _ _ refl (eq-eqb run.edges 0 e))

  module _ {l1 : Lists} {r : Step} (some : run.edges ≡ 0 → ⊥) (g : Does step_out (grow_all w u run.edges 0) l run l1 r) where
    pub regrow-ended : {e : Finish} → r ≡ Err e → Does step_out (regrow w u) l run l1 (Err e)
    unfolding regrow
    regrow-ended t = looked _ (not_stopped _ (ne_eqb run.edges 0 some) (ends-here _ g _ refl t))

    pub regrown : {x : Tally} {l2 : Lists} {r2 : Step} → r ≡ Ok x → Does step_out (close_ring run.faces) l1 x l2 r2 → Does step_out (regrow w u) l run l2 r2
    unfolding regrow
    regrown t c = looked _ (not_stopped _ (ne_eqb run.edges 0 some) (goes_on _ g t c))

-- ---- the silhouette

told-as : (b : Bool) (a : WalkAnswer) (l : Lists) (c : Tally) → step_out l (finished_if b a c) ≡ passed_if b a (state_of l c)
told-as true (Ok n) l c = refl
told-as true (Err _) l c = refl
told-as false (Ok n) l c = refl
told-as false (Err _) l c = refl

-- the pass of the three neighbours of the face i, by either walk, comes as far as r
pub lined : (y : Walk) (w : Numbers) (point i : ℕ) (l : Lists) (run : Tally) {a b c : Facing} {deleted edges pending : List ℕ} {r : PlainSoFar} {room : ℕ} {x : Step}
    → a ≡ facing_from l.face_ids i 0 run.missed → b ≡ facing_from l.face_ids i 1 a.missed → c ≡ facing_from l.face_ids i 2 b.missed
    → walking_by deleted edges pending r ≡ pass_by y (mesh_of w l point) (walking (walked l.deleted l.edges c.missed (Ok 0)) l.pending 0 false) a.question b.question c.question
    → room ≡ length l.edges / 2 → x ≡ finished_of run room r → Does step_out (silhouette y w point i) l run (with_deleted deleted (with_edges edges (with_pending pending l))) x
unfolding silhouette
lined y w point i l run {deleted = deleted} {edges = edges} {pending = pending} {r = r} {room = room} ia ib ic does is_room is_end =
    let l1 = with_deleted deleted (with_edges edges (with_pending pending l)) in
    let told = told-as r.short r.answer l1 (passed_tally (recorded_of room r.answer) r.held r.missed run) in
    record { same = ap (step_out l1) is_end ∙ told ∙ rw is_room (ap (λ (t : Walking). passed (state_of l run) t) (rw (ic, ib, ia) at does)) }

-- ---- the expansion

module _ (y : Walk) (w : Numbers) (u : Expansion) (l : Lists) (run : Tally) {deleted : List ℕ} {l1 : Lists} {r : Step} (gone : deleted ≡ set l.deleted u.face 1)
    (g : Does step_out (silhouette y w u.point u.face) (with_deleted deleted l) run l1 r) where
  deletes : Does step_out (delete u.face) l run (with_deleted deleted l) (Ok run)
  unfolding delete ◌>>=◌ look put
  deletes = record { same = rw gone }

  pub expand-ended : {e : Finish} → r ≡ Err e → Does step_out (expand y w u) l run l1 (Err e)
  unfolding expand
  expand-ended t = goes_on _ deletes refl (ends-here _ g _ refl t)

  pub expanded : {x : Tally} {l2 : Lists} {r2 : Step} → r ≡ Ok x → Does step_out (regrow w u) l1 x l2 r2 → Does step_out (expand y w u) l run l2 r2
  unfolding expand
  expanded t h = goes_on _ deletes refl (goes_on _ g t h)
