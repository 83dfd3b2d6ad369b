-- A face is pushed, and queued, whatever vertices, edges and pending questions stand beside the faces and the heap. Assumes nothing.
use mathlib.Core.Path.{◌≡◌, refl, sym, ap, ◌∙◌}
use mathlib.Core.Bool.{Bool, true, false}
use Prim.Native.Nat.{ℕ}
use lib.Dec.{leb}
use lib.Ieee.{Float}
use Rattle.std.specs.Prelude.{Ok, Err}
use Rattle.epa_polytope.specs.Promises.{Step, Does, step_out}
use Rattle.epa_polytope.specs.Steps.{Out, onward, ended, Act, Nil, push_face, enqueue, stop_if, put, look, ◌>>=◌, ◌>>◌}
use Rattle.epa_polytope.specs.Stores.{Lists, state_of, face_room, heap_room}
use Rattle.epa_polytope.specs.declared.types.Made.{Made}
use Rattle.epa_polytope.specs.declared.types.Tally.{Tally}
use Rattle.epa_polytope.specs.declared.types.Three.{Three}
use Rattle.epa_growth.specs.Growth.{faces_and_heap}

module _ (k : Lists) where
  -- the same step, with k's others
  abbrev beside : Out Nil → Out Nil
  beside (onward x s) = onward x (state_of (faces_and_heap s.lists k) s.tally)
  beside (ended e s) = ended e (state_of (faces_and_heap s.lists k) s.tally)

  answer-beside : (l : Lists) (r : Step) → step_out (faces_and_heap l k) r ≡ beside (step_out l r)
  answer-beside l (Ok c) = refl
  answer-beside l (Err x) = refl

  does-beside : {a : Act Nil} {l l' : Lists} {c : Tally} {r : Step} → a (state_of (faces_and_heap l k) c) ≡ beside (a (state_of l c)) → Does step_out a l c l' r
      → Does step_out a (faces_and_heap l k) c (faces_and_heap l' k) r
  does-beside {l' = l'} {r = r} e h = record { same = answer-beside l' r ∙ ap beside h.same ∙ sym e }

  pub face-beside : (corners neighbours : Three) (m : Made) {l l' : Lists} {c : Tally} {r : Step} → Does step_out (push_face corners neighbours m) l c l' r
      → Does step_out (push_face corners neighbours m) (faces_and_heap l k) c (faces_and_heap l' k) r
  unfolding push_face ◌>>=◌ ◌>>◌ look stop_if put
  face-beside corners neighbours m {l} {l'} {c} {r} = does-beside (by (leb (face_room l) c.faces) refl)
    where
      by : (b : Bool) → leb (face_room l) c.faces ≡ b → push_face corners neighbours m (state_of (faces_and_heap l k) c) ≡ beside (push_face corners neighbours m (state_of l c))
      by true t = rw t
      by false t = rw t

  pub entry-beside : (i : ℕ) (key : Float) {l l' : Lists} {c : Tally} {r : Step} → Does step_out (enqueue i key) l c l' r
      → Does step_out (enqueue i key) (faces_and_heap l k) c (faces_and_heap l' k) r
  unfolding enqueue ◌>>=◌ ◌>>◌ look stop_if put
  entry-beside i key {l} {l'} {c} {r} = does-beside (by (leb (heap_room l) c.heap) refl)
    where
      by : (b : Bool) → leb (heap_room l) c.heap ≡ b → enqueue i key (state_of (faces_and_heap l k) c) ≡ beside (enqueue i key (state_of l c))
      by true t = rw t
      by false t = rw t
