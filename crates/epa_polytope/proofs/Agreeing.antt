-- How two runs agree: by `twins-epa` of TwinRuns.antt, which follows both step by step. The statements stand in Agreement.antt. Assumes nothing.
use mathlib.Core.Path.{◌≡◌, refl, subst}
use Prim.Native.Nat.{◌<◌, ◌≤◌}
use native.Mathlib.Omega.{arith}
use Rattle.epa_polytope.specs.Stores.{Lists, State, Store, room_for, state_of, none_yet}
use Rattle.epa_polytope.specs.Steps.{End, no_room, Out, onward, ended, Over}
use Rattle.epa_polytope.specs.Start.{World, VoronoiSimplex}
use Rattle.epa_polytope.specs.Run.{run}
use Rattle.epa_polytope.specs.Bounds.{Ends, faces_at_start}
use Rattle.epa_polytope.specs.Same.{Short, short, Agreed, first_short, second_short, alike, SameEnd, Equivalent, equal, enough}
use Rattle.epa_polytope.proofs.Start.{empty-lent, demand-3}
use Rattle.epa_polytope.proofs.Lengths.{always-suffices}
use Rattle.epa_polytope.proofs.Twins.{same_live}
use Rattle.epa_polytope.proofs.TwinRuns.{twin-lent, twins-epa}

-- an end for want of room that is none
not_short : {l l' : Lists} {e : End} → Short l l' e → ((y : Store) → e ≡ no_room y → room_for y l < room_for y l' → ⊥) → ⊥
not_short (short y h) n = n y refl h

-- two runs, the one over the lists l, the other over l', with their ends and the states that they leave
module _ (w : World) (x : VoronoiSimplex) (l l' : Lists) (e f : End) (s t : State) (p : run w x l ≡ ended e s) (q : run w x l' ≡ ended f t) where
  pub runs-agree : Agreed l l' e f s t
  unfolding run
  runs-agree = (rw (p, q) at (twins-epa l l' w x (state_of l none_yet) (state_of l' none_yet) (empty-lent l) (twin-lent l l'))).held

  -- where no such refusal is
  agree-but : ((y : Store) → e ≡ no_room y → room_for y l < room_for y l' → ⊥) → ((y : Store) → f ≡ no_room y → room_for y l' < room_for y l → ⊥) → SameEnd e f s t
  agree-but ne nf = by runs-agree
    where
      by : Agreed l l' e f s t → SameEnd e f s t
      by (first_short h) = absurd (not_short h ne)
      by (second_short h) = absurd (not_short h nf)
      by (alike h g) = record { end = h; stores = g; living = same_live s t g }

  pub agreement : ((y : Store) → e ≡ no_room y → ⊥) → ((y : Store) → f ≡ no_room y → ⊥) → SameEnd e f s t
  agreement ne nf = agree-but (λ y i _. ne y i) (λ y i _. nf y i)

  pub no_difference : ((y : Store) → Equivalent l l' y) → SameEnd e f s t
  no_difference rooms = agree-but (λ y i h. first y i h (rooms y)) (λ y i h. second y i h (rooms y))
    where
      first : (y : Store) → e ≡ no_room y → room_for y l < room_for y l' → Equivalent l l' y → ⊥
      first y i h (equal m) = omega arith
      first y i h (enough a b) = always-suffices w x l y a s (subst (λ (z : End). run w x l ≡ ended z s) i p)

      second : (y : Store) → f ≡ no_room y → room_for y l' < room_for y l → Equivalent l l' y → ⊥
      second y i h (equal m) = omega arith
      second y i h (enough a b) = always-suffices w x l' y b t (subst (λ (z : End). run w x l' ≡ ended z t) i q)

  pub more_room : ((y : Store) → e ≡ no_room y → ⊥) → ((y : Store) → room_for y l ≤ room_for y l') → SameEnd e f s t
  more_room ne big = agree-but (λ y i _. ne y i) (λ y i h. let m = big y in omega arith)

-- and every run ends
pub record Ran (w : World) (x : VoronoiSimplex) (l : Lists) : Type 0 where
  pub end : End
  pub state : State
  pub ran : run w x l ≡ ended end state

pub runs : (w : World) (x : VoronoiSimplex) (l : Lists) → Ran w x l
runs w x l = by (run w x l) refl (demand-3 w x l)
  where
    by : (o : Out Over) → run w x l ≡ o → Ends (faces_at_start x) o → Ran w x l
    by (onward a t) q h = absurd h
    by (ended e t) q h = record { end = e; state = t; ran = q }
