-- When what reads brought is enough (`enough-read`), room for a line (`line-room`), and what a run knows once its bytes are there (`found`, `answerable`). Assumes nothing.
use Prim.Native.Nat.{ℕ, ◌+◌, ◌-◌, ◌≤◌, ◌<◌}
use mathlib.Core.Path.{◌≡◌, refl, sym, ap, subst, ◌∙◌}
use mathlib.Core.List.{List}
use mathlib.Core.Bool.{Bool, true, false, cond}
use mathlib.Core.Logic.{⊎_elim}
use native.Mathlib.Omega.{arith}
use lib.Dec.{leb, ltb}
use lib.ListN.{length}
use borrow.Author.Tests.{le-leb, leb-true, leb-false, ltb-false}
use Rattle.window.specs.declared.Window.{Window}
use Rattle.window.specs.Window.{rest_of}
use Rattle.pipes.specs.Pipes.{run, failed, is_open, enough_of, Grown, Ample, Filled, Roomy, ready_of, FilledIn, Begun, Readied, Answerable}
use Rattle.pipes.specs.declared.Failed.{Failed}
use Rattle.pipes.specs.declared.Run.{Run}
use Rattle.pipes.specs.declared.End.{End}
use Rattle.std.specs.Prelude.{Result, Ok, Err, Option}
use Rattle.std.specs.Io.KnownBytes.{Keeps}
use Rattle.pipes.specs.Bytes.{Drained, Passed}

pub found-enough : {n : ℕ} {w v : Window} → Grown n w v → enough_of v ≡ true → Ample w v
found-enough g e = record { base = g.base; from = g.from; more = g.more; enough = e }

-- 160 bytes from the buffer's start on
from_start : (ended : Bool) (from until : ℕ) → from ≡ 0 → 160 ≤ until → cond ended true (leb 160 (rest_of from until)) ≡ true
from_start true from until e h = refl
from_start false from until e h = rw (e, le-leb 0 until (omega arith)) (le-leb 160 (until - 0) (omega arith))

pub enough-read : {n : ℕ} {w v : Window} → w.from ≡ 0 → 160 ≤ n → Grown n w v → Ample w v
enough-read {n} {w} {v} first all g =
    found-enough g (⊎_elim (λ e. rw e) (λ e. from_start v.ended v.from v.until (g.from ∙ first) (omega (arith, e))) g.brought)

enough-seen : (w v : Window) (s t : List ℕ) → Filled w s t (Ok v) → enough_of v ≡ true
enough-seen w v s t h = by-test (enough_of w) refl
  where
    by-test : (b : Bool) → enough_of w ≡ b → enough_of v ≡ true
    by-test true e = let x : v ≡ w = cc (h.enough e).0 in ap enough_of x ∙ e
    by-test false e = (h.few e).0.enough

-- ---- room for a line

room_at : (at place : ℕ) (short written : Bool) → leb at 65327 ≡ short → cond short (Ok at) (cond written (Ok 0) (Err failed)) ≡ Ok place → place + 209 ≤ 65536
room_at at place true written h e = let x : at ≡ place = cc in omega (arith, leb-true at 65327 h)
room_at at place false true h e = let x : 0 ≡ place = cc in omega arith
room_at at place false false h e = let z : ◌≡◌ {A = ℕ} 0 1 = cc in absurd (omega arith)

-- any line has room at the place
pub line-room : {o : List ℕ} {at place : ℕ} → Roomy o at (Ok place) → place + 209 ≤ 65536
line-room {o} {at} {place} h = room_at at place (leb at 65327) h.written refl (sym h.room)

-- ---- a run

-- where a record is answered, there is room at its place, and its window is the given one, filled, with a byte within the input
pub record Found (w : Window) (at : ℕ) (o s t : List ℕ) (v : Window) (place : ℕ) : Type 0 where
  pub roomy : Roomy o at (Ok place)
  pub filled : Filled w s t (Ok v)
  pub within : v.until ≤ length t
  pub some : v.from < v.until

found_of : (n at place : ℕ) (w v : Window) (beyond none : Bool) → ltb n w.until ≡ beyond → leb w.until w.from ≡ none
    → Ok (run v place) ≡ cond beyond (Err (End.Failed at)) (cond none (Err (End.Done at)) (Ok (run w at)))
    → (w ≡ v) × (at ≡ place) × (w.until ≤ n) × (w.from < w.until)
found_of n at place w v true none b f e = let z : ◌≡◌ {A = ℕ} 0 1 = cc in absurd (omega arith)
found_of n at place w v false true b f e = let z : ◌≡◌ {A = ℕ} 0 1 = cc in absurd (omega arith)
found_of n at place w v false false b f e =
    let same : run v place ≡ run w at = cc in
    (sym (ap (λ (r : Run). r.window) same), sym (ap (λ (r : Run). r.place) same), ltb-false n w.until b, leb-false w.until w.from f)

found_in : (room : Result ℕ Failed) (seen : Result Window Failed) (w v : Window) (at place : ℕ) (o s t : List ℕ) → Roomy o at room → FilledIn room w s t seen
    → Ok (run v place) ≡ ready_of (length t) room seen → Found w at o s t v place
found_in (Err d) seen w v at place o s t h f e = let z : ◌≡◌ {A = ℕ} 0 1 = cc in absurd (omega arith)
found_in (Ok p) (Err d) w v at place o s t h f e = let z : ◌≡◌ {A = ℕ} 0 1 = cc in absurd (omega arith)
found_in (Ok p) (Ok u) w v at place o s t h f e =
    let k = found_of (length t) p place u v (ltb (length t) u.until) (leb u.until u.from) refl refl e in
    let x : Found w at o s t u p = record { roomy = h; filled = f; within = k.2; some = k.3 } in
    subst (λ (y : Window). Found w at o s t y place) k.0 (subst (λ (q : ℕ). Found w at o s t u q) k.1 x)

pub found : {w v : Window} {at place : ℕ} {o s t : List ℕ} → Begun w at o s t (Ok (run v place)) → Found w at o s t v place
found {w} {v} {at} {place} {o} {s} {t} h = found_in h.room h.seen w v at place o s t h.roomy h.filled h.answer

answered-in : (state : Result Run End) (o s t : List ℕ) (w : Window) (place : ℕ) → Readied state o s t (Ok (run w place)) → Answerable (length t) w place
answered-in (Ok r) o s t w place h =
    let f = found (h.begun refl) in
    record { within = f.within; some = f.some; enough = enough-seen r.window w s t f.filled; room = line-room f.roomy }
answered-in (Err e) o s t w place h = absurd (let d = (h.handed refl).0 in cc)

-- its caller, of a record that is there
pub answerable : {state : Result Run End} {o s : List ℕ} (t : List ℕ) (r : Result Run End) → Readied state o s t r → {w : Window} {place : ℕ} → r ≡ Ok (run w place) → Answerable (length t) w place
answerable {state} {o} {s} t r h {w} {place} e = answered-in state o s t w place (subst (Readied state o s t) e h)

-- ---- without room for a line

failed_room : (room : Result ℕ Failed) → ((p : ℕ) → room ≡ Ok p → ⊥) → room ≡ Err failed
failed_room (Ok p) n = absurd (n p refl)
failed_room (Err d) n = refl

-- nothing is read
pub no-place : {state : Result Run End} {o : List ℕ} (s : List ℕ) {r : Run} {room : Result ℕ Failed} → state ≡ Ok r → Roomy o r.place room → ((p : ℕ) → room ≡ Ok p → ⊥) → Readied state o s s (Err (End.Failed 0))
no-place {state} {o} s {r} {room} is h e =
    let f = failed_room room e in
    record {
      begun = λ {w} {at} g.
          let same : r ≡ run w at = cc in
          let P : Result ℕ Failed → Type 0 = λ q. Roomy o at q in
          let Q : Run → Type 0 = λ q. Roomy o q.place room in
          record { room = Err failed; roomy = subst P f (subst Q same h); seen = Err failed; filled = refl; answer = refl };
      handed = λ g. absurd (let z : is_open (Ok r) ≡ false = subst (λ (x : Result Run End). is_open x ≡ false) is g in cc);
    }

pub no-place-passed : {state : Result Run End} {unread held holds : Option (List ℕ)} {o : List ℕ} (s : List ℕ) {r : Run} {room : Result ℕ Failed} → Keeps unread unread → state ≡ Ok r → Drained held holds o r.place room → ((p : ℕ) → room ≡ Ok p → ⊥)
    → Passed unread unread held holds state o s (Err (End.Failed 0))
no-place-passed {state} {unread} {held} {holds} {o} s {r} {room} keeps is h e =
    let f = failed_room room e in
    record {
      moved = λ {w} {at} g.
          let same : r ≡ run w at = cc in
          let P : Result ℕ Failed → Type 0 = λ q. Drained held holds o at q in
          let Q : Run → Type 0 = λ q. Drained held holds o q.place room in
          record { room = Err failed; drained = subst P f (subst Q same h); seen = Err failed; drawn = keeps; answer = refl };
      handed = λ g. absurd (let z : is_open (Ok r) ≡ false = subst (λ (x : Result Run End). is_open x ≡ false) is g in cc);
    }
