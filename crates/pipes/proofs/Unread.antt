-- What is not read yet is not lost: the window of an answered record stands at the same offset of the file as the given one (`same-offset`), with the bytes of that one that were not read first
-- (`same_bytes`), and at the file's end there was none (`none_left`). Assumes nothing.
use Prim.Native.Nat.{ℕ, ◌+◌, ◌-◌, ◌≤◌}
use mathlib.Core.Path.{◌≡◌, refl, ap, subst, ◌∙◌}
use mathlib.Core.List.{List}
use mathlib.Core.Bool.{Bool, true, false, cond}
use native.Mathlib.Omega.{arith}
use lib.Dec.{leb, ltb}
use lib.ListN.{length, take, drop, length-drop}
use lib.Seq.{sets-eq, take_at, length-take-le}
use borrow.Author.Tests.{le-ltb, leb-true, leb-false}
use Rattle.window.specs.declared.Window.{Window}
use Rattle.window.specs.Window.{offset_of, rest_of, front_of}
use Rattle.pipes.specs.Pipes.{run, enough_of, Filled, ready_of, FilledIn, Begun}
use Rattle.pipes.specs.declared.Failed.{Failed}
use Rattle.pipes.specs.declared.End.{End}
use Rattle.std.specs.Prelude.{Result, Ok, Err}
use Rattle.pipes.proofs.Reading.{found}

-- ---- a window that was filled

-- the bytes that are not read, at the input's start
front_bytes : (s : List ℕ) (from until : ℕ) (some : Bool) → leb from until ≡ some → until ≤ length s → take (cond some (until - from) 0) (front_of s from until) ≡ take (cond some (until - from) 0) (drop from s)
unfolding front_of
front_bytes s from until true e h =
    let k : from ≤ until = leb-true from until e in
    let n = until - from in
    let l = take n (drop from s) in
    let m : length l ≡ n = length-take-le n (drop from s) (omega (arith, length-drop from s)) in
    rw (le-ltb (length s) until h, le-ltb until from k) (ap (take n) (sets-eq l s 0 (omega (arith, m))) ∙ take_at l (drop (0 + length l) s) n m)
front_bytes s from until false e h = refl

-- by whether the given window has what decides a record
module _ (w v : Window) (s t : List ℕ) (h : Filled w s t (Ok v)) where
  seen_bytes : (b : Bool) → enough_of w ≡ b → w.until ≤ length s → take (rest_of w.from w.until) (drop v.from t) ≡ take (rest_of w.from w.until) (drop w.from s)
  seen_bytes true e k = let x : v ≡ w = cc (h.enough e).0 in let y : t ≡ s = (h.enough e).1 in rw (x, y)
  seen_bytes false e k =
      let a = (h.few e).0 in
      rw a.from ((h.few e).1.bytes ∙ front_bytes s w.from w.until (leb w.from w.until) refl k)

  seen-offset : (b : Bool) → enough_of w ≡ b → offset_of v.base v.from ≡ offset_of w.base w.from
  seen-offset true e = let x : v ≡ w = cc (h.enough e).0 in rw x
  seen-offset false e = let a = (h.few e).0 in rw (a.base, a.from) (omega arith)

  rest-none : (some : Bool) → leb w.from w.until ≡ some → cond some (w.until - w.from) 0 ≤ 0 → w.until ≤ w.from
  rest-none true e k = omega (arith, leb-true w.from w.until e)
  rest-none false e k = omega (arith, leb-false w.from w.until e)

  seen_none : (b : Bool) → enough_of w ≡ b → v.until ≤ v.from → w.until ≤ w.from
  seen_none true e k = let x : v ≡ w = cc (h.enough e).0 in subst (λ (y : Window). y.until ≤ y.from) x k
  seen_none false e k = let a = (h.few e).0 in rest-none (leb w.from w.until) refl (omega (arith, a.more, a.from))

-- ---- a run

pub same_bytes : {w v : Window} {at place : ℕ} {o s t : List ℕ} → Begun w at o s t (Ok (run v place)) → w.until ≤ length s
    → take (rest_of w.from w.until) (drop v.from t) ≡ take (rest_of w.from w.until) (drop w.from s)
same_bytes {w} {v} {s = s} {t = t} h k = seen_bytes w v s t (found h).filled (enough_of w) refl k

pub same-offset : {w v : Window} {at place : ℕ} {o s t : List ℕ} → Begun w at o s t (Ok (run v place)) → offset_of v.base v.from ≡ offset_of w.base w.from
same-offset {w} {v} {s = s} {t = t} h = seen-offset w v s t (found h).filled (enough_of w) refl

none_of : (at place : ℕ) (v : Window) (beyond none : Bool) → leb v.until v.from ≡ none
    → Err (End.Done place) ≡ cond beyond (Err (End.Failed at)) (cond none (Err (End.Done at)) (Ok (run v at))) → v.until ≤ v.from
none_of at place v true none f e = let z : ◌≡◌ {A = ℕ} 0 1 = cc in absurd (omega arith)
none_of at place v false true f e = leb-true v.until v.from f
none_of at place v false false f e = let z : ◌≡◌ {A = ℕ} 0 1 = cc in absurd (omega arith)

none_in : (room : Result ℕ Failed) (seen : Result Window Failed) (w : Window) (place : ℕ) (s t : List ℕ) → FilledIn room w s t seen → Err (End.Done place) ≡ ready_of (length t) room seen → w.until ≤ w.from
none_in (Err d) seen w place s t f e = let z : ◌≡◌ {A = ℕ} 0 1 = cc in absurd (omega arith)
none_in (Ok p) (Err d) w place s t f e = let z : ◌≡◌ {A = ℕ} 0 1 = cc in absurd (omega arith)
none_in (Ok p) (Ok v) w place s t f e = seen_none w v s t f (enough_of w) refl (none_of p place v (ltb (length t) v.until) (leb v.until v.from) refl e)

pub none_left : {w : Window} {at place : ℕ} {o s t : List ℕ} → Begun w at o s t (Err (End.Done place)) → w.until ≤ w.from
none_left {w} {place = place} {s = s} {t = t} h = none_in h.room h.seen w place s t h.filled h.answer
