-- Numbers read in a loop are the next numbers: at each turn those that are in stand before what is left to read. Assumes nothing.
use Prim.Native.Nat.{ℕ, suc, ◌+◌, ◌-◌, ◌≤◌, ◌<◌}
use mathlib.Core.Path.{◌≡◌, refl, sym, ap, ◌∙◌}
use mathlib.Core.List.{List, [], ◌∷◌, ◌++◌}
use native.Mathlib.Omega.{arith}
use lib.ListN.{length, take, set, length-set}
use Rattle.std.specs.Prelude.{Result, Ok, Err}
use Rattle.std.proofs.Common.{append_assoc, append-nil}
use Rattle.std.proofs.lemmas.List.{take_more_set}
use Rattle.casefile.specs.Numbers.{got}
use Rattle.casefile.specs.declared.numbers.Got.{Got}
use Rattle.casefile.specs.declared.records.CaseError.{CaseError}
use Rattle.casefile.specs.Records.{then, number_at, numbers_at, first_words}

-- the numbers w before those that are read yet
abbrev pub before : List ℕ → Result (Got (List ℕ)) CaseError → Result (Got (List ℕ)) CaseError
before w r = then r (λ v q. Ok (got (w ++ v) q))

none : (r : Result (Got (List ℕ)) CaseError) → r ≡ before [] r
none (Ok g) = refl
none (Err e) = refl

joined : (w : List ℕ) (v : ℕ) (r : Result (Got (List ℕ)) CaseError) → before w (then r (λ u q. Ok (got (v ∷ u) q))) ≡ before (w ++ v ∷ []) r
joined w v (Ok g) = rw append_assoc
joined w v (Err e) = refl

-- i numbers are in, and the next stands at `at`
pub record Loop (s : List ℕ) (start count : ℕ) (words : List ℕ) (at i : ℕ) : Type 0 where
  pub within : i ≤ count
  pub long : length words ≡ 11
  pub told : numbers_at count s start ≡ before (take i words) (numbers_at (count - i) s at)

pub begun : (s : List ℕ) (start count : ℕ) (words : List ℕ) → length words ≡ 11 → Loop s start count words start 0
begun s start count words l =
    let whole : count - 0 ≡ count = omega arith in
    record {
      within = omega arith;
      long = l;
      told = rw whole (none (numbers_at count s start));
    }

one : (s : List ℕ) (n m p : ℕ) (r : Result (Got ℕ) CaseError) → n ≡ suc m → number_at s p ≡ r → numbers_at n s p ≡ then r (λ v q. then (numbers_at m s q) (λ w t. Ok (got (v ∷ w) t)))
unfolding numbers_at
one s n m p r e f = rw (e, f)

module _ {s : List ℕ} {start count : ℕ} {words : List ℕ} {at i : ℕ} (l : Loop s start count words at i) where
  -- what the next number makes of the rest
  rest : (r : Result (Got ℕ) CaseError) → i < count → number_at s at ≡ r → numbers_at count s start ≡ before (take i words) (then r (λ v q. then (numbers_at (count - (i + 1)) s q) (λ w t. Ok (got (v ∷ w) t))))
  rest r more e = l.told ∙ ap (before (take i words)) (one s (count - i) (count - (i + 1)) at r (omega arith) e)

  pub next-read : (g : Got ℕ) → count ≤ 11 → i < count → number_at s at ≡ Ok g → Loop s start count (set words i g.value) g.next (i + 1)
  next-read g few more e =
      let here : i < length words = rw l.long (omega arith) in
      record {
        within = omega arith;
        long = length-set words i g.value ∙ l.long;
        told = rest (Ok g) more e ∙ joined (take i words) g.value (numbers_at (count - (i + 1)) s g.next) ∙ rw (take_more_set words i g.value here) refl;
      }

  pub stopped : (e : CaseError) → i < count → number_at s at ≡ Err e → Err e ≡ numbers_at count s start
  stopped e more h = sym (rest (Err e) more h)

  pub done : count ≤ i → first_words count (Ok (got words at)) ≡ numbers_at count s start
  unfolding numbers_at
  done none_left =
      let no_more : count - i ≡ 0 = omega arith in
      let all : i ≡ count = omega arith in
      sym (l.told ∙ rw (no_more, append-nil, all) refl)
