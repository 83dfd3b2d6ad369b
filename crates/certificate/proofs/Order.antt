-- The order of whole numbers, as tests, and what it says of the corners above a number. Assumes nothing.
use mathlib.Core.Path.{◌≡◌, refl, sym, ◌∙◌}
use mathlib.Core.Bool.{true, false, ◌&&◌, and_comm, true≢false, false≢true}
use mathlib.Core.List.{List}
use mathlib.Core.Logic.{◌⊎◌, inl, inr}
use native.Mathlib.Omega.{arith}
use borrow.Author.Tests.{ltb-true, ltb-false, lt-ltb}
use lib.IntN.{ℤ, pos, negsuc}
use lib.Signed.{lt_z, le_z, ◌≤ℤ◌, lt_z_yes, lt_z_no, le_z_yes, clash_ℤ}
use Rattle.std.specs.Int.{int_max}
use Rattle.certificate.specs.declared.GridVector.{GridVector}
use Rattle.certificate.specs.Certificate.{every, above, product}
use Rattle.certificate.proofs.Tests.{implied, every-implied, known, T_of, of_T, T-not-of}

-- a < b < c
lt_trans : (a b c : ℤ) → lt_z a b ≡ true → lt_z b c ≡ true → lt_z a c ≡ true
lt_trans (pos a) (pos b) (pos c) h k = lt-ltb a c (omega (arith, ltb-true a b h, ltb-true b c k))
lt_trans (pos a) (pos b) (negsuc c) h k = absurd (false≢true k)
lt_trans (pos a) (negsuc b) c h k = absurd (false≢true h)
lt_trans (negsuc a) (pos b) (pos c) h k = refl
lt_trans (negsuc a) (pos b) (negsuc c) h k = absurd (false≢true k)
lt_trans (negsuc a) (negsuc b) (pos c) h k = refl
lt_trans (negsuc a) (negsuc b) (negsuc c) h k = lt-ltb c a (omega (arith, ltb-true b a h, ltb-true c b k))

-- b ≤ a < c
not-lt : (a b c : ℤ) → lt_z a b ≡ false → lt_z a c ≡ true → lt_z b c ≡ true
not-lt (pos a) (pos b) (pos c) h k = lt-ltb b c (omega (arith, ltb-false a b h, ltb-true a c k))
not-lt (pos a) b (negsuc c) h k = absurd (false≢true k)
not-lt (pos a) (negsuc b) (pos c) h k = refl
not-lt (negsuc a) (pos b) c h k = absurd (true≢false h)
not-lt (negsuc a) (negsuc b) (pos c) h k = refl
not-lt (negsuc a) (negsuc b) (negsuc c) h k = lt-ltb c b (omega (arith, ltb-false b a h, ltb-true c a k))

pub not-less : (a b : ℤ) → b ≤ℤ a → lt_z a b ≡ false
not-less a b h = by (known (lt_z a b))
  where
    by : (lt_z a b ≡ true) ⊎ (lt_z a b ≡ false) → lt_z a b ≡ false
    by (inl e) = clash_ℤ (lt_z_yes (T_of e)) h
    by (inr e) = e

pub less_of-not-at-most : (a b : ℤ) → le_z a b ≡ false → lt_z b a ≡ true
less_of-not-at-most a b h = by (known (lt_z b a))
  where
    by : (lt_z b a ≡ true) ⊎ (lt_z b a ≡ false) → lt_z b a ≡ true
    by (inl e) = e
    by (inr e) = absurd (false≢true (sym h ∙ of_T (le_z a b) (lt_z_no {a = b} {b = a} (T-not-of (lt_z b a) e)).le))

pub not-less_of-at-most : (a b : ℤ) → le_z a b ≡ true → lt_z b a ≡ false
not-less_of-at-most a b h = not-less b a (le_z_yes (T_of h))

-- of two numbers the greater decides
module _ (d : GridVector) (a b : ℤ) (second : List GridVector) where
  greater-decides : lt_z a b ≡ true → every (above d a) second && every (above d b) second ≡ every (above d b) second
  unfolding above
  greater-decides h =
      implied (every (above d a) second) (every (above d b) second)
      (every-implied (above d b) (above d a) (λ c k. lt_trans a b (product d c) h k) second)

  other-decides : lt_z a b ≡ false → every (above d b) second && every (above d a) second ≡ every (above d a) second
  unfolding above
  other-decides h =
      implied (every (above d b) second) (every (above d a) second)
      (every-implied (above d a) (above d b) (λ c k. not-lt a b (product d c) h k) second)

pub greatest-decides : (d : GridVector) (a b : ℤ) (second : List GridVector) → every (above d (int_max a b)) second ≡ every (above d a) second && every (above d b) second
greatest-decides d a b second = by (known (lt_z b a))
  where
    by : (lt_z b a ≡ true) ⊎ (lt_z b a ≡ false) → every (above d (int_max a b)) second ≡ every (above d a) second && every (above d b) second
    by (inl e) = rw e (sym (greater-decides d b a second e) ∙ and_comm (every (above d b) second) (every (above d a) second))
    by (inr e) = rw e (sym (other-decides d b a second e))
