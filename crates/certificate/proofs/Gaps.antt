-- How far one whole number is above another, and how such gaps add up in weighted sums. Assumes nothing.
use Prim.Native.Nat.{ℕ, suc, ◌+◌, ◌-◌, ◌*◌, ◌≤◌, ◌<◌}
use mathlib.Core.Path.{◌≡◌, sym, ap, ◌∙◌}
use mathlib.Core.Bool.{true, false≢true}
use native.Mathlib.Nat.{mul-le-mul_left}
use native.Mathlib.Omega.{arith}
use borrow.Author.Tests.{ltb-true, lt-ltb, le-ltb}
use lib.IntN.{ℤ, pos, negsuc, sub_ℕ, ◌+ℤ◌, ◌*ℤ◌, +ℤ_idl, +ℤ_idr, +ℤ_comm}
use lib.Signed.{lt_z}
use Rattle.certificate.proofs.Whole.{cancel, inner, times-sum}

-- b is a and at least n more
pub record Gap (a b : ℤ) (n : ℕ) : Type 0 where
  pub more : ℕ
  pub reaches : a +ℤ pos more ≡ b
  pub enough : n ≤ more

difference : (a b : ℕ) → b ≤ a → sub_ℕ a b ≡ pos (a - b)
difference a b h = rw (le-ltb a b h)

deficit : (a b : ℕ) → a < b → sub_ℕ a b ≡ negsuc (b - suc a)
deficit a b h = rw (lt-ltb a b h)

pub lt-gap : (a b : ℤ) → lt_z a b ≡ true → Gap a b 1
lt-gap (pos a) (pos b) h = let k = ltb-true a b h in record { more = b - a; reaches = ap pos (omega arith); enough = omega arith }
lt-gap (pos a) (negsuc b) h = absurd (false≢true h)
lt-gap (negsuc a) (pos b) h = record { more = b + suc a; reaches = difference (b + suc a) (suc a) (omega arith) ∙ ap pos (omega arith); enough = omega arith }
lt-gap (negsuc a) (negsuc b) h = let k = ltb-true b a h in record { more = a - b; reaches = deficit (a - b) (suc a) (omega arith) ∙ ap negsuc (omega arith); enough = omega arith }

pub gap-zero : (a : ℤ) → Gap a a 0
gap-zero a = record { more = 0; reaches = +ℤ_idr a; enough = omega arith }

pub gap-as : {a b a' b' : ℤ} {m n : ℕ} → a ≡ a' → b ≡ b' → n ≤ m → Gap a b m → Gap a' b' n
gap-as p q le g = record { more = g.more; reaches = ap (λ (x : ℤ). x +ℤ pos g.more) (sym p) ∙ g.reaches ∙ q; enough = let h = g.enough in omega arith }

pub gap-sum : {a b c d : ℤ} {m n : ℕ} → Gap a b m → Gap c d n → Gap (a +ℤ c) (b +ℤ d) (m + n)
gap-sum {a} {b} {c} {d} g h =
    record {
      more = g.more + h.more;
      reaches = inner a c (pos g.more) (pos h.more) ∙ ap (λ (x : ℤ). x +ℤ (c +ℤ pos h.more)) g.reaches ∙ ap (λ (x : ℤ). b +ℤ x) h.reaches;
      enough = let p = g.enough in let q = h.enough in omega arith;
    }

pub gap-times : {a b : ℤ} {n : ℕ} (w : ℕ) → Gap a b n → Gap (pos w *ℤ a) (pos w *ℤ b) (w * n)
gap-times {a} {b} {n} w g =
    record {
      more = w * g.more;
      reaches = sym (times-sum (pos w) a (pos g.more)) ∙ ap (λ (x : ℤ). pos w *ℤ x) g.reaches;
      enough = mul-le-mul_left w g.enough;
    }

-- no number is more than itself
pub no_gap : (a : ℤ) {n : ℕ} → Gap a a (suc n) → ⊥
no_gap a g =
    let e : pos g.more ≡ pos 0 = cancel (pos g.more) (pos 0) a (+ℤ_comm (pos g.more) a ∙ g.reaches ∙ sym (+ℤ_idl a)) in
    let z : g.more ≡ 0 = cc in
    let h = g.enough in
    omega arith
