-- The vote's laws, for any format. Agreement is an equivalence, and agreeing floats are one value; three equal answers are never voted apart; the vote refuses exactly when no two answers agree, and refusal 5 is its number
-- then; what it answers is one of two that agree. Assumes nothing.
use Prim.Native.Nat.{ℕ}
use mathlib.Core.Path.{◌≡◌, refl, sym, ap, ◌∙◌}
use mathlib.Core.Bool.{Bool, true, false, cond, ◌&&◌, false≢true}
use native.Mathlib.Omega.{arith}
use borrow.Author.Tests.{eqb-true, eq-eqb}
use lib.Dec.{T, eqb}
use lib.IntN.{pos}
use lib.Ieee.{Float, fin, Format, binary32, binary64, fits, to_bits, of_bits}
use lib.Ieee.Bits.{of_bits-to_bits}
use Rattle.vector.specs.declared.vec3.Vec3.{Vec3}
use Rattle.std.specs.Prelude.{Result, Ok, Err}
use Rattle.counts.specs.declared.Counts.{Counts}
use Rattle.vote.specs.declared.Answer.{Answer}
use Rattle.vote.specs.declared.Agreed.{Agreed}
use Rattle.vote.specs.declared.NoAgreement.{NoAgreement}
use Rattle.vote.specs.Vote.{same_bits, same_bits_v, same_counts, agree, agreed, no_agreement, vote_of, verdict_number}

-- ---- agreement is an equivalence: it compares numbers, of each answer the same ones
pub record Equivalence {A : Type 0} (t : A → A → Bool) : Type 0 where
  pub same : (a : A) → t a a ≡ true
  pub turned : (a b : A) → t a b ≡ true → t b a ≡ true
  pub joined : (a b c : A) → t a b ≡ true → t b c ≡ true → t a c ≡ true

numbers : Equivalence eqb
numbers = record {
  same = λ a. eq-eqb a a refl;
  turned = λ a b h. eq-eqb b a (sym (eqb-true a b h));
  joined = λ a b c h k. eq-eqb a c (eqb-true a b h ∙ eqb-true b c k);
}

along : {A B : Type 0} {t : A → A → Bool} (g : B → A) → Equivalence t → Equivalence (λ (a b : B). t (g a) (g b))
along g e = record { same = λ a. e.same (g a); turned = λ a b h. e.turned (g a) (g b) h; joined = λ a b c h k. e.joined (g a) (g b) (g c) h k }

split : (p q : Bool) → p && q ≡ true → (p ≡ true) × (q ≡ true)
split true true h = (refl, refl)
split true false h = absurd (false≢true h)
split false q h = absurd (false≢true h)

join : (p q : Bool) → p ≡ true → q ≡ true → p && q ≡ true
join p q h k = rw (h, k)

both : {A : Type 0} {s t : A → A → Bool} → Equivalence s → Equivalence t → Equivalence (λ (a b : A). s a b && t a b)
both {s = s} {t = t} d e = record {
  same = λ a. join (s a a) (t a a) (d.same a) (e.same a);
  turned = λ a b h. let p = split (s a b) (t a b) h in join (s b a) (t b a) (d.turned a b p.0) (e.turned a b p.1);
  joined = λ a b c h k.
      let p = split (s a b) (t a b) h in
      let q = split (s b c) (t b c) k in
      join (s a c) (t a c) (d.joined a b c p.0 q.0) (e.joined a b c p.1 q.1);
}

vectors-agree : (f : Format) → Equivalence (same_bits_v f)
unfolding same_bits same_bits_v
vectors-agree f =
    let floats = along (to_bits f) numbers in
    both (both (along (λ (v : Vec3). v.x) floats) (along (λ (v : Vec3). v.y) floats)) (along (λ (v : Vec3). v.z) floats)

counts-agree : Equivalence same_counts
unfolding same_counts
counts-agree =
    both (both (both (both (along (λ (c : Counts). c.expansions) numbers) (along (λ (c : Counts). c.made) numbers)) (along (λ (c : Counts). c.live) numbers))
    (along (λ (c : Counts). c.edges) numbers)) (along (λ (c : Counts). c.missed) numbers)

pub answers_agree : (f : Format) → Equivalence (agree f)
unfolding agree
answers_agree f =
    let v = vectors-agree f in
    both (both (along (λ (a : Answer). a.outcome) numbers) (along (λ (a : Answer). a.counts) counts-agree))
    (both (both (along (λ (a : Answer). a.point1) v) (along (λ (a : Answer). a.point2) v)) (along (λ (a : Answer). a.normal) v))

-- Floats agree exactly where they are the same value of the format, whose NaN is one: so no zero passes for the other.
pub same-value : (f : Format) (a b : Float) → T (fits f a) → T (fits f b) → same_bits f a b ≡ true → a ≡ b
unfolding same_bits
same-value f a b s t h = sym (of_bits-to_bits f a s) ∙ ap (of_bits f) (eqb-true (to_bits f a) (to_bits f b) h) ∙ of_bits-to_bits f b t

pub zeros_differ : (f : Format) → same_bits f (fin false 0 (pos 0)) (fin true 0 (pos 0)) ≡ false
unfolding same_bits to_bits
zeros_differ binary32 = refl
zeros_differ binary64 = refl

-- ---- the vote
-- three equal answers are never voted apart, whatever they hold
pub three-same : (f : Format) (a : Answer) → vote_of f a a a ≡ Ok (agreed a 0)
unfolding vote_of
three-same f a = simp ((answers_agree f).same a)

-- the odd channel is 0 where 1 agrees with both, and then 2 and 3 agree too
pub no-odd : (f : Format) (a b c : Answer) → agree f a b ≡ true → agree f a c ≡ true → (vote_of f a b c ≡ Ok (agreed a 0)) × (agree f b c ≡ true)
unfolding vote_of
no-odd f a b c h k =
    let e = answers_agree f in
    (simp (h, k), e.joined b a c (e.turned a b h) k)

-- no two of the three agree
pub record NoTwo (f : Format) (a b c : Answer) : Type 0 where
  pub first-second : agree f a b ≡ false
  pub first-third : agree f a c ≡ false
  pub second-third : agree f b c ≡ false

abbrev decided : Bool → Bool → Bool → Answer → Answer → Result Agreed NoAgreement
decided p q r a b = cond p (Ok (agreed a (cond q 0 3))) (cond q (Ok (agreed a 2)) (cond r (Ok (agreed b 1)) (Err no_agreement)))

all-false : (p q r : Bool) (a b : Answer) → verdict_number (decided p q r a b) ≡ 5 → (p ≡ false) × (q ≡ false) × (r ≡ false)
all-false true q r a b e = absurd (let z : ◌≡◌ {A = ℕ} 0 5 = e in omega arith)
all-false false true r a b e = absurd (let z : ◌≡◌ {A = ℕ} 0 5 = e in omega arith)
all-false false false true a b e = absurd (let z : ◌≡◌ {A = ℕ} 0 5 = e in omega arith)
all-false false false false a b e = (refl, refl, refl)

module _ (f : Format) (a b c : Answer) where
  -- refusal 5 only when no two agree
  pub refused-only : verdict_number (vote_of f a b c) ≡ 5 → NoTwo f a b c
  unfolding vote_of
  refused-only e =
      let w = all-false (agree f a b) (agree f a c) (agree f b c) a b e in
      record { first-second = w.0; first-third = w.1; second-third = w.2 }

  -- and whenever no two agree
  pub refused-whenever : NoTwo f a b c → vote_of f a b c ≡ Err no_agreement
  unfolding vote_of
  refused-whenever n = simp (n.first-second, n.first-third, n.second-third)

  -- an answer is one that two channels agree on: of 1 and 2, else of 1 and 3, else of 2 and 3
  pub first-second-give : agree f a b ≡ true → vote_of f a b c ≡ Ok (agreed a (cond (agree f a c) 0 3))
  unfolding vote_of
  first-second-give e = simp e

  pub first-third-give : agree f a b ≡ false → agree f a c ≡ true → vote_of f a b c ≡ Ok (agreed a 2)
  unfolding vote_of
  first-third-give e g = simp (e, g)

  pub second-third-give : agree f a b ≡ false → agree f a c ≡ false → agree f b c ≡ true → vote_of f a b c ≡ Ok (agreed b 1)
  unfolding vote_of
  second-third-give e g h = simp (e, g, h)
