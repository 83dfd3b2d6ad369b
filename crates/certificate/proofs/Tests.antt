-- Laws of the tests that the checker makes: of two at once, and of every element of a list. Assumes nothing.
use mathlib.Core.Path.{◌≡◌, refl, sym, ap, ◌∙◌}
use mathlib.Core.Logic.{◌⊎◌, inl, inr}
use mathlib.Core.Bool.{Bool, true, false, not, ◌&&◌, false≢true}
use mathlib.Core.List.{List, [], ◌∷◌, Memᴰ}
use lib.Dec.{T}
use Rattle.certificate.specs.Certificate.{every}

pub split : (p q : Bool) → p && q ≡ true → (p ≡ true) × (q ≡ true)
split true true h = (refl, refl)
split true false h = absurd (false≢true h)
split false q h = absurd (false≢true h)

pub join : {p q : Bool} → p ≡ true → q ≡ true → p && q ≡ true
join h k = rw (h, k)

pub neither : (p q : Bool) → p && q ≡ false → (p ≡ false) ⊎ (q ≡ false)
neither true q h = inr h
neither false q h = inl refl

pub known : (b : Bool) → (b ≡ true) ⊎ (b ≡ false)
known true = inl refl
known false = inr refl

pub T_of : {b : Bool} → b ≡ true → T b
T_of e = rw e tt

pub of_T : (b : Bool) → T b → b ≡ true
of_T true h = refl
of_T false h = absurd h

pub T-not-of : (b : Bool) → b ≡ false → T (not b)
T-not-of b e = rw e tt

-- a test that another implies adds nothing to it
pub implied : (p q : Bool) → (q ≡ true → p ≡ true) → p && q ≡ q
implied true q f = refl
implied false true f = f refl
implied false false f = refl

pub every-implied : {A : Type 0} (t s : A → Bool) → ((x : A) → t x ≡ true → s x ≡ true) → (l : List A) → every t l ≡ true → every s l ≡ true
unfolding every
every-implied t s f [] h = refl
every-implied t s f (x ∷ l) h = let both = split (t x) (every t l) h in join (f x both.0) (every-implied t s f l both.1)

module _ {A : Type 0} (t : A → Bool) where
  -- every element passes: so does each
  pub each : (l : List A) → every t l ≡ true → {x : A} → Memᴰ x l → t x ≡ true
  unfolding every
  each [] h m = elim m [ ]
  each (y ∷ l) h (Memᴰ.head e) = ap t e ∙ (split (t y) (every t l) h).0
  each (y ∷ l) h (Memᴰ.tail m) = each l (split (t y) (every t l) h).1 m

  pub every_of : (l : List A) → ((x : A) → Memᴰ x l → t x ≡ true) → every t l ≡ true
  unfolding every
  every_of [] f = refl
  every_of (y ∷ l) f = join (f y (Memᴰ.head refl)) (every_of l (λ x m. f x (Memᴰ.tail m)))

  -- and where not every one passes, some does not
  pub record Failing (l : List A) : Type 0 where
    pub element : A
    pub there : Memᴰ element l
    pub fails : t element ≡ false

  later : {y : A} {l : List A} → Failing l → Failing (y ∷ l)
  later f = record { element = f.element; there = Memᴰ.tail f.there; fails = f.fails }

  pub some-fails : (l : List A) → every t l ≡ false → Failing l
  unfolding every
  some-fails [] h = absurd (false≢true (sym h))
  some-fails (y ∷ l) h = by (neither (t y) (every t l) h) (some-fails l)
    where
      by : (t y ≡ false) ⊎ (every t l ≡ false) → (every t l ≡ false → Failing l) → Failing (y ∷ l)
      by (inl e) below = record { element = y; there = Memᴰ.head refl; fails = e }
      by (inr e) below = later (below e)

  pub not-every : (l : List A) → Failing l → every t l ≡ false
  not-every l f = by (known (every t l))
    where
      by : (every t l ≡ true) ⊎ (every t l ≡ false) → every t l ≡ false
      by (inl e) = absurd (false≢true (sym f.fails ∙ each l e f.there))
      by (inr e) = e
