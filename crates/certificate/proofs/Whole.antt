-- Laws of whole numbers that the kit's own lack: the product distributes over the sum and is associative. Assumes nothing.
use Prim.Native.Nat.{zero, suc}
use mathlib.Core.Path.{◌≡◌, sym, ap, ◌∙◌}
use lib.IntN.{ℤ, pos, negsuc, suc_ℤ, ◌+ℤ◌, ◌-ℤ◌, ◌*ℤ◌, +ℤ_idl, +ℤ_assoc, +ℤ_comm, +ℤ-neg_ℤ_cancel, suc_ℤ-+ℤ, suc_ℤ-*ℤ, zero-*ℤ, *ℤ_comm}

pub cancel : (a b t : ℤ) → a +ℤ t ≡ b +ℤ t → a ≡ b
cancel a b t e = sym (+ℤ-neg_ℤ_cancel a t) ∙ ap (λ (x : ℤ). x -ℤ t) e ∙ +ℤ-neg_ℤ_cancel b t

pub last-two : (a b c : ℤ) → a +ℤ b +ℤ c ≡ a +ℤ c +ℤ b
last-two a b c = +ℤ_assoc a b c ∙ ap (λ (x : ℤ). a +ℤ x) (+ℤ_comm b c) ∙ sym (+ℤ_assoc a c b)

pub inner : (a b c d : ℤ) → (a +ℤ b) +ℤ (c +ℤ d) ≡ (a +ℤ c) +ℤ (b +ℤ d)
inner a b c d = sym (+ℤ_assoc (a +ℤ b) c d) ∙ ap (λ (x : ℤ). x +ℤ d) (last-two a b c) ∙ +ℤ_assoc (a +ℤ c) b d

-- two functions that agree at zero and grow by the same number at each step agree
module _ (f g : ℤ → ℤ) (t : ℤ) (start : f (pos zero) ≡ g (pos zero)) (f-step : (k : ℤ) → f (suc_ℤ k) ≡ f k +ℤ t) (g-step : (k : ℤ) → g (suc_ℤ k) ≡ g k +ℤ t) where
  up : (k : ℤ) → f k ≡ g k → f (suc_ℤ k) ≡ g (suc_ℤ k)
  up k e = f-step k ∙ ap (λ (x : ℤ). x +ℤ t) e ∙ sym (g-step k)

  down : (k : ℤ) → f (suc_ℤ k) ≡ g (suc_ℤ k) → f k ≡ g k
  down k e = cancel (f k) (g k) t (sym (f-step k) ∙ e ∙ g-step k)

  agree : (k : ℤ) → f k ≡ g k
  agree (pos zero) = start
  agree (pos (suc n)) = up (pos n) (agree (pos n))
  agree (negsuc zero) = down (negsuc zero) start
  agree (negsuc (suc n)) = down (negsuc (suc n)) (agree (negsuc n))

pub sum-times : (a b c : ℤ) → (a +ℤ b) *ℤ c ≡ a *ℤ c +ℤ b *ℤ c
sum-times a b c =
    agree (λ k. (k +ℤ b) *ℤ c) (λ k. k *ℤ c +ℤ b *ℤ c) c
    (ap (λ (x : ℤ). x *ℤ c) (+ℤ_idl b) ∙ sym (ap (λ (x : ℤ). x +ℤ b *ℤ c) (zero-*ℤ c) ∙ +ℤ_idl (b *ℤ c)))
    (λ k. ap (λ (x : ℤ). x *ℤ c) (suc_ℤ-+ℤ k b) ∙ suc_ℤ-*ℤ (k +ℤ b) c)
    (λ k. ap (λ (x : ℤ). x +ℤ b *ℤ c) (suc_ℤ-*ℤ k c) ∙ last-two (k *ℤ c) c (b *ℤ c))
    a

pub times-sum : (a b c : ℤ) → a *ℤ (b +ℤ c) ≡ a *ℤ b +ℤ a *ℤ c
times-sum a b c = *ℤ_comm a (b +ℤ c) ∙ sum-times b c a ∙ ap (λ (x : ℤ). x +ℤ c *ℤ a) (*ℤ_comm b a) ∙ ap (λ (x : ℤ). a *ℤ b +ℤ x) (*ℤ_comm c a)

pub *ℤ-assoc : (a b c : ℤ) → (a *ℤ b) *ℤ c ≡ a *ℤ (b *ℤ c)
*ℤ-assoc a b c =
    agree (λ k. (k *ℤ b) *ℤ c) (λ k. k *ℤ (b *ℤ c)) (b *ℤ c)
    (ap (λ (x : ℤ). x *ℤ c) (zero-*ℤ b) ∙ zero-*ℤ c ∙ sym (zero-*ℤ (b *ℤ c)))
    (λ k. ap (λ (x : ℤ). x *ℤ c) (suc_ℤ-*ℤ k b) ∙ sum-times (k *ℤ b) b c)
    (λ k. suc_ℤ-*ℤ k (b *ℤ c))
    a

-- a * (b * c) is b * (a * c)
pub exchange : (a b c : ℤ) → a *ℤ (b *ℤ c) ≡ b *ℤ (a *ℤ c)
exchange a b c = sym (*ℤ-assoc a b c) ∙ ap (λ (x : ℤ). x *ℤ c) (*ℤ_comm a b) ∙ *ℤ-assoc b a c
