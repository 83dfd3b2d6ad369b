-- `number::digits::root_of` meets its contract, by the facts of `Width.antt` at binary32: n has 47 or 48 digits, and its rounded root 24. Assumes nothing.
use mathlib.Core.Path.{◌≡◌, sym, ◌∙◌, subst}
use Prim.Native.Nat.{ℕ, ◌+◌, ◌-◌, ◌*◌, ◌/◌, ◌%◌, ◌^◌, ◌≤◌, ◌<◌}
use native.Mathlib.Nat.{mod-eq_of_lt}
use native.Mathlib.Omega.{arith}
use lib.Ieee.{binary32}
use Rattle.number.specs.Digits.{Rounded}
use Rattle.number.proofs.Width.{Taken, taken, halved, digits, put}
use Rattle.number.proofs.digits.root_of.Goals as goal
use Rattle.number.proofs.digits.root_of.Goals.{After-nearest_root, Start}

-- n, as the code has it
abbrev radicand : Start → ℕ
radicand c = c.args.t * 2 ^ (23 + (c.args.j - 2 * (c.args.j / 2)))

takes : (c : Start) → Taken binary32 (radicand c)
takes c = taken binary32 c.args.t c.args.j c.requires.0 c.requires.1

-- the shift drops nothing
between : (n : ℕ) → 8388608 * 8388608 ≤ n → n + 2 ^ 24 ≤ 2 ^ 24 * 2 ^ 24 → (0 < n) × (n < 2 ^ 48) × (n % 2 ^ 64 ≡ n)
between n a b =
    let less : n < 2 ^ 64 = omega arith in
    (omega arith, omega arith, mod-eq_of_lt less)

fits : (c : Start) → (0 < radicand c) × (radicand c < 2 ^ 48) × (radicand c % 2 ^ 64 ≡ radicand c)
fits c = between (radicand c) (takes c).many (takes c).few

nearest : (c : After-nearest_root) → Rounded (radicand c.before) c.nearest_root.result
nearest c = subst (λ (n : ℕ). Rounded n c.nearest_root.result) (fits c.before).2 c.nearest_root.ensures

small : (c : After-nearest_root) → c.nearest_root.result < 16777216
small c = (digits binary32 (radicand c.before) c.nearest_root.result (takes c.before) (nearest c)).high_end

pub nearest_root-requires : goal.nearest_root-requires
nearest_root-requires c = subst (λ (n : ℕ). (0 < n) × (n < 2 ^ 48)) (sym (fits c).2) ((fits c).0, (fits c).1)

pub overflow_cast-result : goal.overflow_cast-result
overflow_cast-result c = omega (arith, small c)

pub overflow_add-result : goal.overflow_add-result
overflow_add-result c = omega (arith, small c)

pub returns : goal.returns
returns c =
    let t = c.args.t in
    let j = c.args.j in
    let p = put binary32 (radicand (goal.at.returns c).Start) (j / 2) c.nearest_root.result (omega arith) (takes (goal.at.returns c).Start) (nearest c) in
    (p.0, λ x s. p.1 x (s ∙ halved t 23 j))
