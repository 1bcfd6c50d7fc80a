-- How `given` and `shown` are used: products are unknowns, in whatever order their factors stand.
use mathlib.Core.List.{[], ◌∷◌}
use native.Mathlib.Omega.{arith}
use lib.IntN.{ℤ, pos, ◌+ℤ◌, ◌-ℤ◌, ◌*ℤ◌}
use lib.Signed.{◌≤ℤ◌, ◌<ℤ◌}
use Rattle.integers.proofs.Order.{nonneg-mul, diff-nonneg, square-nonneg}
use Rattle.integers.proofs.Ring.{lit, ◌⊕◌, ◌⊖◌, ◌⊗◌}
use Rattle.integers.proofs.Polynomial.{given, shown, shown<}

commuted : (a b c : ℤ) → (a *ℤ b) ≤ℤ c → (b *ℤ a -ℤ pos 3) <ℤ (c +ℤ pos 1)
commuted a b c h =
    let ρ = a ∷ b ∷ c ∷ [] in
    shown< ρ (λ a b c. b ⊗ a ⊖ lit (pos 3)) (λ a b c. c ⊕ lit (pos 1))
    (omega (arith, given ρ (λ a b c. a ⊗ b) (λ a b c. c) h))

rearranged : (a b c d : ℤ) → a ≤ℤ b → c ≤ℤ d → (a *ℤ d +ℤ b *ℤ c) ≤ℤ (a *ℤ c +ℤ b *ℤ d)
rearranged a b c d h k =
    let ρ = a ∷ b ∷ c ∷ d ∷ [] in
    shown ρ (λ a b c d. a ⊗ d ⊕ b ⊗ c) (λ a b c d. a ⊗ c ⊕ b ⊗ d)
    (omega (
      arith,
      given ρ (λ a b c d. lit (pos 0)) (λ a b c d. (b ⊖ a) ⊗ (d ⊖ c))
          (nonneg-mul (diff-nonneg h) (diff-nonneg k)),
    ))

squares : (a b c : ℤ) → (a *ℤ a +ℤ b *ℤ b) ≤ℤ c → ((a +ℤ b) *ℤ (a +ℤ b)) ≤ℤ (pos 2 *ℤ c)
squares a b c h =
    let ρ = a ∷ b ∷ c ∷ [] in
    shown ρ (λ a b c. (a ⊕ b) ⊗ (a ⊕ b)) (λ a b c. lit (pos 2) ⊗ c)
    (omega (
      arith,
      given ρ (λ a b c. a ⊗ a ⊕ b ⊗ b) (λ a b c. c) h,
      given ρ (λ a b c. lit (pos 0)) (λ a b c. (a ⊖ b) ⊗ (a ⊖ b)) (square-nonneg (a -ℤ b)),
    ))
