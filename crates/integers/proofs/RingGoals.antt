-- How `ring` is used: the variables' values, then both sides as functions of the variables, then `refl`.
use mathlib.Core.Path.{◌≡◌, refl}
use mathlib.Core.List.{[], ◌∷◌}
use lib.IntN.{ℤ, pos, ◌+ℤ◌, ◌*ℤ◌}
use Rattle.integers.proofs.Ring.{ring, ◌⊕◌, ◌⊗◌, lit}

square-of-sum : (a b : ℤ) → (a +ℤ b) *ℤ (a +ℤ b) ≡ a *ℤ a +ℤ pos 2 *ℤ (a *ℤ b) +ℤ b *ℤ b
square-of-sum a b = ring (a ∷ b ∷ []) (λ a b. (a ⊕ b) ⊗ (a ⊕ b)) (λ a b. a ⊗ a ⊕ lit (pos 2) ⊗ (a ⊗ b) ⊕ b ⊗ b) refl
