-- The laws of a value carried through the places, over its start a and its change f.
use mathlib.Core.Path.{◌≡◌, refl, ap, ◌∙◌}
use Prim.Native.Nat.{ℕ, zero, suc, ◌+◌, ◌<◌, ◌≤◌}
use native.Mathlib.Nat.{le_antisymm}
use native.Mathlib.Numerals.{add-one}
use native.Mathlib.Omega.{arith}
use Rattle.lists.specs.Loops.{carry}

module _ {ℓ} {A : Type ℓ} (a : A) (f : ℕ → A → A) where
  -- before the loop
  pub carry-none : a ≡ carry 0 a f
  unfolding carry
  carry-none = refl

  -- a turn
  pub carry-more : (n : ℕ) {s : A} → s ≡ carry n a f → f n s ≡ carry (n + 1) a f
  unfolding carry
  carry-more n e = rw (add-one, e)

  -- after the loop
  pub carry-done : {i n : ℕ} {s : A} → i ≤ n → n ≤ i → s ≡ carry i a f → s ≡ carry n a f
  carry-done h k e = rw (← le_antisymm h k) e

-- only the changes below n count
pub carry-cong {ℓ} : {A : Type ℓ} (n : ℕ) (a : A) (f g : ℕ → A → A) → ((i : ℕ) (s : A) → i < n → f i s ≡ g i s)
    → carry n a f ≡ carry n a g
unfolding carry
carry-cong zero a f g h = refl
carry-cong (suc n) a f g h =
    ap (f n) (carry-cong n a f g (λ i s l. h i s (omega arith))) ∙ h n (carry n a g) (omega arith)
