-- How finite sums are used: rules from the outside in, with the summand written as a function.
use mathlib.Core.Path.{◌≡◌, ◌∙◌}
use Prim.Native.Nat.{ℕ, ◌<◌}
use lib.IntN.{ℤ, pos, ◌+ℤ◌, ◌*ℤ◌}
use lib.Signed.{◌≤ℤ◌}
use Rattle.integers.specs.Sums.{sum_to}
use Rattle.integers.proofs.Parts.{zorder}
use Rattle.integers.proofs.Order.{mul-mono-l}
use Rattle.integers.proofs.Sums.{sum-add, sum-mul, sum-swap, sum-le}

weighted : (n : ℕ) (x : ℤ) (f g : ℕ → ℤ) → sum_to n (λ k. x *ℤ f k +ℤ x *ℤ g k) ≡ x *ℤ sum_to n f +ℤ x *ℤ sum_to n g
weighted n x f g = sum-add n (λ k. x *ℤ f k) (λ k. x *ℤ g k) ∙ rw (sum-mul n x f, sum-mul n x g)

exchanged : (n m : ℕ) (f : ℕ → ℕ → ℤ) → sum_to n (λ i. sum_to m (λ j. f i j)) ≡ sum_to m (λ j. sum_to n (λ i. f i j))
exchanged n m f = sum-swap n m f

larger : (n : ℕ) (f g : ℕ → ℤ) → ((k : ℕ) → k < n → f k ≤ℤ g k)
    → sum_to n (λ k. pos 3 *ℤ f k) ≤ℤ sum_to n (λ k. pos 3 *ℤ g k)
larger n f g h = sum-le n (λ k. pos 3 *ℤ f k) (λ k. pos 3 *ℤ g k) (λ k l. mul-mono-l {c = pos 3} (h k l) (omega zorder))
