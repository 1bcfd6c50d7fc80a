-- The laws of an exact sum of intervals, as a loop adds it up.
use mathlib.Core.Path.{◌≡◌, ap, ◌∙◌}
use Prim.Native.Nat.{ℕ, ◌+◌, ◌<◌, ◌≤◌}
use Rattle.lists.proofs.Carry.{carry-none, carry-more, carry-done, carry-cong}
use Rattle.intervals.specs.declared.Interval.{Interval}
use Rattle.intervals.specs.Interval.{zero_i, add_i, sum_i}

module _ (f : ℕ → Interval) where
  pub sum_i-none : zero_i ≡ sum_i 0 f
  unfolding sum_i
  sum_i-none = carry-none zero_i (λ i s. add_i s (f i))

  pub sum_i-more : (i : ℕ) {s v r : Interval} → r ≡ add_i s v → s ≡ sum_i i f → v ≡ f i → r ≡ sum_i (i + 1) f
  unfolding sum_i
  sum_i-more i {s} p e q = p ∙ ap (add_i s) q ∙ carry-more zero_i (λ i s. add_i s (f i)) i e

  pub sum_i-done : {i n : ℕ} {s : Interval} → i ≤ n → n ≤ i → s ≡ sum_i i f → s ≡ sum_i n f
  unfolding sum_i
  sum_i-done h k e = carry-done zero_i (λ i s. add_i s (f i)) h k e

-- only the summands below n count
pub sum_i-cong : (n : ℕ) (f g : ℕ → Interval) → ((i : ℕ) → i < n → f i ≡ g i) → sum_i n f ≡ sum_i n g
unfolding sum_i
sum_i-cong n f g h = carry-cong n zero_i (λ i s. add_i s (f i)) (λ i s. add_i s (g i)) (λ i s l. ap (add_i s) (h i l))
