-- A turn of a loop that adds up a scalar product, or that fills a list with such products.
use mathlib.Core.Path.{◌≡◌, refl, sym}
use Prim.Native.Nat.{ℕ, ◌+◌, ◌≤◌}
use Rattle.intervals.specs.declared.Interval.{Interval}
use Rattle.intervals.specs.Interval.{zero_i, add_i, wide_i}
use Rattle.intervals.proofs.Sums.{sum_i-none, sum_i-more, sum_i-done}
use Rattle.lists.proofs.Fills.{fills}
use Rattle.matrices.specs.Products.{dot_i}

module _ (a b : ℕ → Interval) where
  pub dot_none : dot_i 0 a b ≡ zero_i
  unfolding dot_i
  dot_none = sym (sum_i-none (λ k. wide_i (a k) (b k)))

  pub dot_next : (k : ℕ) → dot_i (k + 1) a b ≡ add_i (dot_i k a b) (wide_i (a k) (b k))
  unfolding dot_i
  dot_next k = sym (sum_i-more (λ k. wide_i (a k) (b k)) k refl refl refl)

  -- after the loop
  pub dot-done : {k n : ℕ} {s : Interval} → k ≤ n → n ≤ k → s ≡ dot_i k a b → s ≡ dot_i n a b
  unfolding dot_i
  dot-done h k e = sum_i-done (λ k. wide_i (a k) (b k)) h k e

pub ruleset turns = (fills, dot_none, dot_next)
