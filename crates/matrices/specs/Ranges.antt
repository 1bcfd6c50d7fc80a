-- What the products ask of their factors.
use Rattle.std.specs.Prelude.{ℕ, ◌<◌, ◌≤◌, ℤ}
use Rattle.sizes.specs.Sizes.{n_max, entry_max}
use Rattle.sizes.specs.Bounds.{value_max, slope_max, z_max, b_max}
use Rattle.integers.specs.Ranges.{Within}
use Rattle.intervals.specs.Ranges.{InI, AroundZero}
use Rattle.intervals.specs.declared.Interval.{Interval}

pub record DIn (n : ℕ) (C : ℕ → ℕ → ℤ) (F : ℕ → Interval) : Type 0 where
  pub room : n ≤ n_max
  pub inverse : (i k : ℕ) → i < n → k < n → Within (C i k) entry_max
  pub values : (k : ℕ) → k < n → InI value_max (F k)

pub record BIn (n : ℕ) (C : ℕ → ℕ → ℤ) (S : ℕ → ℕ → Interval) : Type 0 where
  pub room : n ≤ n_max
  pub inverse : (i k : ℕ) → i < n → k < n → Within (C i k) entry_max
  pub slopes : (k j : ℕ) → k < n → j < n → InI slope_max (S k j)

pub record EIn (n : ℕ) (B : ℕ → ℕ → Interval) (Z : ℕ → Interval) : Type 0 where
  pub room : n ≤ n_max
  pub factors : (i k : ℕ) → i < n → k < n → InI b_max (B i k)
  pub sides : (k : ℕ) → k < n → InI z_max (Z k)
  pub around : (k : ℕ) → k < n → AroundZero (Z k)
