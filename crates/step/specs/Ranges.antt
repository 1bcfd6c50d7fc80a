-- What the step's functions ask: a box within 4.0, equations and an inverse of document 01's sizes. A step keeps the
-- box within them.
use Rattle.std.specs.Prelude.{ℕ, ◌<◌, ◌≤◌, ℤ}
use Rattle.sizes.specs.Sizes.{n_max, end_max, entry_max}
use Rattle.integers.specs.Ranges.{Within}
use Rattle.intervals.specs.Ranges.{InI, AroundZero}
use Rattle.intervals.specs.Interval.{add_i, neg_i}
use Rattle.sizes.specs.Bounds.{value_max, slope_max, d_max, e_max}
use Rattle.slopes.specs.Ranges.{BoxIn, SystemIn}
use Rattle.intervals.specs.declared.Interval.{Interval}
use Rattle.jobs.specs.declared.Equation.{Equation}

-- "entries of the inverse: -4,194,304 to 4,194,304"
pub record InverseIn (n : ℕ) (C : ℕ → ℕ → ℤ) : Type 0 where
  pub each : (i k : ℕ) → i < n → k < n → Within (C i k) entry_max

-- what a step takes
pub record StepIn (n : ℕ) (q : ℕ → Equation) (C : ℕ → ℕ → ℤ) (X : ℕ → Interval) : Type 0 where
  pub system : SystemIn n q
  pub inverse : InverseIn n C
  pub box : BoxIn n X

-- what the image takes: the box, its middles, F and S
pub record ImageIn (n : ℕ) (C : ℕ → ℕ → ℤ) (X M F : ℕ → Interval) (S : ℕ → ℕ → Interval) : Type 0 where
  pub inverse : InverseIn n C
  pub box : BoxIn n X
  pub middles : BoxIn n M
  pub around : (k : ℕ) → k < n → AroundZero (add_i (X k) (neg_i (M k)))
  pub values : (k : ℕ) → k < n → InI value_max (F k)
  pub slopes : (i j : ℕ) → i < n → j < n → InI slope_max (S i j)

-- the parts of K = m - D + E
pub record JoinIn (n : ℕ) (M D E : ℕ → Interval) : Type 0 where
  pub places : n ≤ n_max
  pub middles : (i : ℕ) → i < n → InI end_max (M i)
  pub d : (i : ℕ) → i < n → InI d_max (D i)
  pub e : (i : ℕ) → i < n → InI e_max (E i)
