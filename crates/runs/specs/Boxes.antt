-- A box whose ends stand in order, and a box in another.
use Rattle.std.specs.Prelude.{List, ℕ, ◌<◌, ◌≤ℤ◌}
use Rattle.intervals.specs.Fraction.{Inside}
use Rattle.intervals.specs.Places.{side_at}
use Rattle.intervals.specs.declared.Interval.{Interval}

-- "An interval is [a, b] with a <= b."
abbrev pub Ordered : ℕ → (ℕ → Interval) → Type 0
Ordered n X = (k : ℕ) → k < n → (X k).lo ≤ℤ (X k).hi

-- the box x lies in the box y
pub record BoxInside (n : ℕ) (x y : List Interval) : Type 0 where
  pub each : (k : ℕ) → k < n → Inside (side_at x k) (side_at y k)
