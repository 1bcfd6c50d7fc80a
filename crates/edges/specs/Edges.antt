-- Document 02, P8: "cut that edge at the rounded-down middle".
use Rattle.std.specs.Prelude.{Bool, cond, List, ℕ, ◌<◌, ℤ, pos, ◌-ℤ◌, set, ◌≤ℤ◌, ◌<ℤ◌}
use Rattle.std.specs.Int.Signed.{le_z, lt_z}
use Rattle.std.specs.Int.{w64}
use Rattle.std.proofs.Common.{SFits}
use Rattle.lists.specs.Loops.{carry}
use Rattle.intervals.specs.Interval.{mid_i}
use Rattle.intervals.specs.Places.{side_at}
use Rattle.intervals.specs.declared.Interval.{Interval}

-- an edge's width, in marks
unfoldable pub width_i : Interval → ℤ
width_i a = a.hi -ℤ a.lo

-- it fits a signed 64-bit number
pub record FitsWidth (a : Interval) : Type 0 where
  pub width : SFits w64 (a.hi -ℤ a.lo)

-- of two edges the wider one, k where they are as wide
unfoldable pub wider_of : List Interval → ℕ → ℕ → ℕ
wider_of x i k = cond (lt_z (width_i (side_at x k)) (width_i (side_at x i))) i k

-- "its widest edge (lowest number on ties)"
unfoldable pub widest_of : ℕ → List Interval → ℕ
widest_of n x = carry n 0 (wider_of x)

-- what is meant: one of n edges, none of which is wider, while those with a lower number are narrower
pub record Widest (n : ℕ) (x : List Interval) (k : ℕ) : Type 0 where
  pub live : k < n
  pub most : (i : ℕ) → i < n → width_i (side_at x i) ≤ℤ width_i (side_at x k)
  pub lowest : (i : ℕ) → i < k → width_i (side_at x i) <ℤ width_i (side_at x k)

-- "is at least 2 marks"
unfoldable pub is_wide : ℕ → List Interval → Bool
is_wide n x = le_z (pos 2) (width_i (side_at x (widest_of n x)))

-- "cut that edge at the rounded-down middle, both halves keeping the cut"
abbrev pub low_part : Interval → Interval
low_part a = record { lo = a.lo; hi = mid_i a }

abbrev pub high_part : Interval → Interval
high_part a = record { lo = mid_i a; hi = a.hi }

unfoldable pub low_half : ℕ → List Interval → List Interval
low_half n x = set x (widest_of n x) (low_part (side_at x (widest_of n x)))

unfoldable pub high_half : ℕ → List Interval → List Interval
high_half n x = set x (widest_of n x) (high_part (side_at x (widest_of n x)))
