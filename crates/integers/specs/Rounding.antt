-- Division by a whole number of at least 1, rounded down and rounded up.
use Rattle.std.specs.Prelude.{ℕ, ◌/◌, ℤ, pos, negsuc, neg_ℤ}

-- "Down means toward minus infinity, on negative numbers too." (`negsuc a` is -1 - a.)
unfoldable pub floor_by : ℕ → ℤ → ℤ
floor_by m (pos a) = pos (a / m)
floor_by m (negsuc a) = negsuc (a / m)

unfoldable pub ceil_by : ℕ → ℤ → ℤ
ceil_by m x = neg_ℤ (floor_by m (neg_ℤ x))
