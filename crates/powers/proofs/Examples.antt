-- Powers computed from the definitions, in marks.
use mathlib.Core.Path.{◌≡◌, refl}
use lib.IntN.{ℤ, pos, negsuc}
use Rattle.integers.specs.Rounding.{floor_by, ceil_by}
use Rattle.integers.specs.Least.{min_ℤ, max_ℤ}
use Rattle.intervals.specs.Interval.{wide_i, out_i, mul_i}
use Rattle.intervals.specs.declared.Interval.{Interval}
use Rattle.powers.specs.Powers.{holds_zero, square_range, square_i, cube_i, power_i}

abbrev from : ℤ → ℤ → Interval
from a b = record { lo = a; hi = b }

-- an end at 0 belongs to the interval; beside it the ends' squares decide
pub touching : power_i 2 (from (pos 0) (pos 131072)) ≡ from (pos 0) (pos 262144)
unfolding floor_by ceil_by min_ℤ max_ℤ out_i holds_zero square_range square_i power_i
touching = refl

pub beside : power_i 2 (from (negsuc 196607) (negsuc 131071)) ≡ from (pos 262144) (pos 589824)
unfolding floor_by ceil_by min_ℤ max_ℤ out_i holds_zero square_range square_i power_i
beside = refl

-- one mark squared is less than a mark
pub outward : power_i 2 (from (pos 1) (pos 1)) ≡ from (pos 0) (pos 1)
unfolding floor_by ceil_by min_ℤ max_ℤ out_i holds_zero square_range square_i power_i
outward = refl

-- the cube of [-1.0, 2.0] is the square, [0, 4.0], times [-1.0, 2.0]
pub around : power_i 3 (from (negsuc 65535) (pos 131072)) ≡ from (negsuc 262143) (pos 524288)
unfolding floor_by ceil_by min_ℤ max_ℤ wide_i out_i mul_i holds_zero square_range square_i cube_i power_i
around = refl

-- one mark short of 4.0: the square is rounded to a mark, and the mark is multiplied too
pub rounded : power_i 3 (from (pos 262143) (pos 262143)) ≡ from (pos 4194256) (pos 4194261)
unfolding floor_by ceil_by min_ℤ max_ℤ wide_i out_i mul_i holds_zero square_range square_i cube_i power_i
rounded = refl
