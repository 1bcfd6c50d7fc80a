-- Terms and slopes by document 02's powers, computed from the definitions.
use mathlib.Core.Path.{◌≡◌, refl}
use mathlib.Core.List.{List, [], ◌∷◌}
use Prim.Native.Nat.{ℕ}
use lib.IntN.{ℤ, pos, negsuc}
use Rattle.lists.specs.Loops.{carry}
use Rattle.integers.specs.Rounding.{floor_by, ceil_by}
use Rattle.integers.specs.Least.{min_ℤ, max_ℤ}
use Rattle.intervals.specs.Interval.{add_i, sum_i, scale_i, wide_i, out_i, mul_i}
use Rattle.intervals.specs.Places.{side_at}
use Rattle.intervals.specs.declared.Interval.{Interval}
use Rattle.powers.specs.Powers.{holds_zero, square_range, square_i, power_i}
use Rattle.jobs.specs.declared.Equation.{Equation}
use Rattle.slopes.specs.Terms.{factor_i, term_over, equation_over, lowered, term_slope, slope_over}

abbrev from : ℤ → ℤ → Interval
from a b = record { lo = a; hi = b }

-- one term: c times the unknowns, as often as the exponents say
abbrev term : ℤ → List ℕ → Equation
term c e = record { count = 1; terms = record { coef = c; exps = e } ∷ [] }

-- "then multiply the coefficient by the powers in unknown order": a mark times 1/2 is rounded before it is doubled
pub coefficient-first : equation_over 2 (term (pos 1) (1 ∷ 1 ∷ []))
    (side_at (from (pos 32768) (pos 32768) ∷ from (pos 131072) (pos 131072) ∷ [])) ≡ from (pos 0) (pos 2)
unfolding equation_over term_over factor_i power_i sum_i add_i mul_i out_i wide_i min_ℤ max_ℤ floor_by ceil_by carry
coefficient-first = refl

-- at a point too: twice the rounded square of a mark
pub square-at-point : equation_over 1 (term (pos 131072) (2 ∷ [])) (side_at (from (pos 1) (pos 1) ∷ []))
    ≡ from (pos 0) (pos 2)
unfolding equation_over term_over factor_i power_i square_i square_range holds_zero
    sum_i add_i mul_i out_i wide_i min_ℤ max_ℤ floor_by ceil_by carry
square-at-point = refl

-- "Slopes use the same powers": that of x³ over [-1.0, 1.0] is three times the square, [0, 1.0]
pub slope-of-cube : slope_over 1 (term (pos 65536) (3 ∷ [])) 0 (side_at (from (negsuc 65535) (pos 65536) ∷ []))
    ≡ from (pos 0) (pos 196608)
unfolding slope_over term_slope lowered term_over factor_i power_i square_i square_range holds_zero
    sum_i add_i scale_i mul_i out_i wide_i min_ℤ max_ℤ floor_by ceil_by carry
slope-of-cube = refl
