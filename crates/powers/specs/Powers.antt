-- Document 02, P5: the powers of an unknown over its interval. "Form a power first".
use Rattle.std.specs.Prelude.{Bool, cond, ℕ, eqb, ltb, pos, ◌*ℤ◌}
use Rattle.std.specs.Int.Signed.{le_z}
use Rattle.integers.specs.Least.{min_ℤ, max_ℤ}
use Rattle.lists.specs.Loops.{both}
use Rattle.intervals.specs.Interval.{out_i, mul_i}
use Rattle.intervals.specs.declared.Interval.{Interval}

-- "when the box holds 0": the ends belong to it
unfoldable pub holds_zero : Interval → Bool
holds_zero x = both (le_z x.lo (pos 0)) (le_z (pos 0) x.hi)

-- "the true range of the square (low end 0 when the box holds 0)", exact
unfoldable pub square_range : Interval → Interval
square_range x = record {
  lo = cond (holds_zero x) (pos 0) (min_ℤ (x.lo *ℤ x.lo) (x.hi *ℤ x.hi));
  hi = max_ℤ (x.lo *ℤ x.lo) (x.hi *ℤ x.hi);
}

-- "exponent 2 is the true range of the square .., rounded outward"
unfoldable pub square_i : Interval → Interval
square_i x = out_i (square_range x)

-- "exponent 3 is that square times the unknown, .. rounded outward"
unfoldable pub cube_i : Interval → Interval
cube_i x = mul_i (square_i x) x

-- exponent 1 is the unknown itself; no term has one above 3
unfoldable pub power_i : ℕ → Interval → Interval
power_i e x = cond (ltb e 2) x (cond (eqb e 2) (square_i x) (cube_i x))
