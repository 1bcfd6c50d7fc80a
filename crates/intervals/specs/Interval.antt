-- Document 01, "The arithmetic", and what its step asks of two intervals. "An interval is [a, b] with a <= b."
use Rattle.std.specs.Prelude.{Bool, ℕ, ℤ, pos, neg_ℤ, ◌+ℤ◌, ◌*ℤ◌}
use Rattle.std.specs.Int.Signed.{le_z, lt_z}
use Rattle.integers.specs.Equal.{eq_ℤ}
use Rattle.integers.specs.Rounding.{floor_by, ceil_by}
use Rattle.integers.specs.Least.{min_ℤ, max_ℤ, min4, max4}
use Rattle.lists.specs.Loops.{both, carry}
pub use Rattle.sizes.specs.Sizes.{mark}
use Rattle.intervals.specs.declared.Interval.{Interval}

-- [c, c]
abbrev pub point_i : ℤ → Interval
point_i c = record { lo = c; hi = c }

abbrev pub zero_i : Interval
zero_i = point_i (pos 0)

-- "Sums and negations are exact."
unfoldable pub add_i : Interval → Interval → Interval
add_i a b = record { lo = a.lo +ℤ b.lo; hi = a.hi +ℤ b.hi }

unfoldable pub neg_i : Interval → Interval
neg_i a = record { lo = neg_ℤ a.hi; hi = neg_ℤ a.lo }

-- f 0 + .. + f (n - 1)
unfoldable pub sum_i : ℕ → (ℕ → Interval) → Interval
sum_i n f = carry n zero_i (λ i s. add_i s (f i))

-- "its ends multiplied by e"
unfoldable pub scale_i : ℕ → Interval → Interval
scale_i e a = record { lo = pos e *ℤ a.lo; hi = pos e *ℤ a.hi }

-- "the least and the greatest of the four products of ends", exact
unfoldable pub wide_i : Interval → Interval → Interval
wide_i a b = record {
  lo = min4 (a.lo *ℤ b.lo) (a.lo *ℤ b.hi) (a.hi *ℤ b.lo) (a.hi *ℤ b.hi);
  hi = max4 (a.lo *ℤ b.lo) (a.lo *ℤ b.hi) (a.hi *ℤ b.lo) (a.hi *ℤ b.hi);
}

-- "divided by 65,536. The low end is rounded down, the high end up."
unfoldable pub out_i : Interval → Interval
out_i a = record { lo = floor_by mark a.lo; hi = ceil_by mark a.hi }

-- "Product"
unfoldable pub mul_i : Interval → Interval → Interval
mul_i a b = out_i (wide_i a b)

-- "the sum of the ends divided by 2, rounded down"
unfoldable pub mid_i : Interval → ℤ
mid_i a = floor_by 2 (a.lo +ℤ a.hi)

-- does the image k meet x?
unfoldable pub meets_i : Interval → Interval → Bool
meets_i x k = both (le_z k.lo x.hi) (le_z x.lo k.hi)

-- "X low < K low and K high < X high"
unfoldable pub inside_i : Interval → Interval → Bool
inside_i x k = both (lt_z x.lo k.lo) (lt_z k.hi x.hi)

-- "K cut with X"
unfoldable pub cut_i : Interval → Interval → Interval
cut_i x k = record { lo = max_ℤ x.lo k.lo; hi = min_ℤ x.hi k.hi }

-- "is X itself"
unfoldable pub same_i : Interval → Interval → Bool
same_i a b = both (eq_ℤ a.lo b.lo) (eq_ℤ a.hi b.hi)
