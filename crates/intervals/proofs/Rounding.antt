-- One outward rounding: each end moves outward.
use lib.IntN.{pos, ◌*ℤ◌}
use lib.Signed.{◌≤ℤ◌}
use Rattle.integers.proofs.Rounding.{floor-le, ceil-ge}
use Rattle.intervals.specs.declared.Interval.{Interval}
use Rattle.intervals.specs.Interval.{mark, out_i}
use Rattle.intervals.proofs.Division.{some}

module _ (a : Interval) where
  pub out-low : (pos mark *ℤ (out_i a).lo) ≤ℤ a.lo
  unfolding out_i
  out-low = floor-le mark some a.lo

  pub out-high : a.hi ≤ℤ (pos mark *ℤ (out_i a).hi)
  unfolding out_i
  out-high = ceil-ge mark some a.hi
