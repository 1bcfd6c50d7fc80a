-- mul_around: the least of two products, and the greatest of the other two, are those of all four.
use native.Mathlib.Omega.{arith}
use Rattle.intervals.specs.Interval.{wide_i}
use Rattle.intervals.proofs.Least.{choices}
use Rattle.intervals.proofs.Around.{around-low, around-high}
use Rattle.intervals.proofs.mul_around.Goals as goal

pub returns : goal.returns
unfolding wide_i
returns c = grind (arith, choices, around-low c.requires, around-high c.requires)
