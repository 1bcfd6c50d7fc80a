-- mul_wide: the four products fit, and their least and greatest are the ends.
use native.Mathlib.Omega.{arith}
use Rattle.intervals.specs.Interval.{wide_i}
use Rattle.intervals.proofs.Least.{choices}
use Rattle.intervals.proofs.mul_wide.Goals as goal

pub returns : goal.returns
unfolding wide_i
returns c = grind (arith, choices)
