-- What lies in an interval: a fraction, with its denominator multiplied out, or another interval.
use Rattle.std.specs.Prelude.{ℤ, pos, ◌*ℤ◌, ◌≤ℤ◌, ◌<ℤ◌}
use Rattle.intervals.specs.declared.Interval.{Interval}

-- u over U lies in A
pub record In (u U : ℤ) (A : Interval) : Type 0 where
  pub den : pos 0 <ℤ U
  pub low : (A.lo *ℤ U) ≤ℤ u
  pub high : u ≤ℤ (A.hi *ℤ U)

-- A lies in B, ends included
pub record Inside (A B : Interval) : Type 0 where
  pub low : B.lo ≤ℤ A.lo
  pub high : A.hi ≤ℤ B.hi
