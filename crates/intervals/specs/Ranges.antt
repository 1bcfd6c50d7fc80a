-- What the arithmetic asks of its intervals: "The arithmetic beneath them may state what ranges it needs."
use Rattle.std.specs.Prelude.{ℕ, pos, neg_ℤ, ◌+ℤ◌, ◌*ℤ◌, ◌≤ℤ◌}
use Rattle.std.specs.Int.{w64}
use Rattle.std.proofs.Common.{SFits}
use Rattle.sizes.specs.Bounds.{up_max}
use Rattle.integers.specs.Ranges.{Within}
use Rattle.intervals.specs.declared.Interval.{Interval}
use Rattle.intervals.specs.Interval.{wide_i}

-- the exact results fit a signed 64-bit number
pub record FitsAdd (a b : Interval) : Type 0 where
  pub low : SFits w64 (a.lo +ℤ b.lo)
  pub high : SFits w64 (a.hi +ℤ b.hi)

pub record FitsNeg (a : Interval) : Type 0 where
  pub low : SFits w64 (neg_ℤ a.lo)
  pub high : SFits w64 (neg_ℤ a.hi)

pub record FitsScale (e : ℕ) (a : Interval) : Type 0 where
  pub low : SFits w64 (pos e *ℤ a.lo)
  pub high : SFits w64 (pos e *ℤ a.hi)

pub record FitsMid (a : Interval) : Type 0 where
  pub sum : SFits w64 (a.lo +ℤ a.hi)

-- a product takes intervals, "[a, b] with a <= b"
pub record FitsMul (a b : Interval) : Type 0 where
  pub left : a.lo ≤ℤ a.hi
  pub right : b.lo ≤ℤ b.hi
  pub ll : SFits w64 (a.lo *ℤ b.lo)
  pub lh : SFits w64 (a.lo *ℤ b.hi)
  pub hl : SFits w64 (a.hi *ℤ b.lo)
  pub hh : SFits w64 (a.hi *ℤ b.hi)

-- an interval that holds 0, as X - m does
pub record AroundZero (a : Interval) : Type 0 where
  pub low : a.lo ≤ℤ pos 0
  pub high : pos 0 ≤ℤ a.hi

pub record FitsAround (a b : Interval) : Type 0 where
  pub exact : FitsMul a b
  pub around : AroundZero b

-- a product and its outward rounding
pub record FitsTimes (a b : Interval) : Type 0 where
  pub exact : FitsMul a b
  pub up : Within (wide_i a b).hi up_max

-- an interval with both ends from -B to B
pub record InI (B : ℕ) (a : Interval) : Type 0 where
  pub order : a.lo ≤ℤ a.hi
  pub low : Within a.lo B
  pub high : Within a.hi B
