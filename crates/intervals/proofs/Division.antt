-- A quotient by 65,536, and one that is at most 1 away from it, fits; how the division rounded up follows from the one
-- rounded down.
use mathlib.Core.Path.{◌≡◌}
use Prim.Native.Nat.{ℕ, ◌<◌, ◌-◌}
use native.Mathlib.Nat.{le_of_lt}
use lib.Dec.{T, ltb, ltb→lt, lit<}
use lib.IntN.{ℤ, pos, ◌+ℤ◌}
use mir.Syntax.{w64}
use mir.Facts.{to_z-of_z}
use mir.Val.{SFits}
use Rattle.sizes.specs.Bounds.{up_max}
use Rattle.integers.specs.Ranges.{Within}
use Rattle.integers.specs.Rounding.{floor_by, ceil_by}
use Rattle.integers.proofs.Division.{shr-fits, shr-floor}
use Rattle.integers.proofs.Linear.{zlin}
use Rattle.integers.proofs.Parts.{zorder}
use Rattle.integers.proofs.Ranges.{fits, within-add}
use Rattle.integers.proofs.Rounding.{floor-le, floor-lt, ceil-unique}
use Rattle.intervals.specs.Interval.{mark}

pub some : 0 < mark
some = lit< tt

-- a shift, which is the division rounded down
pub ruleset shifts = (to_z-of_z, shr-fits, shr-floor)

-- what can be rounded up takes less than a mark more
pub rest-fits : {x : ℤ} → Within x up_max → (d : ℕ) → T (ltb d mark) → SFits w64 (x +ℤ pos d)
rest-fits h d t = fits (within-add h (record { abs = le_of_lt (ltb→lt d mark t) })) tt

pub floor-up : (x : ℤ) → floor_by mark (x +ℤ pos (mark - 1)) ≡ ceil_by mark x
floor-up x = ceil-unique mark some _ x
    (simp zlin (omega (zorder, simp zlin at (floor-lt mark some (x +ℤ pos (mark - 1))))))
    (simp zlin (omega (zorder, simp zlin at (floor-le mark some (x +ℤ pos (mark - 1))))))
