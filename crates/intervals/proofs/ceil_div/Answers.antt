-- ceil_div: with one short of a mark added, the division rounded down is the one rounded up.
use mathlib.Core.Path.{◌∙◌}
use Prim.Native.Nat.{◌-◌}
use mir.Facts.{to_z-of_z}
use Rattle.integers.proofs.Machine.{got}
use Rattle.intervals.specs.Interval.{mark}
use Rattle.intervals.proofs.Division.{rest-fits, floor-up}
use Rattle.intervals.proofs.ceil_div.Goals as goal

pub returns : goal.returns
returns c =
    got c.floor_div.type_inv c.floor_div.ensures
    ∙ simp (to_z-of_z, c.ranges.x, rest-fits c.requires (mark - 1) tt) (floor-up c.args.x)
