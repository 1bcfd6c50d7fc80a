-- `units::sides::put_ends` meets its contract.
use native.Mathlib.Omega.{arith}
use mir.Facts.{to_z-of_z}
use Rattle.writing.proofs.Wrote.{wrote-append}
use Rattle.units.specs.Show.{show_ends}
use Rattle.units.proofs.Short.{units-short}
use Rattle.units.proofs.sides.put_ends.Goals as goal

pub put_bytes-b-requires : goal.put_bytes-b-requires
put_bytes-b-requires c =
    let number = rw (to_z-of_z c.ranges.lo) at c.put_units-a.ensures in
    omega (arith, number.next, units-short c.args.lo, c.requires.0)

pub put_units-requires : goal.put_units-requires
put_units-requires c =
    let number = rw (to_z-of_z c.ranges.lo) at c.put_units-a.ensures in (
      omega (arith, c.put_bytes-b.ensures.next, number.next, units-short c.args.lo, c.requires.0),
      rw (to_z-of_z c.ranges.hi) c.requires.2,
    )

pub returns : goal.returns
unfolding show_ends
returns c =
    wrote-append
    (wrote-append (rw (to_z-of_z c.ranges.lo) at c.put_units-a.ensures) c.put_bytes-b.ensures)
    (rw (to_z-of_z c.ranges.hi) at c.put_units.ensures)
