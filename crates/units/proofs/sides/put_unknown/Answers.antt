-- `units::sides::put_unknown` meets its contract.
use native.Mathlib.Omega.{arith}
use mir.Facts.{to_z-of_z}
use Rattle.digits.specs.Number.{digits_max}
use Rattle.digits.proofs.Show.{show-short}
use Rattle.writing.specs.Wrote.{line}
use Rattle.writing.proofs.Wrote.{wrote-append}
use Rattle.units.specs.Show.{unknown_line}
use Rattle.units.proofs.Short.{ends-short}
use Rattle.units.proofs.sides.put_unknown.Goals as goal

pub put_bytes-c-requires : goal.put_bytes-c-requires
put_bytes-c-requires c =
    omega (
      arith,
      c.put_magnitude-b.ensures.next,
      show-short digits_max c.args.k,
      c.put_bytes-a.ensures.next,
      c.requires.0,
    )

pub put_ends-d-requires : goal.put_ends-d-requires
put_ends-d-requires c = (
  omega (
    arith,
    c.put_bytes-c.ensures.next,
    c.put_magnitude-b.ensures.next,
    show-short digits_max c.args.k,
    c.put_bytes-a.ensures.next,
    c.requires.0,
  ),
  rw (to_z-of_z c.ranges.lo) c.requires.1,
  rw (to_z-of_z c.ranges.hi) c.requires.2,
)

pub put_byte-requires : goal.put_byte-requires
put_byte-requires c =
    let written = rw (to_z-of_z c.ranges.lo, to_z-of_z c.ranges.hi) at c.put_ends-d.ensures in
    omega (
      arith,
      written.next,
      ends-short c.args.lo c.args.hi,
      c.put_bytes-c.ensures.next,
      c.put_magnitude-b.ensures.next,
      show-short digits_max c.args.k,
      c.put_bytes-a.ensures.next,
      c.requires.0,
    )

pub returns : goal.returns
unfolding unknown_line line
returns c =
    let written = rw (to_z-of_z c.ranges.lo, to_z-of_z c.ranges.hi) at c.put_ends-d.ensures in
    wrote-append
    (wrote-append
    (wrote-append (wrote-append c.put_bytes-a.ensures c.put_magnitude-b.ensures) c.put_bytes-c.ensures)
    written)
    c.put_byte.ensures
