-- `job_put::rows::put_sided_line` meets its contract.
use borrow.Author.Rules.{rules}
use native.Mathlib.Omega.{arith}
use mathlib.Core.Path.{◌≡◌}
use lib.ListN.{length, take, length-take}
use mir.Facts.{to_z-of_z}
use Rattle.sizes.specs.Sizes.{n_max, entry_max}
use Rattle.digits.specs.Number.{digits_max}
use Rattle.digits.proofs.Show.{number_short}
use Rattle.writing.specs.Wrote.{line}
use Rattle.writing.proofs.Lists.{taken-first, list-short}
use Rattle.writing.proofs.Wrote.{wrote-append, wrote_as}
use Rattle.lines.proofs.Checks.{within-below}
use Rattle.job_put.proofs.Matrix.{sided-parts}
use Rattle.job_put.proofs.rows.put_sided_line.Goals as goal

pub put_list-b-requires : goal.put_list-b-requires
put_list-b-requires c =
    let row = c.args.row in
    let n = c.args.n in
    let long : length row ≡ n_max = search rules in (
      omega arith,
      omega (
        arith,
        c.put_bytes-a.ensures.next,
        c.requires.room,
        c.requires.few,
        length-take n row,
      ),
      rw (taken-first n row (omega (arith, long, c.requires.few)))
          (within-below n row digits_max entry_max (omega arith) c.requires.left),
    )

pub put_byte-c-requires : goal.put_byte-c-requires
put_byte-c-requires c =
    let xs = take c.args.n c.args.row in
    omega (
      arith,
      c.put_bytes-a.ensures.next,
      c.put_list-b.ensures.next,
      list-short digits_max xs,
      length-take c.args.n c.args.row,
      c.requires.room,
      c.requires.few,
    )

pub put_number-d-requires : goal.put_number-d-requires
put_number-d-requires c =
    let xs = take c.args.n c.args.row in (
      omega arith,
      omega (
        arith,
        c.put_bytes-a.ensures.next,
        c.put_list-b.ensures.next,
        c.put_byte-c.ensures.next,
        list-short digits_max xs,
        length-take c.args.n c.args.row,
        c.requires.room,
        c.requires.few,
      ),
      rw (to_z-of_z c.ranges.right) (omega (arith, c.requires.side.abs)),
    )

pub put_byte-requires : goal.put_byte-requires
put_byte-requires c =
    let xs = take c.args.n c.args.row in
    let number = rw (to_z-of_z c.ranges.right) at c.put_number-d.ensures in
    omega (
      arith,
      c.put_bytes-a.ensures.next,
      c.put_list-b.ensures.next,
      c.put_byte-c.ensures.next,
      number.next,
      number_short digits_max c.args.right,
      list-short digits_max xs,
      length-take c.args.n c.args.row,
      c.requires.room,
      c.requires.few,
    )

pub returns : goal.returns
unfolding line
returns c =
    let row = c.args.row in
    let n = c.args.n in
    let long : length row ≡ n_max = search rules in
    let number = rw (to_z-of_z c.ranges.right) at c.put_number-d.ensures in
    let first = rw (taken-first n row (omega (arith, long, c.requires.few))) at c.put_list-b.ensures in
    let list = wrote-append c.put_bytes-a.ensures first in
    wrote-append
    (wrote_as (sided-parts n row c.args.right c.requires.some)
    (wrote-append (wrote-append list c.put_byte-c.ensures) number))
    c.put_byte.ensures
