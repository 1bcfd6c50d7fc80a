-- `writing::put_more` meets its contract.
use Prim.Native.Nat.{◌+◌}
use borrow.Author.Rules.{rules}
use native.Mathlib.Omega.{arith}
use native.Mathlib.Nat.{mul-le-mul_left}
use native.Mathlib.Numerals.{add-one}
use mir.Syntax.{w64}
use mir.Facts.{to_z-of_z}
use lib.IntN.{pos}
use lib.ListN.{get_or}
use Rattle.digits.proofs.Show.{number_short}
use Rattle.text.specs.Lists.{after_commas}
use Rattle.writing.proofs.Wrote.{wrote-append, wrote_none, wrote_as}
use Rattle.writing.proofs.Lists.{below_at, more-one}
use Rattle.writing.proofs.put_more.Goals as goal

pub loop-v-init : goal.loop-v-init
unfolding after_commas
loop-v-init c = record { room = omega arith; wrote = wrote_none _ _ }

pub put_number-p-requires : goal.put_number-p-requires
put_number-p-requires c =
    let l = c.loop-v in
    let test = c.loop-v-test.true in
    let more = mul-le-mul_left (c.args.k + 2) test in (
      c.requires.0,
      omega (arith, l.invariant.room, c.put_byte-p.ensures.next, c.requires.1),
      rw (to_z-of_z {w = w64} {z = get_or c.args.xs.now l.v-index (pos 0)} (search rules))
          (below_at _ _ _ c.requires.2 test),
    )

pub loop-v-preserved : goal.loop-v-preserved
loop-v-preserved c =
    let k = c.args.k in
    let xs = c.args.xs.now in
    let l = c.loop-v in
    let v = get_or xs l.v-index (pos 0) in
    let byte = c.put_byte-p.ensures in
    let number = rw (to_z-of_z {w = w64} {z = v} (search rules)) at c.put_number-p.ensures in
    record {
      room = omega (arith, l.invariant.room, byte.next, number.next, number_short k v);
      wrote = rw (add-one l.v-index)
          (wrote_as (more-one k xs l.v-index c.loop-v-test.true)
          (wrote-append (wrote-append l.invariant.wrote byte) number));
    }
