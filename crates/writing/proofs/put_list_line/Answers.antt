-- `writing::put_list_line` meets its contract.
use native.Mathlib.Omega.{arith}
use Rattle.writing.proofs.Lists.{list-short}
use Rattle.writing.proofs.Wrote.{wrote_keyed}
use Rattle.writing.proofs.put_list_line.Goals as goal

pub put_byte-requires : goal.put_byte-requires
put_byte-requires c =
    omega (
      arith,
      c.put_list-b.ensures.next,
      c.put_bytes-a.ensures.next,
      list-short c.args.k c.args.xs.now,
      c.requires.1,
    )

pub returns : goal.returns
returns c = wrote_keyed c.put_bytes-a.ensures c.put_list-b.ensures c.put_byte.ensures
