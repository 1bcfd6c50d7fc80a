-- `writing::put_count_line` meets its contract.
use native.Mathlib.Omega.{arith}
use Rattle.digits.specs.Number.{digits_max}
use Rattle.digits.proofs.Show.{show-short}
use Rattle.writing.proofs.Wrote.{wrote_keyed}
use Rattle.writing.proofs.put_count_line.Goals as goal

pub put_byte-requires : goal.put_byte-requires
put_byte-requires c =
    omega (
      arith,
      c.put_magnitude-b.ensures.next,
      c.put_bytes-a.ensures.next,
      show-short digits_max c.args.m,
      c.requires,
    )

pub returns : goal.returns
returns c = wrote_keyed c.put_bytes-a.ensures c.put_magnitude-b.ensures c.put_byte.ensures
