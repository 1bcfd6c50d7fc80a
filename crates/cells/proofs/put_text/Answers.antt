-- `cells::put_text` meets its contract.
use native.Mathlib.Omega.{arith}
use Rattle.writing.proofs.Wrote.{wrote-append}
use Rattle.cells.specs.Cells.{number_bytes}
use Rattle.cells.proofs.put_text.Goals as goal

pub put_bytes-requires : goal.put_bytes-requires
unfolding number_bytes
put_bytes-requires c =
    omega (
      arith,
      c.put_number-from.ensures.next,
      c.requires,
    )

pub returns : goal.returns
returns c =
    wrote-append c.put_number-from.ensures
    c.put_bytes.ensures
