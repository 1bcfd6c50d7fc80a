-- `cells::number_at` meets its contract.
use native.Mathlib.Omega.{arith}
use Rattle.cells.specs.Cells.{number_at}
use Rattle.cells.proofs.number_at.Goals as goal

pub returns : goal.returns
unfolding number_at
returns c = omega (arith, c.from.ensures, c.from_le_bytes.ensures)
