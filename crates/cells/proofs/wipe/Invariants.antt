-- `cells::wipe` meets its contract.
use Rattle.writing.specs.Wrote.{Wrote}
use Rattle.cells.specs.Cells.{zeros}
use Rattle.cells.proofs.wipe.Given as goal

abbrev pub invariant-loop-i : goal.invariant-loop-i
invariant-loop-i l = Wrote l.initial.bytes l.bytes l.from l.at (zeros l._i)
