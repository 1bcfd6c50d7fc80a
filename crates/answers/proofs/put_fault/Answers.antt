-- `answers::put_fault` meets its contract.
use native.Mathlib.Omega.{arith}
use Rattle.writing.proofs.Wrote.{wrote-line, wrote-last}
use Rattle.writing.proofs.Lines.{count-line-short}
use Rattle.answers.specs.Answers.{fault_key, fault_bytes}
use Rattle.answers.proofs.put_fault.Goals as goal

pub put_count_line-requires : goal.put_count_line-requires
put_count_line-requires c =
    omega (arith, c.put_count_line-a.ensures.next, count-line-short fault_key c.from.result)

pub returns : goal.returns
unfolding fault_bytes
returns c = wrote-line _ _ (rw c.from.ensures at c.put_count_line-a.ensures) (wrote-last _ c.put_count_line.ensures)
