-- `answers::calls::put_opened` meets its contract.
use native.Mathlib.Omega.{arith}
use Rattle.writing.proofs.Wrote.{wrote-line, wrote-last}
use Rattle.writing.proofs.Lines.{count-line-short}
use Rattle.answers.specs.Calls.{slot_key, opened_bytes}
use Rattle.answers.proofs.calls.put_opened.Goals as goal

pub put_count_line-requires : goal.put_count_line-requires
put_count_line-requires c =
    let slot = c.args.slot in
    omega (arith, c.put_count_line-a.ensures.next, count-line-short slot_key slot)

pub returns : goal.returns
unfolding opened_bytes
returns c =
    wrote-line _ _ c.put_count_line-a.ensures (wrote-last _ c.put_count_line.ensures)
