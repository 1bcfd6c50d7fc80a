-- `writing::put_bytes` meets its contract.
use native.Mathlib.Numerals.{add-one}
use lib.Seq.{take-suc}
use Rattle.writing.proofs.Wrote.{wrote-append}
use Rattle.writing.proofs.put_bytes.Goals as goal

pub loop-b-preserved : goal.loop-b-preserved
loop-b-preserved c =
    let l = c.loop-b in
    rw (add-one l.b-index, take-suc c.args.bs.now l.b-index 0 c.loop-b-test.true)
    (wrote-append l.invariant c.put_byte-p.ensures)
