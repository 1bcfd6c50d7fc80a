-- `answers::put_answer` meets its contract.
use native.Mathlib.Omega.{arith}
use mathlib.Core.List.{[]}
use lib.ListN.{length}
use Rattle.writing.proofs.Wrote.{wrote-append}
use Rattle.writing.proofs.Lines.{count-line-short}
use Rattle.answers.specs.Answers.{packet_of}
use Rattle.answers.proofs.put_answer.Goals as goal

pub put_bytes-requires : goal.put_bytes-requires
put_bytes-requires c =
    let number = c.put_count_line-next.ensures.next in
    omega (arith, number, count-line-short [] (length c.args.answer.now), c.requires)

pub returns : goal.returns
unfolding packet_of
returns c =
    let number = c.put_count_line-next.ensures in
    let bytes = c.put_bytes.ensures in
    record {
      wrote = wrote-append number bytes;
      short = omega (arith, number.next, bytes.next, count-line-short [] (length c.args.answer.now));
    }
