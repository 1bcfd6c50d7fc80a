-- `result_write::put_result` meets its contract: six lines, one after the other.
use native.Mathlib.Omega.{arith}
use Rattle.writing.proofs.Wrote.{wrote-line, wrote-last}
use Rattle.result_write.proofs.Ready.{lines-short}
use Rattle.result_write.proofs.put_result.Goals as goal

pub put_count_line-b-requires : goal.put_count_line-b-requires
put_count_line-b-requires c =
    omega (arith, c.put_count_line-a.ensures.next, lines-short c.args.r c.requires.few)

pub put_verdict-c-requires : goal.put_verdict-c-requires
put_verdict-c-requires c =
    omega (
      arith,
      c.put_count_line-a.ensures.next,
      c.put_count_line-b.ensures.next,
      lines-short c.args.r c.requires.few,
    )

pub put_count_line-d-requires : goal.put_count_line-d-requires
put_count_line-d-requires c =
    omega (
      arith,
      c.put_count_line-a.ensures.next,
      c.put_count_line-b.ensures.next,
      c.put_verdict-c.ensures.next,
      lines-short c.args.r c.requires.few,
    )

pub put_row_line-e-requires : goal.put_row_line-e-requires
put_row_line-e-requires c =
    record {
      few = c.requires.few;
      wide = omega arith;
      room = omega (
        arith,
        c.put_count_line-a.ensures.next,
        c.put_count_line-b.ensures.next,
        c.put_verdict-c.ensures.next,
        c.put_count_line-d.ensures.next,
        lines-short c.args.r c.requires.few,
      );
      small = c.requires.low;
    }

pub put_row_line-requires : goal.put_row_line-requires
put_row_line-requires c =
    record {
      few = c.requires.few;
      wide = omega arith;
      room = omega (
        arith,
        c.put_count_line-a.ensures.next,
        c.put_count_line-b.ensures.next,
        c.put_verdict-c.ensures.next,
        c.put_count_line-d.ensures.next,
        c.put_row_line-e.ensures.next,
        lines-short c.args.r c.requires.few,
      );
      small = c.requires.high;
    }

pub returns : goal.returns
returns c =
    wrote-line _ _ c.put_count_line-a.ensures
    (wrote-line _ _ c.put_count_line-b.ensures
    (wrote-line _ _ c.put_verdict-c.ensures
    (wrote-line _ _ c.put_count_line-d.ensures
    (wrote-line _ _ c.put_row_line-e.ensures
    (wrote-last _ c.put_row_line.ensures)))))
