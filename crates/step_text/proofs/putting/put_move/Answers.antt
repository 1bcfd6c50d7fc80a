-- put_move: three lines, one after the other.
use native.Mathlib.Omega.{arith}
use Rattle.text.specs.Words.{lo_key}
use Rattle.writing.proofs.Wrote.{wrote-line, wrote-last}
use Rattle.step_text.specs.Lines.{move_lines}
use Rattle.step_text.proofs.Short.{ends-short, word-short}
use Rattle.step_text.proofs.putting.put_move.Goals as goal

pub put_row_line-b-requires : goal.put_row_line-b-requires
put_row_line-b-requires c =
    let fit = c.requires.ends_fit in
    record {
      few = fit.few;
      wide = omega arith;
      room = omega (arith, c.put_word-a.ensures.next, c.requires.at_le_text_max, word-short c.args.d.what);
      small = fit.low;
    }

pub put_row_line-requires : goal.put_row_line-requires
put_row_line-requires c =
    let fit = c.requires.ends_fit in
    record {
      few = fit.few;
      wide = omega arith;
      room = omega (
        arith,
        c.put_word-a.ensures.next,
        c.put_row_line-b.ensures.next,
        c.requires.at_le_text_max,
        word-short c.args.d.what,
        ends-short lo_key c.args.n c.args.d.ends.lo (omega arith) fit.few,
      );
      small = fit.high;
    }

pub returns : goal.returns
unfolding move_lines
returns c =
    wrote-line _ _ c.put_word-a.ensures
    (wrote-line _ _ c.put_row_line-b.ensures (wrote-last _ c.put_row_line.ensures))
