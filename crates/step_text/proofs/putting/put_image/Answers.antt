-- put_image: two lines, one after the other.
use native.Mathlib.Omega.{arith}
use Rattle.writing.proofs.Wrote.{wrote-line, wrote-last}
use Rattle.step_text.specs.Lines.{klo_key, image_lines}
use Rattle.step_text.proofs.Short.{ends-short}
use Rattle.step_text.proofs.putting.put_image.Goals as goal

pub put_row_line-requires : goal.put_row_line-requires
put_row_line-requires c =
    let fit = c.requires.ends_fit in
    record {
      few = fit.few;
      wide = omega arith;
      room = omega (
        arith,
        c.put_row_line-next.ensures.next,
        c.requires.at_le_text_max,
        ends-short klo_key c.args.n c.args.k.lo (omega arith) fit.few,
      );
      small = fit.high;
    }

pub returns : goal.returns
unfolding image_lines
returns c =
    wrote-line _ _ c.put_row_line-next.ensures (wrote-last _ c.put_row_line.ensures)
