-- put_head: two lines, one after the other.
use native.Mathlib.Omega.{arith}
use Rattle.text.specs.Words.{job_key}
use Rattle.writing.proofs.Lines.{count-line-short}
use Rattle.writing.proofs.Wrote.{wrote-line, wrote-last}
use Rattle.listing.specs.Lines.{head_lines}
use Rattle.listing.proofs.Short.{piece, head-short}
use Rattle.listing.proofs.put_head.Goals as goal

pub put_count_line-requires : goal.put_count_line-requires
put_count_line-requires c =
    omega (arith, c.put_count_line-next.ensures.next, c.requires, count-line-short job_key c.args.l.number)

pub returns : goal.returns
unfolding head_lines
returns c =
    piece (wrote-line _ _ c.put_count_line-next.ensures (wrote-last _ c.put_count_line.ensures))
    (head-short _ _)
