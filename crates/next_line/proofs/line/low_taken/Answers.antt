-- `next_line::line::low_taken` meets its contract.
use Rattle.std.proofs.Common.{rules}
use Rattle.reading.specs.Results.{after}
use Rattle.lines.specs.Lines.{low_of}
use Rattle.line_read.proofs.Ways.{said-ok, said-err}
use Rattle.next_line.proofs.Backs.{kind-same}
use Rattle.next_line.proofs.line.low_taken.Goals as goal

pub returns-in_err-lo : goal.returns-in_err-lo
unfolding after
returns-in_err-lo c =
    rw (said-err (low_of c.args.r.n) c.args.line.now _ c.requires.ends c.in_err-lo.ensures) (search rules)

pub returns : goal.returns
unfolding after
returns c =
    rw (
      said-ok (low_of c.args.r.n) c.args.line.now _ c.requires.ends c.in_ok-lo.ensures,
      c.place_of.ensures,
      kind-same _ c.requires.kind,
    )
