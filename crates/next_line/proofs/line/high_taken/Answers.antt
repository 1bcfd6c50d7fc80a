-- `next_line::line::high_taken` meets its contract.
use Rattle.std.proofs.Common.{rules}
use Rattle.reading.specs.Results.{after}
use Rattle.job_form.specs.JobForm.{job_says}
use Rattle.lines.specs.Lines.{high_of}
use Rattle.line_read.proofs.Ways.{said-ok, said-err}
use Rattle.next_line.specs.State.{line_read}
use Rattle.next_line.proofs.Backs.{kind-same}
use Rattle.next_line.proofs.line.high_taken.Goals as goal

pub returns-in_err-hi : goal.returns-in_err-hi
unfolding line_read job_says after
returns-in_err-hi c =
    rw (said-err (high_of c.args.r.n c.args.r.lo) c.args.line.now _ c.requires.ends c.in_err-hi.ensures) (search rules)

pub returns : goal.returns
unfolding line_read job_says after
returns c =
    rw (
      said-ok (high_of c.args.r.n c.args.r.lo) c.args.line.now _ c.requires.ends c.in_ok-hi.ensures,
      c.place_of.ensures,
      kind-same _ c.requires.kind,
    )
