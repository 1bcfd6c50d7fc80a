-- `next_line::line::kind_taken` meets its contract.
use Rattle.std.proofs.Common.{rules}
use Rattle.reading.specs.Results.{after}
use Rattle.job_form.specs.JobForm.{job_says}
use Rattle.lines.specs.Lines.{kind_of}
use Rattle.line_read.proofs.Ways.{said-ok, said-err}
use Rattle.next_line.specs.State.{line_read}
use Rattle.next_line.proofs.line.kind_taken.Goals as goal

pub returns-in_err-kind_line : goal.returns-in_err-kind_line
unfolding line_read job_says after
returns-in_err-kind_line c =
    rw (said-err kind_of c.args.line.now _ c.requires.ends c.in_err-kind_line.ensures) (search rules)

pub returns : goal.returns
unfolding line_read job_says after
returns c =
    rw (
      said-ok kind_of c.args.line.now _ c.requires.ends c.in_ok-kind_line.ensures,
      c.kind_number.ensures,
      c.place_of.ensures,
    )
