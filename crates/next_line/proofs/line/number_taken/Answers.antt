-- `next_line::line::number_taken` meets its contract.
use Rattle.std.proofs.Common.{rules}
use Rattle.reading.specs.Results.{after}
use Rattle.job_form.specs.JobForm.{job_says}
use Rattle.lines.specs.Lines.{number_of}
use Rattle.line_read.proofs.Ways.{said-ok, said-err}
use Rattle.next_line.specs.State.{line_read}
use Rattle.next_line.proofs.Backs.{kind-same}
use Rattle.next_line.proofs.line.number_taken.Goals as goal

pub returns-in_err-s : goal.returns-in_err-s
unfolding line_read job_says after
returns-in_err-s c =
    rw (said-err number_of c.args.line.now _ c.requires.ends c.in_err-s.ensures) (search rules)

pub returns : goal.returns
unfolding line_read job_says after
returns c =
    rw (
      said-ok number_of c.args.line.now _ c.requires.ends c.in_ok-s.ensures,
      c.place_of.ensures,
      kind-same _ c.requires.kind,
    )
