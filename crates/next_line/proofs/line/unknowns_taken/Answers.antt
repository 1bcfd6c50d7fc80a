-- `next_line::line::unknowns_taken` meets its contract.
use Rattle.std.proofs.Common.{rules}
use Rattle.reading.specs.Results.{after}
use Rattle.job_form.specs.JobForm.{job_says}
use Rattle.lines.specs.Lines.{unknowns_of}
use Rattle.line_read.proofs.Ways.{said-ok, said-err}
use Rattle.next_line.specs.State.{line_read}
use Rattle.next_line.proofs.Backs.{kind-same}
use Rattle.next_line.proofs.line.unknowns_taken.Goals as goal

pub returns-in_err-n : goal.returns-in_err-n
unfolding line_read job_says after
returns-in_err-n c =
    rw (said-err unknowns_of c.args.line.now _ c.requires.ends c.in_err-n.ensures) (search rules)

pub returns : goal.returns
unfolding line_read job_says after
returns c =
    rw (
      said-ok unknowns_of c.args.line.now _ c.requires.ends c.in_ok-n.ensures,
      c.place_of.ensures,
      c.after_n.ensures,
      c.last_pin.ensures,
      c.kind_of-kind.ensures,
      kind-same _ c.requires.kind,
    )
