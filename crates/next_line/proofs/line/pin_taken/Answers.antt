-- `next_line::line::pin_taken` meets its contract: the pin, or lo in its place.
use mathlib.Core.Path.{sym, ◌∙◌}
use Rattle.std.proofs.Common.{rules}
use Rattle.reading.specs.Results.{after}
use Rattle.job_form.specs.JobForm.{job_says}
use Rattle.lines.specs.Lines.{pin_of}
use Rattle.line_read.proofs.Ways.{said-ok, said-err}
use Rattle.next_line.specs.State.{line_read}
use Rattle.next_line.proofs.Backs.{kind-same}
use Rattle.next_line.proofs.line.pin_taken.Goals as goal

pub returns-then-not-pin_stands : goal.returns-then-not-pin_stands
unfolding line_read job_says
returns-then-not-pin_stands c =
    rw (sym c.pin_stands.ensures ∙ c.if-not-pin_stands.true) c.low_taken.ensures

pub returns-in_err-s : goal.returns-in_err-s
unfolding line_read job_says after
returns-in_err-s c =
    rw (
      sym c.pin_stands.ensures ∙ c.if-not-pin_stands.false,
      said-err (pin_of c.args.r.n) c.args.line.now _ c.requires.ends c.in_err-s.ensures,
    )
    (search rules)

pub returns : goal.returns
unfolding line_read job_says after
returns c =
    rw (
      sym c.pin_stands.ensures ∙ c.if-not-pin_stands.false,
      said-ok (pin_of c.args.r.n) c.args.line.now _ c.requires.ends c.in_ok-s.ensures,
      c.place_of.ensures,
      kind-same _ c.requires.kind,
    )
