use mathlib.Core.Path.{◌≡◌, sym, ap, ◌∙◌}
use native.Mathlib.Omega.{arith}
use borrow.Author.Rules.{rules}
use Rattle.faults.specs.Checks.{is_bad}
use Rattle.jobs.specs.declared.JobLine.{JobLine}
use Rattle.checks.specs.Checks.{job_line_status, system_lines}
use Rattle.faults.proofs.Laws.{lines_none, lines_more, lines-done, lines-stop}
use Rattle.checks.proofs.job.system_lines.Goals as goal

pub loop-i-init : goal.loop-i-init
loop-i-init c = lines_none _

pub returns-in_err-system_line : goal.returns-in_err-system_line
unfolding system_lines
returns-in_err-system_line c =
    let e : c.from_residual.result ≡ job_line_status (JobLine.System c.loop-i.i) c.args.j = search rules in
    e
    ∙ sym (lines-stop _ _ _ c.loop-i-test.true c.loop-i.invariant
    (ap is_bad (sym c.system_line.ensures ∙ c.in_err-system_line.was)))

pub loop-i-preserved : goal.loop-i-preserved
loop-i-preserved c = lines_more _ _ c.loop-i.invariant (sym c.system_line.ensures ∙ c.in_ok-system_line.was)

pub returns : goal.returns
unfolding system_lines
returns c = sym (lines-done _ {i = c.loop-i.i} (omega arith) c.loop-i-test.false c.loop-i.invariant)
