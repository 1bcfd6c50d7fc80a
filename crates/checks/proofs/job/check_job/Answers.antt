-- `job::check_job` meets its contract. Where the head is right, n is at most its limit, which the other lines rely on.
use mathlib.Core.Path.{sym, ◌∙◌}
use Rattle.faults.proofs.Laws.{done_first, done_next, fine-line}
use Rattle.checks.specs.Checks.{line_check, job_line_status, head_lines}
use Rattle.checks.proofs.CheckLaws.{unknowns-fine}
use Rattle.checks.proofs.job.check_job.Goals as goal

pub body_lines-requires : goal.body_lines-requires
unfolding head_lines job_line_status line_check
body_lines-requires c =
    let done = sym c.head_lines.ensures ∙ c.in_ok-head_lines.was in
    (unknowns-fine _ (fine-line _ _ (done_first _ _ (done_next _ _ (done_next _ _ done))))).1
